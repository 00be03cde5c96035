-- What has to be kept of an open transaction: the commands that change something; and which
-- commands may be answered where another session's changes stand.
use Rattle.std.specs.Prelude.{◌≡◌, List, Bool, true, false, filter}
use Rattle.gx_schema.specs.declared.schema.Schema.{Schema}
use Rattle.gx_commands.specs.declared.command.Command.{Command}
use Rattle.gx_commands.specs.declared.command.Command.TheVariants as command
use Rattle.gx_sharing.specs.Locks.{Item, Mode, is_held, is_exclusive, lock_of, IsItem}

-- the command may change a record or a link, or lays leaves out anew
abbrev pub is_kept : Command → Bool
is_kept (command.Insert f values) = true
is_kept (command.Update f key changes) = true
is_kept (command.Delete f key) = true
is_kept (command.Connect l owner member) = true
is_kept (command.Disconnect l member) = true
is_kept (command.ReorganizeFile f) = true
is_kept (command.ReorganizeLink l) = true
is_kept _ = false

abbrev pub kept_of : List Command → List Command
kept_of cs = filter is_kept cs

-- on no item that the command locks is the other lock exclusive
abbrev pub IsClearOf : Schema → Command → (Item → Mode) → Type 0
IsClearOf schema c other =
    (x : Item) → IsItem schema x → is_held (lock_of schema c x) ≡ true
    → is_exclusive (other x) ≡ false
