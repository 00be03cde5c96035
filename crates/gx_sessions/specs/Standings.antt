-- What a session keeps, in the words of shared turns.
use Rattle.std.specs.Prelude.{◌≡◌, ℕ, ◌+◌, ◌^◌, ◌<◌, List, [], length, Bool, true, false, Option, Some, None, slice_index_or}
use Rattle.gx_schema.specs.declared.schema.Schema.{Schema}
use Rattle.gx_commands.specs.declared.command.Command.{Command}
use Rattle.gx_commands.specs.declared.command.Command.TheVariants as command
use Rattle.gx_commands.specs.Commands.{IsOfSchema, conds_of, place_reason}
use Rattle.gx_sharing.specs.Locks.{stronger, lock_of}
use Rattle.gx_sharing.specs.Kept.{is_kept, kept_of}
use Rattle.gx_sharing.specs.Sharing.{Session, outside, inside, ended, holds}
use Rattle.gx_sessions.specs.declared.locks.Lock.{Lock}
use Rattle.gx_sessions.specs.declared.locks.Lock.TheVariants.{Free}
use Rattle.gx_sessions.specs.declared.session.SessionState.{SessionState}
use Rattle.gx_sessions.specs.declared.session.Standing.{Standing}
use Rattle.gx_sessions.specs.declared.session.Standing.TheVariants.{Outside, Inside, Ended}
use Rattle.gx_sessions.specs.Places.{mode_of, item_at}

abbrev pub standing_of : Session → Standing
standing_of outside = Outside
standing_of (inside cs) = Inside
standing_of ended = Ended

-- whether it has an open transaction
abbrev pub stands_in : Standing → Bool
stands_in Outside = false
stands_in Inside = true
stands_in Ended = false

-- whether it is in a transaction, also in one that was ended
abbrev pub is_within : Standing → Bool
is_within Outside = false
is_within Inside = true
is_within Ended = true

-- a session that stands so, with nothing carried out
abbrev pub bare : Standing → Session
bare Outside = outside
bare Inside = inside []
bare Ended = ended

-- where a session stands after a command that begins a transaction or ends it
abbrev pub standing_after : Command → Option Standing
standing_after command.Begin = Some Inside
standing_after command.Commit = Some Outside
standing_after command.Abort = Some Outside
standing_after c = None

-- the commands of its open transaction
abbrev pub commands_of : Session → List Command
commands_of outside = []
commands_of (inside cs) = cs
commands_of ended = []

-- the lock at a place
abbrev pub lock_in : List Lock → ℕ → Lock
lock_in locks i = slice_index_or locks i Free

-- it stands so; of its transaction the commands are kept that change something, and the locks are
-- those that it holds
pub record IsSession (schema : Schema) (s : Session) (state : SessionState) : Type 0 where
  pub standing : state.standing ≡ standing_of s
  pub kept : state.kept.items ≡ kept_of (commands_of s)
  pub locks : (i : ℕ) → i < length state.locks.items
      → mode_of (lock_in state.locks.items i) ≡ holds schema s (item_at schema i)

-- each of the commands is of the schema and changes something
abbrev pub AreKept : Schema → List Command → Type 0
AreKept schema cs =
    (i : ℕ) → i < length cs
    → IsOfSchema schema (slice_index_or cs i command.Nothing)
    × (is_kept (slice_index_or cs i command.Nothing) ≡ true)

-- there is a lock for each file and each link, and what is kept may be carried out again
pub record IsWhole (schema : Schema) (state : SessionState) : Type 0 where
  pub places : length state.locks.items ≡ length schema.files + length schema.links
  pub replayed : AreKept schema state.kept.items

-- the command is of the schema, may stand where the session is, and has conditions that a plan can
-- number
pub record IsAnswerable (schema : Schema) (state : SessionState) (c : Command) : Type 0 where
  pub of_schema : IsOfSchema schema c
  pub few : length (conds_of c) < 2 ^ 16
  pub allowed : place_reason (stands_in state.standing) c ≡ None

-- they are the eight sessions, by their numbers from 1
abbrev pub AreSessions : Schema → (ℕ → Session) → List SessionState → Type 0
AreSessions schema session states =
    (k : ℕ) (other : SessionState) → k < 8
    → IsSession schema (session (k + 1)) (slice_index_or states k other)

-- there are eight, and each is whole
pub record AreWhole (schema : Schema) (states : List SessionState) : Type 0 where
  pub eight : length states ≡ 8
  pub each : (k : ℕ) (other : SessionState) → k < 8
      → IsWhole schema (slice_index_or states k other)

-- the locks of a command were added to those that are held
pub record AreStronger (schema : Schema) (c : Command) (old new : List Lock) : Type 0 where
  pub many : length new ≡ length old
  pub each : (i : ℕ) → i < length old
      → mode_of (lock_in new i)
      ≡ stronger (mode_of (lock_in old i)) (lock_of schema c (item_at schema i))

-- there is no lock
abbrev pub AreFree : List Lock → Type 0
AreFree locks = (i : ℕ) → i < length locks → lock_in locks i ≡ Free
