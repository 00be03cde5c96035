-- The files and links of a schema in one row, and locks on them.
use Rattle.std.specs.Prelude.{ℕ, ◌-◌, nat_lt, length, if◌then◌else◌}
use Rattle.gx_schema.specs.declared.schema.Schema.{Schema}
use Rattle.gx_sharing.specs.Locks.{Item, file, link, Mode, free, shared, exclusive}
use Rattle.gx_sessions.specs.declared.locks.Lock.{Lock}
use Rattle.gx_sessions.specs.declared.locks.Lock.TheVariants.{Free, Shared, Exclusive}

abbrev pub mode_of : Lock → Mode
mode_of Free = free
mode_of Shared = shared
mode_of Exclusive = exclusive

-- the file or the link at a place: the files stand first, and then the links
abbrev pub item_at : Schema → ℕ → Item
item_at schema i =
    if nat_lt i (length schema.files) then file i else link (i - length schema.files)
