-- Locks on files and links: those that a command takes, those that a transaction holds, and which
-- don't go together.
use Rattle.std.specs.Prelude.{ℕ, ◌<◌, List, [], ◌∷◌, ◌++◌, map, length, Bool, true, false, ◌||◌, ◌==◌, Option, Some, None, if◌then◌else◌}
use Rattle.std.specs.List.{range_with_len}
use Rattle.gx_schema.specs.declared.schema.LinkDef.{LinkDef}
use Rattle.gx_schema.specs.declared.schema.Schema.{Schema}
use Rattle.gx_schema.specs.Lookups.{link_at}
use Rattle.gx_commands.specs.declared.command.Command.{Command}
use Rattle.gx_commands.specs.declared.command.Command.TheVariants as command
use Rattle.gx_commands.specs.declared.command.Of.{Of}

-- what is locked: a file or a link, by its number in the schema
pub data Item : Type 0 where
  file : ℕ → Item
  link : ℕ → Item

-- no lock, a shared one, or an exclusive one
pub data Mode : Type 0 where
  free : Mode
  shared : Mode
  exclusive : Mode

abbrev pub is_held : Mode → Bool
is_held free = false
is_held shared = true
is_held exclusive = true

abbrev pub is_exclusive : Mode → Bool
is_exclusive free = false
is_exclusive shared = false
is_exclusive exclusive = true

-- the stronger of two
abbrev pub stronger : Mode → Mode → Mode
stronger free m = m
stronger exclusive m = exclusive
stronger shared free = shared
stronger shared shared = shared
stronger shared exclusive = exclusive

-- two locks on one item, of different sessions, conflict where one is exclusive and the other is
-- held
abbrev pub conflict : Mode → Mode → Bool
conflict free m = false
conflict shared m = is_exclusive m
conflict exclusive m = is_held m

-- ---- the locks of a command

abbrev pub exclusive_if : Bool → Mode
exclusive_if b = if b then exclusive else free

abbrev pub shared_if : Bool → Mode
shared_if b = if b then shared else free

-- the file is an end of the link
abbrev pub is_end_file : LinkDef → ℕ → Bool
is_end_file def i = (def.owner == i) || (def.member == i)

-- of a `find`: its file, and where `of` stands the owner file and the link
abbrev pub find_lock : Schema → ℕ → Option Of → Item → Mode
find_lock schema found None (file i) = shared_if (found == i)
find_lock schema found None (link j) = free
find_lock schema found (Some of) (file i) =
    shared_if ((found == i) || ((link_at schema of.link).owner == i))
find_lock schema found (Some of) (link j) = shared_if (of.link == j)

-- the lock that a command takes on an item
abbrev pub lock_of : Schema → Command → Item → Mode
lock_of schema (command.Insert f values) (file i) = exclusive_if (f == i)
lock_of schema (command.Update f key changes) (file i) = exclusive_if (f == i)
lock_of schema (command.Get f key) (file i) = shared_if (f == i)
lock_of schema (command.Delete f key) (file i) = exclusive_if (f == i)
lock_of schema (command.Delete f key) (link j) = shared_if (is_end_file (link_at schema j) f)
lock_of schema (command.Connect l owner member) (file i) =
    shared_if (is_end_file (link_at schema l) i)
lock_of schema (command.Connect l owner member) (link j) = exclusive_if (l == j)
lock_of schema (command.Disconnect l member) (file i) = shared_if ((link_at schema l).member == i)
lock_of schema (command.Disconnect l member) (link j) = exclusive_if (l == j)
lock_of schema (command.Members l owner order) (file i) =
    shared_if (is_end_file (link_at schema l) i)
lock_of schema (command.Members l owner order) (link j) = shared_if (l == j)
lock_of schema (command.Owner l member) (file i) = shared_if (is_end_file (link_at schema l) i)
lock_of schema (command.Owner l member) (link j) = shared_if (l == j)
lock_of schema (command.Find q) item = find_lock schema q.file q.of item
lock_of schema _ _ = free

-- the strongest of the locks that commands take on an item
abbrev pub held : Schema → List Command → Item → Mode
held schema [] item = free
held schema (c ∷ cs) item = stronger (lock_of schema c item) (held schema cs item)

-- ---- the items of a schema

-- the file or the link is there
abbrev pub IsItem : Schema → Item → Type 0
IsItem schema (file i) = i < length schema.files
IsItem schema (link j) = j < length schema.links

-- all of them: the files, and then the links
abbrev pub items_of : Schema → List Item
items_of schema =
    map file (range_with_len 0 (length schema.files))
    ++ map link (range_with_len 0 (length schema.links))
