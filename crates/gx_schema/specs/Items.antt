-- What a schema's text lists.
use Rattle.std.specs.Prelude.{ℕ, ◌+◌, ◌-◌, ◌<◌, length, List, [], ◌∷◌, ◌++◌}
use Rattle.gx_schema.specs.declared.schema.Schema.{Schema}
use Rattle.gx_schema.specs.declared.item.Item.{Item}
use Rattle.gx_schema.specs.declared.item.Item.TheVariants as items

-- the schema of no file and no link
abbrev pub no_schema : Schema
no_schema = record { files = []; links = [] }

-- the schema with one more file or link
abbrev pub with_item : Schema → Item → Schema
with_item schema (items.File file) =
    record { files = schema.files ++ file ∷ []; links = schema.links }
with_item schema (items.Link link) =
    record { files = schema.files; links = schema.links ++ link ∷ [] }

-- likewise with several
abbrev pub with_items : Schema → List Item → Schema
with_items schema [] = schema
with_items schema (i ∷ is) = with_items (with_item schema i) is

-- the schema may have one more file, or link
abbrev pub HasRoom : Schema → Item → Type 0
HasRoom schema (items.File file) = length schema.files < 32
HasRoom schema (items.Link link) = length schema.links < 32

-- how many files and links more there may be, and one
abbrev pub room_left : Schema → ℕ
room_left schema = 65 - (length schema.files + length schema.links)
