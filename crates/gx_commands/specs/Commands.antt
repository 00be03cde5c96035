-- Which commands are of a schema, and which are allowed inside a transaction and outside.
use Rattle.std.specs.Prelude.{◌≡◌, ◌≢◌, ℕ, ◌<◌, List, [], ◌∷◌, length, Bool, true, false, Option, Some, None, if◌then◌else◌}
use Rattle.std.specs.List.{AllByRecursion}
use Rattle.gx_values.specs.declared.values.Value.{Value}
use Rattle.gx_values.specs.Values.{Fits, AreFit}
use Rattle.gx_schema.specs.declared.schema.FileDef.{FileDef}
use Rattle.gx_schema.specs.declared.schema.Schema.{Schema}
use Rattle.gx_schema.specs.Lookups.{file_at, link_at, field_at, key_kind}
use Rattle.gx_commands.specs.declared.command.Cond.{Cond}
use Rattle.gx_commands.specs.declared.command.Of.{Of}
use Rattle.gx_commands.specs.declared.command.OrderBy.{OrderBy}
use Rattle.gx_commands.specs.declared.command.Find.{Find}
use Rattle.gx_commands.specs.declared.command.Change.{Change}
use Rattle.gx_commands.specs.declared.command.Command.{Command}
use Rattle.gx_commands.specs.declared.command.Command.TheVariants as command
use Rattle.gx_commands.specs.declared.command.LineWhy.{LineWhy}
use Rattle.gx_commands.specs.declared.command.LineWhy.TheVariants as why

-- ---- commands of a schema: their numbers are those of its files, links and fields, and their
-- values fit

-- the value is a key of the file, whether or not a record has it
abbrev pub IsKeyOf : FileDef → Value → Type 0
IsKeyOf file key = Fits (key_kind file) key

-- a field other than the key gets a value that fits
pub record IsChangeOf (file : FileDef) (c : Change) : Type 0 where
  pub past_key : 0 < c.field
  pub in_file : c.field < length file.fields
  pub fits : Fits (field_at file c.field).kind c.value

-- no field is changed twice
abbrev pub AreApart : List Change → Type 0
AreApart [] = Unit {0}
AreApart (c ∷ cs) = AllByRecursion (λ d. c.field ≢ d.field) cs × AreApart cs

pub record IsCondOf (file : FileDef) (c : Cond) : Type 0 where
  pub in_file : c.field < length file.fields
  pub fits : Fits (field_at file c.field).kind c.bound

abbrev pub IsOrderOf : FileDef → OrderBy → Type 0
IsOrderOf file order = order.field < length file.fields

-- the link's members are of the file, and the owner is a key of its owner file
abbrev pub IsOfOf : Schema → ℕ → Option Of → Type 0
IsOfOf schema file None = Unit {0}
IsOfOf schema file (Some of) =
    (of.link < length schema.links) × ((link_at schema of.link).member ≡ file)
    × IsKeyOf (file_at schema (link_at schema of.link).owner) of.owner

pub record IsFindOf (schema : Schema) (q : Find) : Type 0 where
  pub file : q.file < length schema.files
  pub conds : AllByRecursion (IsCondOf (file_at schema q.file)) q.conds
  pub of : IsOfOf schema q.file q.of
  pub order : IsOrderOf (file_at schema q.file) q.order

-- the command is of the schema
abbrev pub IsOfSchema : Schema → Command → Type 0
IsOfSchema schema (command.Insert file values) =
    (file < length schema.files) × AreFit (file_at schema file).fields values
IsOfSchema schema (command.Get file key) =
    (file < length schema.files) × IsKeyOf (file_at schema file) key
IsOfSchema schema (command.Update file key changes) =
    (file < length schema.files) × IsKeyOf (file_at schema file) key
    × AllByRecursion (IsChangeOf (file_at schema file)) changes × AreApart changes
IsOfSchema schema (command.Delete file key) =
    (file < length schema.files) × IsKeyOf (file_at schema file) key
IsOfSchema schema (command.Connect link owner member) =
    (link < length schema.links) × IsKeyOf (file_at schema (link_at schema link).owner) owner
    × IsKeyOf (file_at schema (link_at schema link).member) member
IsOfSchema schema (command.Disconnect link member) =
    (link < length schema.links) × IsKeyOf (file_at schema (link_at schema link).member) member
IsOfSchema schema (command.Members link owner order) =
    (link < length schema.links) × IsKeyOf (file_at schema (link_at schema link).owner) owner
    × IsOrderOf (file_at schema (link_at schema link).member) order
IsOfSchema schema (command.Owner link member) =
    (link < length schema.links) × IsKeyOf (file_at schema (link_at schema link).member) member
IsOfSchema schema (command.Find q) = IsFindOf schema q
IsOfSchema schema (command.ReorganizeFile file) = file < length schema.files
IsOfSchema schema (command.ReorganizeLink link) = link < length schema.links
IsOfSchema schema _ = Unit {0}

-- the conditions of a command
abbrev pub conds_of : Command → List Cond
conds_of (command.Find q) = q.conds
conds_of _ = []

-- ---- the transaction rule

-- whether a command stands outside a transaction alone, inside one alone, or in both places
abbrev pub place_reason : Bool → Command → Option LineWhy
place_reason inside command.Begin = if inside then Some why.InTransaction else None
place_reason inside (command.Get file key) = None
place_reason inside (command.Members link owner order) = None
place_reason inside (command.Owner link member) = None
place_reason inside (command.Find q) = None
place_reason inside command.Nothing = None
place_reason inside _ = if inside then None else Some why.NoTransaction

-- whether a transaction is open after the command
abbrev pub inside_after : Bool → Command → Bool
inside_after inside command.Begin = true
inside_after inside command.Commit = false
inside_after inside command.Abort = false
inside_after inside _ = inside
