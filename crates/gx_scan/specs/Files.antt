-- The records of a file in the leaves of its node.
use Rattle.std.specs.Prelude.{[], ◌≡◌, ℕ, ◌<◌, ◌≤◌, List, ◌∷◌, length, map}
use Rattle.std.specs.FinMap as fin
use Rattle.gx_values.specs.declared.records.Rec.{Rec}
use Rattle.gx_values.specs.Keys.{width_of, IsKeyKind, AreKeyFields}
use Rattle.gx_schema.specs.declared.schema.FileDef.{FileDef}
use Rattle.gx_schema.specs.Lookups.{key_kind, data_fields}
use Rattle.gx_actual.specs.Bodies.{AreShort}
use Rattle.gx_ports.specs.LeafMaps.{LeafMap}
use Rattle.gx_values.specs.declared.bytes.TheConstants.{MAX_KEY_LEN}
use Rattle.gx_mapping.specs.Rule.{In}
use Rattle.gx_stack.specs.Tree.{Tree, leaves_of, tree_form, IsValid}
use Rattle.gx_stack.specs.Internal.{IsInternal as IsHeld}
pub use Rattle.gx_types.specs.declared.any.AnyMapping.{AnyMapping}
use Rattle.gx_types.specs.Any.{any_rule}
use Rattle.gx_typing.specs.Dues.{file_form}
use Rattle.gx_model.specs.States.{File, Row, HasRowsOf}

-- the record of a form's key and data
abbrev pub rec_of : Row → Rec
rec_of r = record { key = r.0 ∷ []; fields = r.1 }

-- the records of a file, in the order of their keys
abbrev pub file_records : File → List Rec
file_records f = map rec_of (fin.entries f)

-- a valid file, whose records the tree's leaves hold
pub record IsInternal (file : FileDef) (t : Tree AnyMapping) (maps : List LeafMap)
    (f : File) : Type 0 where
  pub fit : HasRowsOf file f
  pub held : IsHeld any_rule t (file_records f) maps

-- the tree's leaves hold some valid file
abbrev pub HasFile : FileDef → Tree AnyMapping → List LeafMap → Type 0
HasFile file t maps = (f : File) × IsInternal file t maps f

-- the file has a key whose bytes can stand in a leaf; its other values are ints and texts, whose
-- lengths can be written
pub record IsStorable (file : FileDef) : Type 0 where
  pub keyed : 0 < length file.fields
  pub key : IsKeyKind (key_kind file)
  pub key_small : width_of (key_kind file) ≤ MAX_KEY_LEN
  pub others : AreKeyFields (data_fields file)
  pub short : AreShort (data_fields file)

-- the tree can hold the records of the file in leaves of which there are so many
pub record IsTreeFor (file : FileDef) (t : Tree AnyMapping) (leaves : ℕ) : Type 0 where
  pub valid : IsValid any_rule t
  pub form : tree_form any_rule t ≡ file_form file
  pub below : (n : ℕ) → In n (leaves_of t) → n < leaves
