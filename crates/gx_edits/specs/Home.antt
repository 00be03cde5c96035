-- The node of a file's tree that has all leaf entries of a key's record.
use Rattle.std.specs.Prelude.{◌≡◌, ℕ, List}
use Rattle.std.specs.FinMap as fin
use Rattle.gx_values.specs.declared.values.Value.{Value}
use Rattle.gx_values.specs.Values.{AreFit}
use Rattle.gx_schema.specs.declared.schema.FileDef.{FileDef}
use Rattle.gx_schema.specs.Lookups.{data_fields}
use Rattle.gx_ports.specs.LeafMaps.{LeafMap}
use Rattle.gx_mapping.specs.Rule.{In}
use Rattle.gx_stack.specs.Tree.{Tree, leaves_of, entries_of}
use Rattle.gx_types.specs.declared.any.AnyMapping.{AnyMapping}
use Rattle.gx_types.specs.Any.{any_rule}
use Rattle.gx_model.specs.States.{File}
use Rattle.gx_scan.specs.Files.{rec_of, IsInternal, IsTreeFor}

-- the leaves of the tree hold a part of the file, which has what the file has at the key
pub record HoldsKey (file : FileDef) (key : Value) (t : Tree AnyMapping) (maps : List LeafMap)
    (f : File) : Type 0 where
  pub part : File
  pub held : IsInternal file t maps part
  pub same : fin.get part key ≡ fin.get f key

-- the second tree holds such a part of each file that the first one holds, and has all leaf entries
-- of the record with this key
pub record IsHome (file : FileDef) (key : Value) (t u : Tree AnyMapping) : Type 0 where
  pub tree : (n : ℕ) → IsTreeFor file t n → IsTreeFor file u n
  pub leaves : (n : ℕ) → In n (leaves_of u) → In n (leaves_of t)
  pub held : (maps : List LeafMap) (f : File) → IsInternal file t maps f
      → HoldsKey file key u maps f
  pub entries : (values : List Value) → AreFit (data_fields file) values
      → entries_of any_rule t (rec_of (key, values)) ≡ entries_of any_rule u (rec_of (key, values))
