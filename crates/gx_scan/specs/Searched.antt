-- A node below another one that has all of a file's records inside a span, with all their entries.
use Rattle.std.specs.Prelude.{◌≡◌, ℕ, ◌<◌, ◌≤◌, true, length}
use Rattle.std.specs.FinMap as fin
use Rattle.gx_values.specs.declared.values.Value.{Value}
use Rattle.gx_values.specs.declared.records.Rec.{Rec}
use Rattle.gx_values.specs.declared.keys.Span.{Span}
use Rattle.gx_values.specs.Keys.{key_of, is_inside}
use Rattle.std.specs.Prelude.{◌∷◌, [], List}
use Rattle.gx_schema.specs.declared.schema.FileDef.{FileDef}
use Rattle.gx_ports.specs.LeafMaps.{LeafMap}
use Rattle.gx_mapping.specs.Rule.{In, IsOf}
use Rattle.gx_stack.specs.Tree.{Tree, leaves_of, tree_form, entries_of}
use Rattle.gx_types.specs.declared.any.AnyMapping.{AnyMapping}
use Rattle.gx_types.specs.Any.{any_rule}
use Rattle.gx_typing.specs.Dues.{file_form}
use Rattle.gx_model.specs.States.{File}
use Rattle.gx_scan.specs.Files.{IsInternal, IsTreeFor}
use Rattle.gx_scan.specs.Steps.{HaveAtMost}

-- the leaves of the second tree hold a part of the file, which has all its records whose keys are
-- inside the span; none of them has more leaf entries there
pub record IsPart (file : FileDef) (span : Span) (t u : Tree AnyMapping) (maps : List LeafMap)
    (f : File) : Type 0 where
  pub part : File
  pub held : IsInternal file u maps part
  pub same : (k : Value) → is_inside span.lo span.hi (key_of (k ∷ [])) ≡ true →
      fin.get part k ≡ fin.get f k
  pub few : (most : ℕ) → HaveAtMost most t f → HaveAtMost most u part

-- where the first tree is for a file, the second one is too, and has such a part of what the first
-- one holds; of a record whose key is inside the span it has all leaf entries
pub record HasInside (span : Span) (t u : Tree AnyMapping) : Type 0 where
  pub tree : (file : FileDef) (n : ℕ) → IsTreeFor file t n → IsTreeFor file u n
  pub fewer : length (leaves_of u) ≤ length (leaves_of t)
  pub leaves : (n : ℕ) → In n (leaves_of u) → In n (leaves_of t)
  pub entries : (r : Rec) → IsOf (tree_form any_rule t) r
      → is_inside span.lo span.hi (key_of r.key) ≡ true
      → entries_of any_rule t r ≡ entries_of any_rule u r
  pub held : (file : FileDef) (maps : List LeafMap) (f : File) → 0 < length file.fields →
      tree_form any_rule t ≡ file_form file
      → IsInternal file t maps f → IsPart file span t u maps f
