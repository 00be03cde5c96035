-- How many steps a search of a file's leaves takes.
use Rattle.std.specs.Prelude.{ℕ, ◌+◌, ◌*◌, ◌≤◌, Bool, List, length, filter}
use Rattle.std.specs.FinMap as fin
use Rattle.gx_values.specs.declared.keys.Span.{Span}
use Rattle.gx_values.specs.Keys.{bytes_of, is_inside}
use Rattle.gx_mapping.specs.Rule.{In}
use Rattle.gx_stack.specs.Tree.{Tree, entries_of}
use Rattle.gx_types.specs.declared.any.AnyMapping.{AnyMapping}
use Rattle.gx_types.specs.Any.{any_rule}
use Rattle.gx_model.specs.States.{File, Row}
use Rattle.gx_model.specs.Found.{value_at}
use Rattle.gx_scan.specs.Files.{rec_of}

-- no record of the file has more leaf entries in the tree
abbrev pub HaveAtMost : ℕ → Tree AnyMapping → File → Type 0
HaveAtMost most t f = (r : Row) → In r (fin.entries f) →
    length (entries_of any_rule t (rec_of r)) ≤ most

abbrev pub is_key_inside : Span → Row → Bool
is_key_inside span r = is_inside span.lo span.hi (bytes_of r.0)

-- the file's records whose key is inside the span
abbrev pub rows_inside : Span → File → List Row
rows_inside span f = filter (is_key_inside span) (fin.entries f)

-- the file's records whose field is inside the span
abbrev pub rows_with : ℕ → Span → File → List Row
rows_with field span f = filter (λ r. is_inside span.lo span.hi (bytes_of (value_at r field)))
    (fin.entries f)

-- ---- bounds, of so many records found, entries of a record and leaves

-- a step for each leaf, and one for each entry of these records
abbrev pub span_bound : (count most leaves : ℕ) → ℕ
span_bound count most leaves = leaves + count * most

-- by an index: a step for each leaf and each of these records, one for each leaf besides, and two
-- for each entry of these records
abbrev pub index_bound : (count most leaves : ℕ) → ℕ
index_bound count most leaves = (count + 1) * leaves + 2 * (count * most)
