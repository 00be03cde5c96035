use Rattle.std.proofs.Common.{◌≡◌, ◌++◌, List, drop, take, map, filter}
use Rattle.std.specs.List.{AllByRecursion}
use Rattle.std.specs.List.Sorted.{IsStrictlySortedBy}
use Rattle.gx_values.specs.Values.{value_cmp}
use Rattle.gx_schema.specs.Lookups.{data_fields}
use Rattle.gx_ports.specs.LeafMaps.{entry_of, Extends}
use Rattle.gx_model.specs.States.{Row, IsRowOf}
use Rattle.gx_model.specs.Found.{meets_conds}
use Rattle.gx_scan.specs.Groups.{has_others, first_entry, other_entry}
use Rattle.gx_scan.proofs.joined.add_joined_rows.Given as goal

abbrev pub invariant-loop-index : goal.invariant-loop-index
invariant-loop-index l = record {
  rows : (rs : List Row) → AllByRecursion (IsRowOf l.file) rs
      → IsStrictlySortedBy (λ (a b : Row). value_cmp a.0 b.0) rs
      → l.firsts ≡ map (λ (r : Row). entry_of (first_entry l.groups r)) rs
      → l.others ≡ map (λ (r : Row). entry_of (other_entry l.groups r))
      (filter (has_others l.groups.mask.now (data_fields l.file)) rs)
      → (drop l.at l.others ≡ map (λ (r : Row). entry_of (other_entry l.groups r))
      (filter (has_others l.groups.mask.now (data_fields l.file)) (drop l.index rs)))
      × (l.rows.items ≡ l.fn.rows.items ++ filter (meets_conds l.conds) (take l.index rs));
  front : Extends l.fn.rows.items l.rows.items;
  fit : AllByRecursion (IsRowOf l.file) l.fn.rows.items
      → AllByRecursion (IsRowOf l.file) l.rows.items;
}
