use Rattle.std.proofs.Common.{◌≡◌, ◌++◌, List, take, map, filter}
use Rattle.std.specs.List.{AllByRecursion}
use Rattle.gx_ports.specs.LeafMaps.{entry_of, Extends}
use Rattle.gx_model.specs.States.{Row, IsRowOf}
use Rattle.gx_model.specs.Found.{meets_conds}
use Rattle.gx_scan.specs.Entries.{entry_of_row, IsStoredRow}
use Rattle.gx_scan.proofs.coded.add_coded_rows.Given as goal

abbrev pub invariant-loop-index : goal.invariant-loop-index
invariant-loop-index l = record {
  rows : (rs : List Row) → AllByRecursion (IsStoredRow l.file l.place.codes) rs
      → l.entries ≡ map (λ (r : Row). entry_of (entry_of_row l.place.lengths l.place.codes r)) rs
      → l.rows.items ≡ l.fn.rows.items ++ filter (meets_conds l.conds) (take l.index rs);
  front : Extends l.fn.rows.items l.rows.items;
  fit : AllByRecursion (IsRowOf l.file) l.fn.rows.items
      → AllByRecursion (IsRowOf l.file) l.rows.items;
}
