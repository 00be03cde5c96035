use Rattle.std.proofs.Common.{◌≡◌, ◌++◌, List, take, filter}
use Rattle.std.specs.List.{AllByRecursion}
use Rattle.gx_ports.specs.LeafMaps.{Extends}
use Rattle.gx_model.specs.States.{Row, IsRowOf}
use Rattle.gx_model.specs.Found.{meets_conds}
use Rattle.gx_scan.specs.Columns.{AreColumnEntries}
use Rattle.gx_scan.proofs.by_columns.add_rows_of_columns.Given as goal

abbrev pub invariant-loop-index : goal.invariant-loop-index
invariant-loop-index l = record {
  rows : (rs : List Row) → AllByRecursion (IsRowOf l.file) rs
      → AreColumnEntries l.places l.columns rs
      → l.rows.items ≡ l.fn.rows.items ++ filter (meets_conds l.conds) (take l.index rs);
  front : Extends l.fn.rows.items l.rows.items;
  fit : AllByRecursion (IsRowOf l.file) l.fn.rows.items
      → AllByRecursion (IsRowOf l.file) l.rows.items;
}
