use Rattle.std.proofs.Common.{◌≡◌, ◌-◌, List, length, drop, map}
use Rattle.std.specs.List.{AllByRecursion, flat_map}
use Rattle.gx_ports.specs.LeafMaps.{entry_of, Extends}
use Rattle.gx_model.specs.States.{Row, IsRowOf}
use Rattle.gx_model.specs.Found.{meets_conds}
use Rattle.gx_scan.specs.Pieces.{piece_entries}
use Rattle.gx_scan.proofs.PiecedLemmas.{AreReadTo}
use Rattle.gx_scan.proofs.pieced.add_pieced_rows.Given as goal

abbrev pub invariant-loop-at : goal.invariant-loop-at
invariant-loop-at l = record {
  rows : (rs : List Row) → AllByRecursion (IsRowOf l.file) rs
      → l.entries ≡ map entry_of (flat_map (piece_entries l.size) rs)
      → AreReadTo l.size rs (drop l.at l.entries) (meets_conds l.conds) l.fn.rows.items
      l.rows.items;
  front : Extends l.fn.rows.items l.rows.items;
  fit : AllByRecursion (IsRowOf l.file) l.fn.rows.items
      → AllByRecursion (IsRowOf l.file) l.rows.items;
}

abbrev pub decreases-loop-at : goal.decreases-loop-at
decreases-loop-at l = length l.entries - l.at
