use Rattle.std.proofs.Common.{◌≡◌, ◌≤◌, ◌+◌, length, map, take}
use Rattle.std.specs.List.{sum_by}
use Rattle.gx_ports.specs.Calls.{Reads}
use Rattle.gx_ports.specs.LeafMaps.{selected, map_at}
use Rattle.gx_scan.specs.declared.places.Place.{Place}
use Rattle.gx_scan.proofs.by_columns.entries_of_each.Given as goal

abbrev pub invariant-loop-place : goal.invariant-loop-place
invariant-loop-place g l = let b = g.B.View in record {
  many : length l.columns.items ≡ l.place-index;
  entries : b.whole l.fn.leaves → l.columns.items ≡ map (λ (p : Place).
      selected l.span.lo l.span.hi (map_at (b.working l.fn.leaves) p.leaf))
      (take l.place-index l.places);
  steps : b.work l.leaves
      ≤ b.work l.fn.leaves + (l.place-index + sum_by length l.columns.items);
  reads : Reads b l.fn.leaves l.leaves;
  whole : b.whole l.fn.leaves → b.whole l.leaves;
  counted : b.faults l.leaves ≡ b.faults l.fn.leaves;
}
