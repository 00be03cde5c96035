use Rattle.std.proofs.Common.{◌≡◌, ◌≤◌, ◌+◌, ◌++◌, List, length, take}
use Rattle.std.specs.List.{AllByRecursion}
use Rattle.std.specs.List.Sorted.{IsPermutation}
use Rattle.gx_ports.specs.Calls.{Reads}
use Rattle.gx_ports.specs.LeafMaps.{Extends}
use Rattle.gx_stack.specs.Seen.{tree_of}
use Rattle.gx_model.specs.States.{File, Row, IsRowOf}
use Rattle.gx_scan.specs.Files.{IsInternal}
use Rattle.gx_scan.specs.Steps.{is_key_inside}
use Rattle.gx_scan.specs.Within.{is_within}
use Rattle.gx_scan.proofs.ListingLemmas.{chosen_of}
use Rattle.gx_scan.proofs.by_entries.add_by_entries.Given as goal

abbrev pub invariant-loop-place : goal.invariant-loop-place
invariant-loop-place g l = let b = g.B.View in record {
  rows : (f : File) → b.whole l.fn.leaves
      → IsInternal l.file (tree_of l.node) (b.working l.fn.leaves) f →
      (added : List Row) × (l.rows.items ≡ l.fn.rows.items ++ added)
      × IsPermutation (chosen_of (tree_of l.node) (is_within l.span l.conds) f
      (take l.place-index l.places)) added;
  steps : (f : File) → b.whole l.fn.leaves
      → IsInternal l.file (tree_of l.node) (b.working l.fn.leaves) f →
      (seen : List Row) × IsPermutation
      (chosen_of (tree_of l.node) (is_key_inside l.span) f (take l.place-index l.places)) seen
      × (b.work l.leaves ≤ b.work l.fn.leaves
      + (length (take l.place-index l.places) + length seen));
  front : Extends l.fn.rows.items l.rows.items;
  fit : AllByRecursion (IsRowOf l.file) l.fn.rows.items
      → AllByRecursion (IsRowOf l.file) l.rows.items;
  reads : Reads b l.fn.leaves l.leaves;
  whole : b.whole l.fn.leaves → b.whole l.leaves;
  counted : b.faults l.leaves ≡ b.faults l.fn.leaves;
}
