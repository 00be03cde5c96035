use Rattle.std.proofs.Common.{◌≡◌, ◌≤◌, ◌+◌, ◌*◌, List, length, take, Some, None}
use Rattle.std.specs.FinMap as fin
use Rattle.gx_values.specs.declared.values.Value.{Value}
use Rattle.gx_values.specs.Values.{AreFit}
use Rattle.gx_ports.specs.Calls.{Reads}
use Rattle.gx_stack.specs.Seen.{tree_of}
use Rattle.gx_model.specs.States.{File}
use Rattle.gx_scan.specs.Files.{IsInternal}
use Rattle.gx_scan.specs.Steps.{rows_inside}
use Rattle.gx_scan.proofs.by_columns.values_by_columns.Given as goal

abbrev pub invariant-loop-at : goal.invariant-loop-at
invariant-loop-at g l = let b = g.B.View in record {
  fit : AreFit (take l.at l.fields) l.values.items;
  -- where there is a record its first values are read, and where there is none no column is
  so_far : (f : File) → b.whole l.fn.leaves
      → IsInternal l.file (tree_of l.fn.node) (b.working l.fn.leaves) f → (vs : List Value)
      → fin.get f l.fn.key ≡ Some vs → l.values.items ≡ take l.at vs;
  none : (f : File) → b.whole l.fn.leaves
      → IsInternal l.file (tree_of l.fn.node) (b.working l.fn.leaves) f
      → fin.get f l.fn.key ≡ None → l.at ≡ 0;
  steps : (f : File) → b.whole l.fn.leaves
      → IsInternal l.file (tree_of l.fn.node) (b.working l.fn.leaves) f
      → b.work l.leaves
      ≤ b.work l.fn.leaves + (l.at + l.at * length (rows_inside l.span f));
  reads : Reads b l.fn.leaves l.leaves;
  whole : b.whole l.fn.leaves → b.whole l.leaves;
  counted : b.faults l.leaves ≡ b.faults l.fn.leaves;
}
