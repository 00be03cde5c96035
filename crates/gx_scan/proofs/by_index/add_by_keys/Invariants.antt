use Rattle.std.proofs.Common.{◌≡◌, ◌≤◌, ◌+◌, ◌*◌, ◌++◌, ℕ, length, take, drop}
use Rattle.std.specs.Prelude.{filter, flat_map}
use Rattle.gx_ports.specs.Calls.{Reads}
use Rattle.gx_ports.specs.LeafMaps.{Extends}
use Rattle.gx_stack.specs.Tree.{leaves_of}
use Rattle.gx_stack.specs.Seen.{tree_of}
use Rattle.gx_model.specs.States.{File}
use Rattle.gx_model.specs.Found.{meets_conds}
use Rattle.gx_scan.specs.Files.{IsInternal}
use Rattle.gx_scan.specs.Where.{rows_at_key}
use Rattle.gx_scan.specs.Steps.{HaveAtMost}
use Rattle.gx_scan.proofs.by_index.add_by_keys.Given as goal

abbrev pub invariant-loop-key : goal.invariant-loop-key
invariant-loop-key g l = let b = g.B.View in record {
  rows : (f : File) → b.whole l.fn.leaves
      → IsInternal l.file (tree_of l.node) (b.working l.fn.leaves) f →
      l.rows.items ++ filter (meets_conds l.conds)
      (flat_map (rows_at_key f) (drop l.key-index l.keys)) ≡ l.fn.rows.items
      ++ filter (meets_conds l.conds) (flat_map (rows_at_key f) l.keys);
  steps : (f : File) (most : ℕ) → b.whole l.fn.leaves
      → IsInternal l.file (tree_of l.node) (b.working l.fn.leaves) f
      → HaveAtMost most (tree_of l.node) f →
      b.work l.leaves ≤ b.work l.fn.leaves + length (take l.key-index l.keys) *
      (length (leaves_of (tree_of l.node)) + most);
  front : Extends l.fn.rows.items l.rows.items;
  reads : Reads b l.fn.leaves l.leaves;
  whole : b.whole l.fn.leaves → b.whole l.leaves;
  counted : b.faults l.leaves ≡ b.faults l.fn.leaves;
}
