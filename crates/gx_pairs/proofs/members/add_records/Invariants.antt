use Rattle.std.proofs.Common.{◌≡◌, ◌≤◌, ◌+◌, ◌*◌, ◌++◌, ℕ, length, take, drop}
use Rattle.std.specs.Prelude.{filter, flat_map}
use Rattle.gx_ports.specs.Calls.{Reads}
use Rattle.gx_stack.specs.Tree.{leaves_of}
use Rattle.gx_model.specs.States.{File}
use Rattle.gx_model.specs.Found.{meets_conds}
use Rattle.gx_scan.specs.Files.{IsInternal}
use Rattle.gx_scan.specs.Steps.{HaveAtMost}
use Rattle.gx_pairs.specs.Stored.{file_of, node_tree}
use Rattle.gx_pairs.specs.Members.{rows_at}
use Rattle.gx_pairs.proofs.members.add_records.Given as goal

abbrev pub invariant-loop-key : goal.invariant-loop-key
invariant-loop-key g l = let b = g.B.View in record {
  rows : (f : File) → b.whole l.fn.leaves
      → IsInternal (file_of l.stored) (node_tree l.stored) (b.working l.fn.leaves) f →
      l.rows.items ++ filter (meets_conds l.conds) (flat_map (rows_at f) (drop l.key-index l.keys))
      ≡ l.fn.rows.items ++ filter (meets_conds l.conds) (flat_map (rows_at f) l.keys);
  steps : (f : File) (most : ℕ) → b.whole l.fn.leaves
      → IsInternal (file_of l.stored) (node_tree l.stored) (b.working l.fn.leaves) f
      → HaveAtMost most (node_tree l.stored) f →
      b.work l.leaves ≤ b.work l.fn.leaves + length (take l.key-index l.keys)
      * (length (leaves_of (node_tree l.stored)) + most);
  reads : Reads b l.fn.leaves l.leaves;
  whole : b.whole l.fn.leaves → b.whole l.leaves;
  counted : b.faults l.leaves ≡ b.faults l.fn.leaves;
}
