use Rattle.std.proofs.Common.{◌≡◌, ◌++◌}
use Rattle.gx_ports.specs.Calls.{Reads}
use Rattle.gx_stack.specs.Held.{AreCounts}
use Rattle.gx_audit.specs.Texts.{leaf_line, lines_below}
use Rattle.gx_audit.proofs.texts.push_leaves.Given as goal

abbrev pub invariant-loop-leaf : goal.invariant-loop-leaf
invariant-loop-leaf g l = let b = g.B.View in record {
  lines : b.whole l.fn.leaves → AreCounts (b.working l.fn.leaves) l.entries
      → l.text.items ≡ l.fn.text.items
      ++ lines_below (leaf_line l.schema l.built.specs l.built.owners (b.working l.fn.leaves))
      l.leaf;
  reads : Reads b l.fn.leaves l.leaves;
  whole : b.whole l.fn.leaves → b.whole l.leaves;
  counted : b.faults l.leaves ≡ b.faults l.fn.leaves;
}
