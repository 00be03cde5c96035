use Rattle.std.proofs.Common.{◌≡◌}
use Rattle.gx_ports.specs.Calls.{Reads}
use Rattle.gx_stack.specs.Seen.{tree_of}
use Rattle.gx_ring.proofs.WalkLemmas.{AtStep}
use Rattle.gx_ring.proofs.ring.Ring.walk.Given as goal

abbrev pub invariant-loop-step : goal.invariant-loop-step
invariant-loop-step g l = let b = g.B.View in record {
  whole : b.whole l.fn.leaves → b.whole l.leaves;
  reads : Reads b l.fn.leaves l.leaves;
  counted : b.faults l.leaves ≡ b.faults l.fn.leaves;
  step : AtStep g.M.Mapping.rule (tree_of l.fn.self.heads.now) (tree_of l.fn.self.chain.now)
      (b.whole l.fn.leaves) (b.working l.fn.leaves) l.fn.first l.fn.out (b.work l.fn.leaves) l._step
      l.at l.out-inside.0.items (b.work l.leaves);
}
