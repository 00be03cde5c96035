use Rattle.std.proofs.Common.{◌≡◌}
use Rattle.gx_ports.specs.Calls.{Reads}
use Rattle.gx_model.specs.States.{State}
use Rattle.gx_model.specs.Commands.{is_linked}
use Rattle.gx_states.specs.Internal.{AreInternal}
use Rattle.gx_edits.proofs.RelinkLemmas.{linked_from}
use Rattle.gx_edits.proofs.links.is_linked.Given as goal

abbrev pub invariant-loop-link : goal.invariant-loop-link
invariant-loop-link g l = let b = g.B.View in record {
  left : (s : State) → b.whole l.fn.leaves → AreInternal l.schema l.built (b.working l.fn.leaves) s
      → linked_from l.file l.key l.schema.links s.links l.link ≡ is_linked l.schema.links s.links
      l.file
      l.key;
  reads : Reads b l.fn.leaves l.leaves;
  whole : b.whole l.fn.leaves → b.whole l.leaves;
  counted : b.faults l.leaves ≡ b.faults l.fn.leaves;
}
