use Rattle.std.proofs.Common.{◌≡◌, ◌≤◌, ◌+◌, map}
use Rattle.gx_mapping.specs.declared.parts.Part.{Part}
use Rattle.gx_mapping.specs.Rule.{In, IsOf}
use Rattle.gx_stack.specs.Tree.{height}
use Rattle.gx_stack.specs.Seen.{tree_of, kids_from}
use Rattle.gx_gather.specs.Gather.{AreDataParts}
use Rattle.gx_stack.specs.Held.{AreCounts}
use Rattle.gx_ports.specs.Calls.{Reads}
use Rattle.gx_stack.proofs.StepLemmas.{steps_below}
use Rattle.gx_stack.proofs.WholeLayer.{AreRead}
use Rattle.gx_stack.proofs.WholeNode.{ChildHolds}
use Rattle.gx_stack.proofs.node.Node.+held.Given as goal

abbrev pub decreases-held : goal.decreases-held
decreases-held g l = height (tree_of l.self.now)

abbrev pub invariant-loop-child : goal.invariant-loop-child
invariant-loop-child g l = let rule = g.M.Mapping.rule in let b = g.B.View in record {
  whole : b.whole l.fn.leaves → b.whole l.leaves;
  reads : Reads b l.fn.leaves l.leaves;
  counts : b.whole l.fn.leaves → AreCounts (b.working l.fn.leaves) l.fn.counts
      → AreCounts (b.working l.fn.leaves) l.counts;
  counted : b.faults l.leaves ≡ b.faults l.fn.leaves;
  fit : AreDataParts (rule l.layer.mapping) l.main;
  fit_others : (p : Part) → In p l.others → IsOf ((rule l.layer.mapping).kid_form p.child) p.rec;
  few_steps : b.whole l.fn.leaves
      → b.work l.leaves ≤ b.work l.fn.leaves + steps_below (b.working l.fn.leaves) l.child
      (kids_from (map tree_of l.layer.kids.items));
  so_far : b.whole l.fn.leaves
      → AreRead (rule l.layer.mapping) (ChildHolds rule l.layer.kids.items (b.working l.fn.leaves))
      l.child l.main l.others;
}
