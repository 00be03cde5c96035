use Rattle.std.proofs.Common.{◌≡◌, map}
use Rattle.gx_ports.specs.Calls.{Reads}
use Rattle.gx_stack.specs.Tree.{height}
use Rattle.gx_stack.specs.Seen.{tree_of, kids_from}
use Rattle.gx_stack.specs.Internal.{IsInternal}
use Rattle.gx_stack.proofs.KeysNode.{AreKeysBelow}
use Rattle.gx_stack.proofs.node.Node.+keys_where.Given as goal

abbrev pub decreases-keys_where : goal.decreases-keys_where
decreases-keys_where g l = height (tree_of l.self.now)

abbrev pub invariant-loop-child : goal.invariant-loop-child
invariant-loop-child g l = let rule = g.M.Mapping.rule in let b = g.B.View in record {
  whole : b.whole l.fn.leaves → b.whole l.leaves;
  reads : Reads b l.fn.leaves l.leaves;
  counted : b.faults l.leaves ≡ b.faults l.fn.leaves;
  found : AreKeysBelow rule l.layer.mapping (kids_from (map tree_of l.layer.kids.items)) l.field
      l.span (b.whole l.fn.leaves)
      (λ R. IsInternal rule (tree_of l.fn.self) R (b.working l.fn.leaves)) l.child
      (b.work l.fn.leaves) (b.work l.leaves) l.fn.out l.out;
}
