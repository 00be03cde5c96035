use Rattle.gx_stack.specs.Tree.{height}
use Rattle.gx_stack.specs.Seen.{tree_of}
use Rattle.gx_stack.proofs.IndexedLemmas.{AreIndexedBelow}
use Rattle.gx_stack.proofs.node.Node.+indexed.Given as goal

abbrev pub decreases-indexed : goal.decreases-indexed
decreases-indexed g l = height (tree_of l.self.now)

abbrev pub invariant-loop-child : goal.invariant-loop-child
invariant-loop-child g l = let rule = g.M.Mapping.rule in
    AreIndexedBelow rule l.field l.layer.kids.items (λ c. (rule l.layer.mapping).carries c l.field)
    l.child l.carried
