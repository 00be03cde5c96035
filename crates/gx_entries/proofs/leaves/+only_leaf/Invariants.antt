use Rattle.gx_stack.specs.Tree.{height}
use Rattle.gx_stack.specs.Seen.{tree_of}
use Rattle.gx_entries.proofs.leaves.+only_leaf.Given as goal

abbrev pub decreases-only_leaf : goal.decreases-only_leaf
decreases-only_leaf l = height (tree_of l.node.now)
