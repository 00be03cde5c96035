use Rattle.gx_stack.specs.Tree.{height}
use Rattle.gx_stack.specs.Seen.{tree_of}
use Rattle.gx_scan.proofs.searched.+searched_node.Given as goal

abbrev pub decreases-searched_node : goal.decreases-searched_node
decreases-searched_node l = height (tree_of l.node.now)
