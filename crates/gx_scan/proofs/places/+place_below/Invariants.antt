use Rattle.gx_stack.specs.Tree.{height}
use Rattle.gx_stack.specs.Seen.{tree_of}
use Rattle.gx_scan.proofs.places.+place_below.Given as goal

abbrev pub decreases-place_below : goal.decreases-place_below
decreases-place_below l = height (tree_of l.node.now)
