use Rattle.gx_stack.specs.Tree.{height}
use Rattle.gx_stack.specs.Seen.{tree_of}
use Rattle.gx_entries.proofs.bodies.+only_body.Given as goal

abbrev pub decreases-only_body : goal.decreases-only_body
decreases-only_body l = height (tree_of l.node.now)
