use Rattle.std.proofs.Common.{arith}
use Rattle.gx_types.proofs.LinkSteps.{all_links}
use Rattle.gx_types.proofs.links.trees_of_links.Goals as goal

pub returns : goal.returns
returns c = all_links c.args.files.now c.args.next.now c.loop-left.next c.args.links.now
    c.loop-left.left.now c.args.definitions.now c.loop-left.rest.now c.loop-left.trees.items
    (omega (arith, c.in_default.len_below)) c.loop-left.invariant.ready
    c.loop-left.invariant.trees
