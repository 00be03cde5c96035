use Rattle.std.proofs.Common.{arith}
use Rattle.gx_types.proofs.NodeSteps.{all_files}
use Rattle.gx_types.proofs.nodes.nodes_of_files.Goals as goal

pub returns : goal.returns
returns c =
    let done = all_files c.args.next.now c.loop-left.next _ c.args.files.now c.loop-left.left.now
    c.args.definitions.now c.loop-left.rest.now c.loop-left.nodes.items
    (omega (arith, c.in_default.len_below)) c.loop-left.invariant.trees
    c.loop-left.invariant.count in
    record { trees = done.0; next = done.1 }
