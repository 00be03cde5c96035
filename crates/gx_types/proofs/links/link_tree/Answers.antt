use Rattle.std.proofs.Common.{◌∷◌, [], ap}
use Rattle.gx_equation.specs.declared.heads.Linkset.TheVariants as linksets
use Rattle.gx_equation.specs.Seen.{tree_of, side_of}
use Rattle.gx_types.proofs.LinkSteps.{members_few, next_few, one_link, one_ready, both_link, both_ready}
use Rattle.gx_types.proofs.links.link_tree.Goals as goal

pub node_of-requires : goal.node_of-requires
node_of-requires c =
    let n = c.args.next.now in
    let o = c.args.kinds.0 in
    let m = c.args.kinds.1 in
    let t = tree_of c.in-Array.members in
    let form = c.in_ok-form-in-Array.form in
    let is = ap side_of c.in-Array.is in
    let few = members_few n o m linksets.Array (t ∷ [])
    (one_link n o m form (side_of c.args.side.now) linksets.Array t is c.requires) in
    one_ready n o m form (side_of c.args.side.now) linksets.Array t is
    (c.in_ok-form-in-Array.ensures.exact few) c.requires

pub both_nodes-requires : goal.both_nodes-requires
both_nodes-requires c =
    let n = c.args.next.now in
    let o = c.args.kinds.0 in
    let m = c.args.kinds.1 in
    let t = tree_of c.in-Ring.firsts in
    let u = tree_of c.in-Ring.nexts in
    let forms = c.in_ok-forms-in-Ring.forms in
    let is = ap side_of c.in-Ring.is in
    let few = next_few n o m linksets.Ring (t ∷ u ∷ [])
    (both_link n o m forms (side_of c.args.side.now) linksets.Ring t u is c.requires) in
    let exact = c.in_ok-forms-in-Ring.ensures.exact few in
    let ready = both_ready n o m forms (side_of c.args.side.now) linksets.Ring t u is exact.0
    exact.1 c.requires in
    record { first = ready.0; second = ready.1 }

pub both_nodes-requires-in-Inverted : goal.both_nodes-requires-in-Inverted
both_nodes-requires-in-Inverted c =
    let n = c.args.next.now in
    let o = c.args.kinds.0 in
    let m = c.args.kinds.1 in
    let t = tree_of c.in-Inverted.pairs in
    let u = tree_of c.in-Inverted.owners in
    let forms = c.in_ok-forms-in-Inverted.forms in
    let is = ap side_of c.in-Inverted.is in
    let exact = c.in_ok-forms-in-Inverted.ensures in
    let ready = both_ready n o m forms (side_of c.args.side.now) linksets.Inverted t u is exact.0
    exact.1 c.requires in
    record { first = ready.0; second = ready.1 }
