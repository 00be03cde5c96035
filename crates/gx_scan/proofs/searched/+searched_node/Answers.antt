use Rattle.std.proofs.Common.{arith, subst}
use Rattle.gx_stack.specs.Seen.{tree_of}
use Rattle.gx_stack.proofs.Seen.{kid_lower}
use Rattle.gx_types.specs.Any.{any_rule}
use Rattle.gx_types.specs.Passing.{Passes}
use Rattle.gx_scan.proofs.SearchedLemmas.{kid_there, kid_valid, one_down}
use Rattle.gx_scan.proofs.searched.+searched_node.Goals as goal

pub index-kid-requires : goal.index-kid-requires
index-kid-requires t c =
    let n = c.args.node.now in
    let l = c.in-Layer.layer in
    let passes = subst (Passes (any_rule l.mapping)) c.in-Whole.is c.passing.ensures in
    omega (
      arith,
      kid_there n l c.in-Layer.is c.requires.valid passes c.args.span.now
          c.in-Some.child c.in-Some.ensures.alone,
      l.kids.ok.0,
    )

pub searched_node-requires : goal.searched_node-requires
searched_node-requires t c =
    let n = c.args.node.now in
    let l = c.in-Layer.layer in
    let span = c.args.span.now in
    let child = c.in-Some.child in
    let alone = c.in-Some.ensures.alone in
    let k = c.index-kid.result.now in
    let read = c.index-kid.ensures in
    let passes = subst (Passes (any_rule l.mapping)) c.in-Whole.is c.passing.ensures in
    let there = kid_there n l c.in-Layer.is c.requires.valid passes span child alone in (
      omega (arith, kid_lower any_rule n l c.in-Layer.is child k there read, c.decreases),
      kid_valid n l c.in-Layer.is c.requires.valid passes span child alone k read,
    )

pub returns : goal.returns
returns t c =
    let n = c.args.node.now in
    let l = c.in-Layer.layer in
    let k = c.index-kid.result.now in
    let passes = subst (Passes (any_rule l.mapping)) c.in-Whole.is c.passing.ensures in
    one_down n l c.in-Layer.is c.requires.valid passes c.args.span.now c.in-Some.child
    c.in-Some.ensures.alone k c.index-kid.ensures
    (tree_of c.searched_node.result.now) c.searched_node.ensures
