use Rattle.std.proofs.Common.{rules, ◌≡◌, true, false, arith}
use Rattle.gx_stack.specs.Held.{is_same_part}
use Rattle.gx_stack.proofs.WholeLeaf.{part_more, part_other}
use Rattle.gx_stack.proofs.held.are_same_parts.Goals as goal

pub returns-then-not-is_same_part-clause-no : goal.returns-then-not-is_same_part-clause-no
returns-then-not-is_same_part-clause-no c = λ e same.
    let other : is_same_part c.index-a-i.result c.index-b-i.result ≡ false = search rules in
    part_other c.args.a.now c.args.b.now c.loop-i.i c.index-a-i.result c.index-b-i.result
    (omega (arith, c.loop-i-test.true)) c.index-a-i.is c.index-b-i.is other same

pub loop-i-preserved : goal.loop-i-preserved
loop-i-preserved c =
    let same : is_same_part c.index-a-i.result c.index-b-i.result ≡ true = search rules in
    part_more c.args.a.now c.args.b.now c.loop-i.i c.index-a-i.result c.index-b-i.result
    (omega (arith, c.loop-i-test.true)) (omega (arith, c.loop-i-test.true, c.if-a-b.false))
    c.index-a-i.is c.index-b-i.is same c.loop-i.invariant
