use Rattle.std.proofs.Common.{sym, ◌∙◌, arith}
use Rattle.std.proofs.lemmas.Result.{err_from_is_err_and}
use Rattle.gx_commands.specs.Cutting.{words_in}
use Rattle.gx_commands.specs.Paths.{most_legs}
use Rattle.gx_paths.proofs.LegLemmas.{legs_begin, leg_fails, legs_end, legs_go_on, legs_full}
use Rattle.gx_paths.proofs.legs.read_legs.Goals as goal

pub loop-rest-init : goal.loop-rest-init
loop-rest-init c =
    rw c.new-legs.ensures.items
    (legs_begin c.args.schema.now c.args.from (words_in c.args.line.now))

pub returns-in_err-leg : goal.returns-in_err-leg
unfolding most_legs
returns-in_err-leg c =
    let p = err_from_is_err_and c.from_residual.result c.from_residual.ensures.1 in
    rw (p.1, p.2) (leg_fails c.args.schema.now c.loop-rest.file c.loop-rest.legs.items
    (words_in c.loop-rest.rest.now) c.in_err-leg.field-0.0 _ c.loop-rest.invariant
    (omega (arith, c.loop-rest-test.true, c.len.ensures)) c.in_err-leg.ensures)

pub returns-then-is_end : goal.returns-then-is_end
unfolding most_legs
returns-then-is_end c =
    rw (c.push.ensures.items, c.in_ok-push.was)
    (legs_end c.args.schema.now c.loop-rest.file c.loop-rest.legs.items
    (words_in c.loop-rest.rest.now) (words_in c.in_ok-leg.after.now) c.in_ok-leg.leg _
    c.loop-rest.invariant (omega (arith, c.loop-rest-test.true, c.len.ensures))
    c.in_ok-leg.ensures
    (sym c.is_end.ensures ∙ c.if-is_end.true))

pub loop-rest-preserved : goal.loop-rest-preserved
unfolding most_legs
loop-rest-preserved c =
    rw (c.push.ensures.items, c.in_ok-push.was)
    (legs_go_on c.args.schema.now c.loop-rest.file c.loop-rest.legs.items
    (words_in c.loop-rest.rest.now) (words_in c.in_ok-leg.after.now) c.in_ok-leg.leg _
    c.loop-rest.invariant (omega (arith, c.loop-rest-test.true, c.len.ensures))
    c.in_ok-leg.ensures
    (sym c.is_end.ensures ∙ c.if-is_end.false))

pub returns : goal.returns
unfolding most_legs
returns c =
    legs_full c.args.schema.now c.loop-rest.file c.loop-rest.legs.items
    (words_in c.loop-rest.rest.now) _ c.loop-rest.invariant
    (λ less. omega (arith, less, c.loop-rest-test.false, c.len.ensures))
