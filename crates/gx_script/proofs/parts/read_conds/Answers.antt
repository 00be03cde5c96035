use Rattle.std.proofs.Common.{length, refl, sym, arith}
use Rattle.std.specs.Prelude.{codes}
use Rattle.std.proofs.lemmas.Result.{err_from_is_err_and}
use Rattle.gx_commands.specs.Cutting.{words_in}
use Rattle.gx_commands.proofs.TurnLaws.{itself, rest_of_rest}
use Rattle.gx_script.proofs.LoopLaws.{cond_shorter, behind_shorter, conds_go_on, conds_end, cond_fails}
use Rattle.gx_script.proofs.parts.read_conds.Goals as goal

pub loop-conds-init : goal.loop-conds-init
loop-conds-init c = (
  rw c.new-conds.ensures.items
      (record { room = length (words_in c.args.line.now); enough = omega arith; same = refl }),
  itself c.args.line.now,
)

pub returns-in_err-cond-clause-exact : goal.returns-in_err-cond-clause-exact
returns-in_err-cond-clause-exact c =
    let p = err_from_is_err_and c.from_residual.result c.from_residual.ensures.1 in
    rw (p.1, p.2) (cond_fails c.args.file.now c.loop-conds.conds.items
    (words_in c.loop-conds.rest.now) c.in_err-cond.field-0.0 _ c.loop-conds.invariant.0
    c.in_err-cond.ensures.exact)

pub returns-in-None-clause-exact : goal.returns-in-None-clause-exact
returns-in-None-clause-exact c =
    rw (c.push.ensures.items, c.in_ok-push.was)
    (conds_end c.args.file.now c.loop-conds.conds.items (words_in c.loop-conds.rest.now)
    c.in_ok-cond.cond (words_in c.in_ok-cond.after.now) _ c.loop-conds.invariant.0
    c.in_ok-cond.ensures.exact (sym c.in-None.ensures.exact))

pub returns-in-None-clause-left : goal.returns-in-None-clause-left
returns-in-None-clause-left c =
    rest_of_rest c.args.line.now c.loop-conds.rest.now c.in_ok-cond.after.now
    c.loop-conds.invariant.1 c.in_ok-cond.ensures.left

pub loop-conds-smaller : goal.loop-conds-smaller
loop-conds-smaller c =
    omega (
      arith,
      cond_shorter c.args.file.now (words_in c.loop-conds.rest.now)
          (c.in_ok-cond.cond, words_in c.in_ok-cond.after.now) c.in_ok-cond.ensures.exact,
      behind_shorter (codes "and") (words_in c.in_ok-cond.after.now) (words_in c.in-Some.next.now)
          (sym c.in-Some.ensures.exact),
    )

pub loop-conds-preserved : goal.loop-conds-preserved
loop-conds-preserved c = (
  rw (c.push.ensures.items, c.in_ok-push.was)
      (conds_go_on c.args.file.now c.loop-conds.conds.items (words_in c.loop-conds.rest.now)
      c.in_ok-cond.cond (words_in c.in_ok-cond.after.now) (words_in c.in-Some.next.now) _
      c.loop-conds.invariant.0 c.in_ok-cond.ensures.exact (sym c.in-Some.ensures.exact)),
  rest_of_rest c.args.line.now c.in_ok-cond.after.now c.in-Some.next.now
      (rest_of_rest c.args.line.now c.loop-conds.rest.now c.in_ok-cond.after.now
      c.loop-conds.invariant.1 c.in_ok-cond.ensures.left)
      c.in-Some.ensures.left,
)
