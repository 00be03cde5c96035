use Rattle.std.proofs.Common.{ℕ, List, Result, Err, refl, sym, subst}
use Rattle.gx_commands.specs.Lines.{script_lines}
use Rattle.gx_play.specs.declared.play.Answers.TheVariants as answers
use Rattle.gx_play.specs.Answering.{beside, with_answers}
use Rattle.gx_play.specs.declared.play.PlayEnd.{PlayEnd}
use Rattle.gx_play.specs.Images.{LeavesPlay}
use Rattle.gx_play.specs.Plays.{IsPlayedTo, schema_of, built_of, leaves_of, is_play_fault}
use Rattle.gx_play.proofs.PlayLemmas.{is_err}
use Rattle.gx_working.specs.Answering.{IsAnsweredBy}
use Rattle.gx_working.proofs.working.answers.Goals as goal

pub returns-in_err-play_script-clause-played : goal.returns-in_err-play_script-clause-played
returns-in_err-play_script-clause-played g c = λ p at.
    let lines = script_lines c.args.script.now in
    subst (λ r. IsAnsweredBy g.B.View p lines c.args.engine.now c.play_script.new.engine r)
    (sym (is_err _ _ c.from_residual.ensures.1)) (
      c.play_script.new.out,
      subst (λ o. IsPlayedTo (beside g.B.View answers.Kept) p lines
          (with_answers c.args.engine.now o)
          (with_answers c.play_script.new.engine c.play_script.new.out)
          (Err c.in_err-play_script.field-0.0))
          c.new.ensures.items (c.in_err-play_script.ensures.played refl p at),
    )

pub returns-in_err-play_script-clause-crash : goal.returns-in_err-play_script-clause-crash
returns-in_err-play_script-clause-crash g c = λ p at start calm.
    let e = c.args.engine.now in
    subst (λ (r : Result (List ℕ) PlayEnd). LeavesPlay g.B.View (schema_of e) (built_of e)
    answers.Kept p (script_lines c.args.script.now).lines (is_play_fault r) (leaves_of e)
    (leaves_of c.play_script.new.engine))
    (sym (is_err _ _ c.from_residual.ensures.1))
    (c.in_err-play_script.ensures.crash refl p at start calm)

pub returns-clause-crash : goal.returns-clause-crash
returns-clause-crash g c = λ p at start calm.
    c.in_ok-play_script.ensures.crash refl p at start calm
