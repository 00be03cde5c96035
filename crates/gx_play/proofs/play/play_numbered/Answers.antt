use Rattle.std.proofs.Common.{◌∙◌, Err, refl, ap, subst}
use Rattle.gx_commands.specs.declared.command.LineWhy.{LineWhy}
use Rattle.gx_engine.specs.Steps.{schema_of, built_of, leaves_of}
use Rattle.gx_ports.specs.declared.stop.Stop.{Stop}
use Rattle.gx_play.specs.declared.carry.LineEnd.{LineEnd}
use Rattle.gx_play.specs.declared.carry.LineEnd.TheVariants as line_end
use Rattle.gx_play.specs.Plays.{is_line_fault}
use Rattle.gx_play.specs.Images.{LeavesLine}
use Rattle.gx_play.proofs.AnsweringLemmas.{err_same, play_stop_same, play_line_same}
use Rattle.gx_play.proofs.play.play_numbered.Goals as goal

pub returns-in-Ok-clause-crash : goal.returns-in-Ok-clause-crash
returns-in-Ok-clause-crash g c = c.in-Ok.ensures.crash

pub returns-in-Err-Stop-clause-given_up : goal.returns-in-Err-Stop-clause-given_up
returns-in-Err-Stop-clause-given_up g c = λ told p at why e.
    c.in-Err-Stop.ensures.given_up told p at why
    (ap Err c.in-Err-Stop.field-0-is ∙ ap (λ (s : Stop). Err (line_end.Stop s))
    (play_stop_same _ _ (err_same _ _ _ refl e)))

pub returns-in-Ok-clause-going : goal.returns-in-Ok-clause-going
returns-in-Ok-clause-going g c = c.in-Ok.ensures.going

pub returns-in-Err-Bad-clause-bad : goal.returns-in-Err-Bad-clause-bad
returns-in-Err-Bad-clause-bad g c = λ n why e.
    let same = play_line_same _ n _ why (err_same _ _ _ refl e) in
    let bad = c.in-Err-Bad.ensures.bad why
    (ap Err c.in-Err-Bad.field-0-is ∙ ap (λ (w : LineWhy). Err (line_end.Bad w)) same.1) in
    ((same.0, bad.0), bad.1)

pub returns-in-Err-Bad-clause-crash : goal.returns-in-Err-Bad-clause-crash
returns-in-Err-Bad-clause-crash g c = λ told p at start calm.
    subst (λ (x : LineEnd). LeavesLine g.B.View (schema_of c.args.engine.now)
    (built_of c.args.engine.now) c.args.answers p c.args.line.now
    (is_line_fault {T = Unit {0}} (Err x)) (leaves_of c.args.engine.now)
    (leaves_of c.play_line.new.engine)) c.in-Err-Bad.field-0-is
    (c.in-Err-Bad.ensures.crash told p at start calm)
