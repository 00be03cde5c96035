use Rattle.std.proofs.Common.{Bool, [], refl, sym, ap, subst}
use Rattle.std.proofs.lemmas.List.{append-nil}
use Rattle.gx_commands.specs.Lines.{script_lines}
use Rattle.gx_reader.specs.Reader.{meant, number_of}
use Rattle.gx_play.specs.Answering.{beside, with_answers}
use Rattle.gx_play.specs.Pieces.{IsGoing}
use Rattle.gx_engine.specs.Steps.{schema_of, built_of, leaves_of}
use Rattle.gx_play.specs.Plays.{IsPlayedTo, is_play_fault}
use Rattle.gx_play.specs.Images.{LeavesPlay}
use Rattle.gx_play.proofs.CrashLemmas.{first_leaves}
use Rattle.gx_play.proofs.PlayLemmas.{is_err}
use Rattle.gx_play.proofs.PieceLemmas.{going_new}
use Rattle.gx_play.proofs.AnsweringLemmas.{at_beside, keeps_then}
use Rattle.gx_play.proofs.play.play_script.Goals as goal

pub returns-in_err-play_piece-clause-played : goal.returns-in_err-play_piece-clause-played
returns-in_err-play_piece-clause-played g c = λ told p at.
    let b = beside g.B.View c.args.answers in
    let e = with_answers c.args.engine.now c.args.out.now in
    let script = c.args.script.now in
    let reader = c.new-reader.result in
    subst (IsPlayedTo b p (script_lines script) e
    (with_answers c.play_piece.new.engine c.play_piece.new.out))
    (sym (is_err _ _ c.from_residual.ensures.1))
    (c.in_err-play_piece.ensures.played told p (script_lines script) [] e
    (subst (λ s. IsGoing b p (script_lines script) (meant reader s) (number_of reader) e e)
    (sym (append-nil script))
    (going_new b p script reader e c.new-reader.ensures.lines c.new-reader.ensures.number
    (at_beside g.B.View c.args.answers p c.args.engine.now c.args.out.now at))))

pub returns-clause-played : goal.returns-clause-played
returns-clause-played g c = λ told p at.
    let b = beside g.B.View c.args.answers in
    let e = with_answers c.args.engine.now c.args.out.now in
    let script = c.args.script.now in
    let reader = c.new-reader.result in
    c.play_rest.ensures.played told p (script_lines script) e
    (c.in_ok-play_piece.ensures.played told p (script_lines script) [] e
    (subst (λ s. IsGoing b p (script_lines script) (meant reader s) (number_of reader) e e)
    (sym (append-nil script))
    (going_new b p script reader e c.new-reader.ensures.lines c.new-reader.ensures.number
    (at_beside g.B.View c.args.answers p c.args.engine.now c.args.out.now at))))

pub returns-clause-keeps : goal.returns-clause-keeps
returns-clause-keeps g c =
    keeps_then g.B.View c.args.answers c.args.engine.now c.play_piece.new.engine
    c.play_rest.new.engine c.play_piece.ensures.keeps c.play_rest.ensures.keeps

pub returns-in_err-play_piece-clause-crash : goal.returns-in_err-play_piece-clause-crash
returns-in_err-play_piece-clause-crash g c = λ told p at begin calm.
    let b = beside g.B.View c.args.answers in
    let e = with_answers c.args.engine.now c.args.out.now in
    let script = c.args.script.now in
    let reader = c.new-reader.result in
    let old = c.args.engine.now in
    subst (λ (f : Bool). LeavesPlay g.B.View (schema_of old) (built_of old) c.args.answers p
    (script_lines script).lines f (leaves_of old) (leaves_of c.play_piece.new.engine))
    (ap is_play_fault (sym (is_err _ _ c.from_residual.ensures.1)))
    (c.in_err-play_piece.ensures.crash told p (script_lines script) [] old c.args.out.now
    (subst (λ s. IsGoing b p (script_lines script) (meant reader s) (number_of reader) e e)
    (sym (append-nil script))
    (going_new b p script reader e c.new-reader.ensures.lines c.new-reader.ensures.number
    (at_beside g.B.View c.args.answers p c.args.engine.now c.args.out.now at))) refl
    (first_leaves g.B.View g.met.B.Leaves.calm_means g.met.B.Leaves.calm_now c.args.answers p
    (script_lines script).lines c.args.engine.now at begin calm))

pub returns-clause-crash : goal.returns-clause-crash
returns-clause-crash g c = λ told p at begin calm.
    let b = beside g.B.View c.args.answers in
    let e = with_answers c.args.engine.now c.args.out.now in
    let script = c.args.script.now in
    let reader = c.new-reader.result in
    let going = (subst (λ s. IsGoing b p (script_lines script) (meant reader s)
    (number_of reader) e e) (sym (append-nil script))
    (going_new b p script reader e c.new-reader.ensures.lines c.new-reader.ensures.number
    (at_beside g.B.View c.args.answers p c.args.engine.now c.args.out.now at))) in
    c.play_rest.ensures.crash told p (script_lines script) c.args.engine.now c.args.out.now
    (c.in_ok-play_piece.ensures.played told p (script_lines script) [] e going)
    c.play_piece.ensures.keeps.head
    (c.in_ok-play_piece.ensures.crash told p (script_lines script) [] c.args.engine.now
    c.args.out.now going refl
    (first_leaves g.B.View g.met.B.Leaves.calm_means g.met.B.Leaves.calm_now c.args.answers p
    (script_lines script).lines c.args.engine.now at begin calm))
