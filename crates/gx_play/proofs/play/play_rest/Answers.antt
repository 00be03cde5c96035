use Rattle.std.proofs.Common.{rules, Bool, true, false, refl, sym, ap, subst}
use Rattle.gx_commands.specs.Lines.{no_lines}
use Rattle.gx_reader.specs.Reader.{number_of}
use Rattle.gx_model.specs.Play.{end_at}
use Rattle.gx_play.specs.Answering.{beside, with_answers}
use Rattle.gx_engine.specs.Steps.{schema_of, built_of, leaves_of, is_open}
use Rattle.gx_play.specs.Plays.{IsPlayedTo, IsPlayedUp, is_play_fault}
use Rattle.gx_play.specs.Images.{LeavesPlay}
use Rattle.gx_play.specs.Readings.{IsReadOut}
use Rattle.gx_play.proofs.ReadingLemmas.{read_shut}
use Rattle.gx_play.proofs.PlayLemmas.{is_err}
use Rattle.gx_play.proofs.PieceLemmas.{going_out}
use Rattle.gx_play.proofs.play.play_rest.Goals as goal

pub returns-in_err-play_last-clause-played : goal.returns-in_err-play_last-clause-played
returns-in_err-play_last-clause-played g c = λ told p all start going.
    subst (IsPlayedTo (beside g.B.View c.args.answers) p all start
    (with_answers c.play_last.new.engine c.play_last.new.out))
    (sym (is_err _ _ c.from_residual.ensures.1))
    (c.in_err-play_last.ensures.played told p all start going)

pub returns-then-inside-clause-played : goal.returns-then-inside-clause-played
returns-then-inside-clause-played g c = λ told p all start going.
    let b = beside g.B.View c.args.answers in
    let f = with_answers c.play_last.new.engine c.play_last.new.out in
    subst (λ n. IsPlayedUp b p all start f (end_at n true)) (sym c.number.ensures)
    (going_out b p all no_lines (number_of c.play_last.new.reader) true start f
    (c.in_ok-play_last.ensures.played told p all start going) refl (search rules))

pub returns-clause-played : goal.returns-clause-played
returns-clause-played g c = λ told p all start going.
    going_out (beside g.B.View c.args.answers) p all no_lines (number_of c.play_last.new.reader)
    false start (with_answers c.play_last.new.engine c.play_last.new.out)
    (c.in_ok-play_last.ensures.played told p all start going) refl (search rules)

pub returns-in_err-play_last-clause-crash : goal.returns-in_err-play_last-clause-crash
returns-in_err-play_last-clause-crash g c = λ told p all start kept going head leaves.
    subst (λ (b : Bool). LeavesPlay g.B.View (schema_of start) (built_of start) c.args.answers p
    all.lines b (leaves_of start) (leaves_of c.play_last.new.engine))
    (ap is_play_fault (sym (is_err _ _ c.from_residual.ensures.1)))
    (c.in_err-play_last.ensures.crash told p all start kept going head leaves)

pub returns-then-inside-clause-crash : goal.returns-then-inside-clause-crash
returns-then-inside-clause-crash g c = c.in_ok-play_last.ensures.crash

pub returns-clause-crash : goal.returns-clause-crash
returns-clause-crash g c = c.in_ok-play_last.ensures.crash

pub returns-in_err-play_last-clause-reads : goal.returns-in_err-play_last-clause-reads
returns-in_err-play_last-clause-reads g c = λ begun all so.
    subst (IsReadOut (schema_of c.args.engine.now) begun all)
    (sym (is_err _ _ c.from_residual.ensures.1)) (c.in_err-play_last.ensures.reads begun all so)

pub returns-then-inside-clause-reads : goal.returns-then-inside-clause-reads
returns-then-inside-clause-reads g c = λ begun all so.
    read_shut (schema_of c.args.engine.now) begun all no_lines (number_of c.play_last.new.reader)
    c.number.result (is_open c.play_last.new.engine) true
    (c.in_ok-play_last.ensures.reads begun all so) refl (search rules) c.number.ensures

pub returns-clause-reads : goal.returns-clause-reads
returns-clause-reads g c = λ begun all so.
    let n = number_of c.play_last.new.reader in
    read_shut (schema_of c.args.engine.now) begun all no_lines n n (is_open c.play_last.new.engine)
    false (c.in_ok-play_last.ensures.reads begun all so) refl (search rules) refl
