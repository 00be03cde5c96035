use Rattle.std.proofs.Common.{rules, ◌≡◌, None, ◌∙◌, List, ℕ, [], sym, ap, subst}
use Rattle.gx_commands.specs.Lines.{with_line, no_lines}
use Rattle.gx_reader.specs.Reader.{meant, number_of}
use Rattle.gx_engine.specs.Steps.{schema_of, is_open, stop_of}
use Rattle.gx_play.specs.Answering.{beside, with_answers}
use Rattle.gx_play.specs.Pieces.{IsGoing}
use Rattle.gx_play.specs.Plays.{IsBadAt, is_play_fault}
use Rattle.gx_play.proofs.PieceLemmas.{line_on, line_goes_on}
use Rattle.gx_play.specs.Readings.{IsReadTo, IsReadLine}
use Rattle.gx_play.proofs.ReadingLemmas.{read_on, ok_first, ok_second}
use Rattle.gx_play.proofs.CrashLemmas.{line_on_leaves}
use Rattle.gx_reader.proofs.FoundLemmas.{last_line, no_last_line}
use Rattle.gx_play.proofs.AnsweringLemmas.{keeps_same}
use Rattle.gx_play.proofs.play.play_last.Goals as goal

pub returns-then-not-last_line-clause-played : goal.returns-then-not-last_line-clause-played
returns-then-not-last_line-clause-played g c = λ told p all start going.
    let b = beside g.B.View c.args.answers in
    let e = with_answers c.args.engine.now c.args.out.now in
    let none = no_last_line c.last_line.result c.args.reader.now c.last_line.new.self
    (search rules) c.last_line.ensures in
    subst (λ n. IsGoing b p all no_lines n start e) (sym none.1)
    (subst (λ ls. IsGoing b p all ls (number_of c.args.reader.now) start e) none.0 going)

pub returns-then-not-last_line-clause-keeps : goal.returns-then-not-last_line-clause-keeps
returns-then-not-last_line-clause-keeps g c =
    keeps_same g.B.View c.args.answers c.args.engine.now c.requires.ready

pub returns-clause-played : goal.returns-clause-played
returns-clause-played g c = λ told p all start going.
    let last = last_line c.last_line.result c.args.reader.now c.last_line.new.self
    (search rules) c.last_line.ensures in
    line_on g.B.View c.args.answers p all (meant c.args.reader.now []) no_lines
    (number_of c.args.reader.now) (number_of c.last_line.new.self) c.line.result.now
    c.play_numbered.result start c.args.engine.now c.play_numbered.new.engine c.args.out.now
    c.play_numbered.new.out
    (last.0 ∙ ap (λ (l : List ℕ). with_line l no_lines) (sym c.line.ensures.line))
    last.1 told c.play_numbered.ensures.keeps c.requires.ready c.play_numbered.ensures.played
    (λ n why e. subst (λ k. IsBadAt (schema_of c.args.engine.now) (is_open c.args.engine.now) k
    c.line.result.now n why) c.number.ensures (c.play_numbered.ensures.bad n why e).0)
    (λ n why e. (c.play_numbered.ensures.bad n why e).1) (c.play_numbered.ensures.given_up told)
    going

pub returns-clause-stands : goal.returns-clause-stands
returns-clause-stands g c =
    line_goes_on g.B.View c.args.answers c.line.result.now c.play_numbered.result c.args.engine.now
    c.play_numbered.new.engine c.args.out.now c.play_numbered.new.out c.play_numbered.ensures.played

pub returns-then-not-last_line-clause-crash : goal.returns-then-not-last_line-clause-crash
returns-then-not-last_line-clause-crash g c = λ told p all start kept going head leaves. leaves

pub returns-clause-crash : goal.returns-clause-crash
returns-clause-crash g c = λ told p all start kept going head leaves.
    let last = last_line c.last_line.result c.args.reader.now c.last_line.new.self
    (search rules) c.last_line.ensures in
    line_on_leaves g.B.View c.args.answers p all (meant c.args.reader.now []) no_lines
    (number_of c.args.reader.now) c.line.result.now start c.args.engine.now
    c.play_numbered.new.engine kept c.args.out.now (is_play_fault c.play_numbered.result)
    (last.0 ∙ ap (λ (l : List ℕ). with_line l no_lines) (sym c.line.ensures.line)) going head leaves
    (c.play_numbered.ensures.crash told)

pub returns-then-not-last_line-clause-reads : goal.returns-then-not-last_line-clause-reads
returns-then-not-last_line-clause-reads g c = λ begun all so.
    let schema = schema_of c.args.engine.now in
    let none = no_last_line c.last_line.result c.args.reader.now c.last_line.new.self
    (search rules) c.last_line.ensures in
    subst (λ n. IsReadTo schema begun all no_lines n (is_open c.args.engine.now)) (sym none.1)
    (subst (λ ls. IsReadTo schema begun all ls (number_of c.args.reader.now)
    (is_open c.args.engine.now)) none.0 so)

pub returns-clause-reads : goal.returns-clause-reads
returns-clause-reads g c = λ begun all so.
    let last = last_line c.last_line.result c.args.reader.now c.last_line.new.self
    (search rules) c.last_line.ensures in
    read_on (schema_of c.args.engine.now) begun all (meant c.args.reader.now []) no_lines
    (number_of c.args.reader.now) (number_of c.last_line.new.self) c.line.result.now
    (is_open c.args.engine.now) (is_open c.play_numbered.new.engine) c.play_numbered.result
    (last.0 ∙ ap (λ (l : List ℕ). with_line l no_lines) (sym c.line.ensures.line)) last.1 so
    (ok_second (stop_of c.play_numbered.new.engine ≡ None)
    (IsReadLine (schema_of c.args.engine.now) c.line.result.now (is_open c.args.engine.now)
    (is_open c.play_numbered.new.engine)) c.play_numbered.result
    c.play_numbered.ensures.going)
    (λ n why e. subst (λ k. IsBadAt (schema_of c.args.engine.now) (is_open c.args.engine.now) k
    c.line.result.now n why) c.number.ensures (c.play_numbered.ensures.bad n why e).0)

pub returns-clause-going : goal.returns-clause-going
returns-clause-going g c =
    ok_first (stop_of c.play_numbered.new.engine ≡ None)
    (IsReadLine (schema_of c.args.engine.now) c.line.result.now (is_open c.args.engine.now)
    (is_open c.play_numbered.new.engine)) c.play_numbered.result
    c.play_numbered.ensures.going
