use Rattle.std.proofs.Common.{rules, List, ℕ, [], ◌∙◌, sym, ap, subst}
use Rattle.gx_commands.specs.Lines.{with_line, no_lines}
use Rattle.gx_reader.specs.Reader.{meant, number_of}
use Rattle.gx_reader.proofs.FoundLemmas.{last_line}
use Rattle.gx_shares.specs.Going.{IsPlayedOn, IsReadOn}
use Rattle.gx_shares.proofs.play.play_last.Goals as goal

pub returns-clause-played : goal.returns-clause-played
returns-clause-played g c = λ told o going.
    let last = last_line c.last_line.result c.args.reader.now c.last_line.new.self
    (search rules) c.last_line.ensures in
    subst (λ n. IsPlayedOn g.B.View o no_lines n c.play_numbered.new.sessions
    c.play_numbered.result) c.number.ensures
    (c.play_numbered.ensures.played told o (meant c.args.reader.now []) no_lines
    (number_of c.args.reader.now)
    (last.0 ∙ ap (λ (l : List ℕ). with_line l no_lines) (sym c.line.ensures.line))
    (c.number.ensures ∙ last.1) going)

pub returns-clause-reads : goal.returns-clause-reads
returns-clause-reads g c = λ schema script so.
    let last = last_line c.last_line.result c.args.reader.now c.last_line.new.self
    (search rules) c.last_line.ensures in
    subst (λ n. IsReadOn schema script no_lines n c.play_numbered.new.sessions
    c.play_numbered.result) c.number.ensures
    (c.play_numbered.ensures.reads schema script (meant c.args.reader.now []) no_lines
    (number_of c.args.reader.now)
    (last.0 ∙ ap (λ (l : List ℕ). with_line l no_lines) (sym c.line.ensures.line))
    (c.number.ensures ∙ last.1) so)
