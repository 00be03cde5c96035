use Rattle.std.proofs.Common.{rules, ◌∙◌, sym}
use Rattle.gx_reader.specs.Reader.{number_of}
use Rattle.gx_shares.proofs.PlayLemmas.{rest_open, rest_shut, read_open, read_shut}
use Rattle.gx_shares.proofs.play.play_rest.Goals as goal

pub returns-then-any_inside-clause-played : goal.returns-then-any_inside-clause-played
returns-then-any_inside-clause-played g c = λ told o going.
    rest_open g.B.View o (number_of c.play_last.new.reader) c.number.result
    c.play_last.new.sessions c.play_last.ensures.keeps.ready
    (c.in_ok-play_last.ensures.played told o going) c.number.ensures
    (sym c.any_inside.ensures ∙ search rules)

pub returns-then-any_inside-clause-reads : goal.returns-then-any_inside-clause-reads
returns-then-any_inside-clause-reads g c = λ schema script so.
    read_open schema script (number_of c.play_last.new.reader) c.number.result
    c.play_last.new.sessions (c.in_ok-play_last.ensures.reads schema script so) c.number.ensures
    (sym c.any_inside.ensures ∙ search rules)

pub returns-clause-played : goal.returns-clause-played
returns-clause-played g c = λ told o going.
    rest_shut g.B.View o (number_of c.play_last.new.reader) c.play_last.new.sessions
    c.play_last.ensures.keeps.ready (c.in_ok-play_last.ensures.played told o going)
    (sym c.any_inside.ensures ∙ search rules)

pub returns-clause-reads : goal.returns-clause-reads
returns-clause-reads g c = λ schema script so.
    read_shut schema script (number_of c.play_last.new.reader) c.play_last.new.sessions
    (c.in_ok-play_last.ensures.reads schema script so) (sym c.any_inside.ensures ∙ search rules)
