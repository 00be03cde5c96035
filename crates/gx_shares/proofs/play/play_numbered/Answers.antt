use Rattle.std.proofs.Common.{sym, subst}
use Rattle.gx_shares.specs.Going.{PlaysLine}
use Rattle.gx_shares.specs.Reads.{ReadsLine}
use Rattle.gx_shares.proofs.PlayLemmas.{line_plays, line_reads}
use Rattle.gx_shares.proofs.play.play_numbered.Goals as goal

pub returns-clause-played : goal.returns-clause-played
returns-clause-played g c = λ told.
    let old = c.args.sessions.now in
    let new = c.play_line.new.sessions in
    subst (PlaysLine g.B.View c.args.number c.args.line.now old new) (sym c.at_line.ensures)
    (line_plays g.B.View c.args.number c.args.line.now old new c.play_line.result told
    c.requires.ready c.play_line.ensures.step c.play_line.ensures.reads)

pub returns-clause-reads : goal.returns-clause-reads
returns-clause-reads g c =
    let old = c.args.sessions.now in
    let new = c.play_line.new.sessions in
    subst (ReadsLine c.args.number c.args.line.now old new) (sym c.at_line.ensures)
    (line_reads c.args.number c.args.line.now old new c.play_line.result
    c.play_line.ensures.step.keeps.schema c.play_line.ensures.reads)
