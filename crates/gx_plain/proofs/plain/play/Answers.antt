use Rattle.gx_plain.proofs.LineLemmas.{play_text, only_text}
use Rattle.gx_plain.proofs.plain.play.Goals as goal

pub returns-clause-played : goal.returns-clause-played
returns-clause-played c =
    play_text c.with_end.result c.args.schema.now c.args.script.now c.in_ok-said.said
    c.in_ok-said.end c.in_ok-said.ensures c.with_end.ensures

pub returns-clause-only : goal.returns-clause-only
returns-clause-only c text is =
    only_text c.with_end.result c.args.schema.now c.args.script.now text
    (play_text c.with_end.result c.args.schema.now c.args.script.now c.in_ok-said.said
    c.in_ok-said.end c.in_ok-said.ensures c.with_end.ensures) is
