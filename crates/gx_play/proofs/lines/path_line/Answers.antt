use Rattle.gx_play.proofs.LineLemmas.{due_short}
use Rattle.gx_play.proofs.lines.path_line.Goals as goal

pub returns-in-Ok-clause-due : goal.returns-in-Ok-clause-due
returns-in-Ok-clause-due c =
    due_short c.args.schema.now c.in-Ok.query c.args.line.now c.in-Ok.ensures.of_schema
    c.in-Ok.ensures.few c.requires.short
