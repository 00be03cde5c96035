use Rattle.gx_play.proofs.LineLemmas.{bad_line}
use Rattle.gx_play.proofs.lines.line_command.Goals as goal

pub returns-in-Err-clause-bad : goal.returns-in-Err-clause-bad
returns-in-Err-clause-bad c =
    λ why e. bad_line _ _ _ c.in-Ok.command c.in-Err.why why c.in-Ok.ensures.found c.in-Err.ensures
    e
