use Rattle.std.proofs.Common.{Err, ap}
use Rattle.gx_play.proofs.PlayLemmas.{is_err}
use Rattle.gx_play.proofs.AnsweringLemmas.{err_same}
use Rattle.gx_explain.proofs.explanation.explained_line.Goals as goal

pub returns-in_err-asked-clause-bad : goal.returns-in_err-asked-clause-bad
returns-in_err-asked-clause-bad c = λ n why e.
    c.in_err-asked.ensures.bad n why
    (ap Err (err_same _ _ _ (is_err _ _ c.from_residual.ensures.1) e))
