use Rattle.std.proofs.Common.{subst}
use Rattle.gx_play.specs.declared.ending.Ending.TheVariants as ending
use Rattle.gx_play.specs.Endings.{IsEnded, EndsThrough}
use Rattle.gx_operations.proofs.AnswerLemmas.{check_kept}
use Rattle.gx_operations.proofs.EndedLemmas.{keeps_said}
use Rattle.gx_operations.proofs.checking.check.Goals as goal

pub returns-clause-promised : goal.returns-clause-promised
returns-clause-promised g c = λ told given same.
    let old = g.M.Device.content c.args.machine.now in
    let new = g.M.Device.content c.end.new.machine in
    check_kept given c.args.specs.now old new c.end.result same
    (subst (λ t. IsEnded (ending.Accepted t) old new c.end.result) c.summarize-summary.ensures
    (record { due = c.end.ensures.due; words = c.end.ensures.words told })) c.end.ensures.devices
    (subst (λ t. EndsThrough (ending.Accepted t) old new) c.summarize-summary.ensures
    (c.end.ensures.moments told))

pub returns-clause-keeps : goal.returns-clause-keeps
returns-clause-keeps g c =
    keeps_said (g.M.Device.content c.args.machine.now) (g.M.Device.content c.end.new.machine)
    c.end.ensures.devices c.end.ensures.rest.aside
