use Rattle.gx_operations.proofs.AnswerLemmas.{refusal_kept, gives_up}
use Rattle.gx_operations.proofs.EndedLemmas.{keeps_said}
use Rattle.gx_operations.proofs.refusing.refuse.Goals as goal

pub returns-clause-refused : goal.returns-clause-refused
returns-clause-refused g c = λ told is.
    refusal_kept _ (g.M.Device.content c.args.machine)
    (g.M.Device.content c.end-status.new.machine) c.end-status.result
    (record { due = c.end-status.ensures.due; words = c.end-status.ensures.words told })
    c.end-status.ensures.devices (c.end-status.ensures.moments told) is

pub returns-clause-given_up : goal.returns-clause-given_up
returns-clause-given_up g c = λ told is.
    gives_up _ (g.M.Device.content c.args.machine)
    (g.M.Device.content c.end-status.new.machine) c.end-status.result
    (record { due = c.end-status.ensures.due; words = c.end-status.ensures.words told })
    c.end-status.ensures.devices (c.end-status.ensures.moments told) is

pub returns-clause-fault : goal.returns-clause-fault
returns-clause-fault g c = c.end-status.ensures.due.fault

pub returns-clause-keeps : goal.returns-clause-keeps
returns-clause-keeps g c =
    keeps_said (g.M.Device.content c.args.machine) (g.M.Device.content c.end-status.new.machine)
    c.end-status.ensures.devices c.end-status.ensures.rest.aside
