use Rattle.gx_operations.proofs.EndedLemmas.{keeps_attached}
use Rattle.gx_operations.proofs.WorkLemmas.{work_kept}
use Rattle.gx_operations.proofs.working.work.Goals as goal

pub returns-clause-promised : goal.returns-clause-promised
returns-clause-promised g c = λ can given of.
    let content = g.M.Device.content in
    work_kept given c.args.stored of c.requires.schema c.args.device.now c.args.blocks
    c.args.records (content c.args.machine) (content c.make_and_play-worked.result.1)
    (content c.tell-status.new.machine) c.tell-status.ensures.devices
    c.make_and_play-worked.result.0 c.tell-status.result
    (c.make_and_play-worked.ensures.attaches can) (c.make_and_play-worked.ensures.through can)
    (c.make_and_play-worked.ensures.worked can) (c.make_and_play-worked.ensures.each can)
    (c.tell-status.ensures.told can.told) c.tell-status.ensures.rest.script
    (c.tell-status.ensures.moments can.told)

pub returns-clause-keeps : goal.returns-clause-keeps
returns-clause-keeps g c = λ can.
    let content = g.M.Device.content in
    keeps_attached c.args.device.now (content c.args.machine)
    (content c.make_and_play-worked.result.1) (content c.tell-status.new.machine)
    (c.make_and_play-worked.ensures.attaches can) c.tell-status.ensures.devices
    c.tell-status.ensures.rest.aside
