use Rattle.gx_top.proofs.ReadyLemmas.{readied, unreadied}
use Rattle.gx_top.proofs.ready.ready_stored.Goals as goal

pub returns-clause-readies : goal.returns-clause-readies
returns-clause-readies g c =
    readied g.M.Device.content g.M.Device.faults g.M.Device.tells c.args.machine.now
    c.prepare_stored.new.machine c.settle.new.machine _ c.in_ok-stored.ensures.fetches _
    c.in_ok-settle.ensures.readies

pub returns-in_err-settle-clause-readies : goal.returns-in_err-settle-clause-readies
returns-in_err-settle-clause-readies g c =
    unreadied g.M.Device.content g.M.Device.faults g.M.Device.tells c.args.machine.now
    c.prepare_stored.new.machine c.settle.new.machine _ c.in_ok-stored.ensures.fetches
    c.in_err-settle.field-0.0 c.from_residual-in_err-settle.result c.in_err-settle.ensures.readies
    c.from_residual-in_err-settle.ensures.1
