use Rattle.gx_engine.proofs.PartLemmas.{ends_joined}
use Rattle.gx_move.proofs.StockLemmas.{ends_given}
use Rattle.gx_move.proofs.taking.take_files.Goals as goal

pub returns-in_err-or_stop-clause-ends : goal.returns-in_err-or_stop-clause-ends
returns-in_err-or_stop-clause-ends g c =
    let b = g.B.View in
    let read = ends_joined b _ _ _ _ c.loop-file.invariant.ends c.in_ok-records.ensures.ends in
    ends_given b _ _ _ _ c.from_residual-in_err-or_stop.ensures.1
    (ends_joined b _ _ _ _ read c.in_err-or_stop.ensures.ends)
