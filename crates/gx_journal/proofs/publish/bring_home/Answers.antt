use Rattle.std.proofs.Common.{List, ℕ, [], get_or, ap, ◌∙◌}
use Rattle.gx_laws.proofs.ResultLemmas.{on_ok_always}
use Rattle.gx_layout.specs.Layout.{home}
use Rattle.gx_layout.proofs.CallLemmas.{counted}
use Rattle.gx_journal.proofs.DeviceLemmas.{not_flushed, flushed}
use Rattle.gx_journal.proofs.publish.bring_home.Goals as goal

pub returns-clause-homes : goal.returns-clause-homes
returns-clause-homes g c told = on_ok_always c.sync.result (λ i lt.
    ap (λ (l : List (List ℕ)). get_or l (home (g.D.Device.size c.args.device.now) c.args.pages
    (get_or c.args.listed.now.items i 0)) [])
    c.sync.ensures.rest.blocks
    ∙ c.in_ok-write_homes.ensures.homes told i lt)

pub returns-in_err-write_homes-clause-flushes : goal.returns-in_err-write_homes-clause-flushes
returns-in_err-write_homes-clause-flushes g c =
    not_flushed g.D.Device c.from_residual.result c.from_residual.ensures.0
    c.in_err-write_homes.ensures.writes

pub returns-clause-flushes : goal.returns-clause-flushes
returns-clause-flushes g c =
    let sync = c.sync.ensures in
    flushed g.D.Device c.in_ok-write_homes.ensures.writes sync.rest sync.size
    (counted sync.cause sync.counted) sync.none_pending
