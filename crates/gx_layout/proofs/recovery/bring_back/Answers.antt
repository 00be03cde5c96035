use Rattle.std.proofs.Common.{sym}
use Rattle.std.proofs.lemmas.Result.{on_ok_weaker}
use Rattle.gx_layout.specs.Layout.{IsIn, has_bit_on, flags, home}
use Rattle.gx_layout.proofs.BlockLemmas.{silent_twice, blocks_sync, blocks_twice}
use Rattle.gx_layout.proofs.RecoverLemmas.{room_of, few_of, back_copied, back_synced, back_ready}
use Rattle.gx_layout.proofs.recovery.bring_back.Goals as goal

pub returns-in_err-copy_home-clause-images : goal.returns-in_err-copy_home-clause-images
returns-in_err-copy_home-clause-images g c told v counts none reads opened =
    let P = c.args.pages in
    let sized = g.met.D.Device.sized c.args.device.now told in
    back_copied v _ (room_of _ P _ sized c.requires.room)
    (few_of _ P _ v.pages sized counts c.requires.limit) none reads opened
    (g.D.Device.size c.args.device.now) (sym sized) P counts _ (c.copy_home.ensures.rest told)

pub returns-clause-images : goal.returns-clause-images
returns-clause-images g c told v counts none reads opened =
    let P = c.args.pages in
    let sized = g.met.D.Device.sized c.args.device.now told in
    back_synced v _ (room_of _ P _ sized c.requires.room)
    (few_of _ P _ v.pages sized counts c.requires.limit) none reads opened
    (g.D.Device.size c.args.device.now) (sym sized) P counts
    (g.D.Device.content c.copy_home.new.device) (c.copy_home.ensures.rest told)
    _ c.sync.ensures.rest

pub returns-clause-ready : goal.returns-clause-ready
returns-clause-ready g c told v counts none reads opened =
    let P = c.args.pages in
    let sized = g.met.D.Device.sized c.args.device.now told in
    on_ok_weaker c.sync.result
    (λ settled. back_ready v _ (room_of _ P _ sized c.requires.room)
    (few_of _ P _ v.pages sized counts c.requires.limit) none reads opened
    (g.D.Device.size c.args.device.now) (sym sized) P counts
    (g.D.Device.content c.copy_home.new.device) (c.copy_home.ensures.rest told)
    (g.D.Device.content c.sync.new.self) c.sync.ensures.rest settled
    (c.in_ok-copy_home.ensures.copied told)) (c.sync.ensures.none_pending told)

pub returns-clause-touched : goal.returns-clause-touched
returns-clause-touched g c told =
    let a = g.D.Device.content c.args.device.now in
    let free = IsIn (home (g.D.Device.size c.args.device.now) c.args.pages 0)
    (flags (has_bit_on a.now.blocks) c.args.pages) in
    blocks_twice free a (g.D.Device.content c.copy_home.new.device) _
    (c.copy_home.ensures.touched told) (blocks_sync free _ _ c.sync.ensures.rest)

pub returns-clause-silent : goal.returns-clause-silent
returns-clause-silent g c =
    silent_twice _ (g.D.Device.content c.copy_home.new.device) _ c.copy_home.ensures.silent
    (blocks_sync (λ n. Unit {0}) _ _ c.sync.ensures.rest).silent
