use Rattle.std.proofs.Common.{ℕ, List, [], get_or, ap, ◌∙◌}
use Rattle.std.proofs.lemmas.Result.{IfOk-from_err}
use Rattle.gx_laws.proofs.ResultLemmas.{on_ok_always}
use Rattle.gx_layout.specs.Layout.{head_of, is_open, has_bit_on}
use Rattle.gx_layout.specs.Head.{IsFormatted}
use Rattle.gx_layout.proofs.BlockLemmas.{blocks_twice, blocks_sync}
use Rattle.gx_layout.proofs.CallLemmas.{counted, counted_after}
use Rattle.gx_layout.proofs.FormatLemmas.{besides, besides_synced}
use Rattle.gx_layout.proofs.formatting.format.Goals as goal

pub returns-in_err-lay_out-clause-images : goal.returns-in_err-lay_out-clause-images
returns-in_err-lay_out-clause-images g c =
    besides (IsFormatted (g.D.Device.size c.args.device.now)) _ _ c.lay_out.ensures.run

pub returns-clause-images : goal.returns-clause-images
returns-clause-images g c =
    besides_synced (IsFormatted (g.D.Device.size c.args.device.now)) _
    (g.D.Device.content c.lay_out.new.device) _ c.lay_out.ensures.run
    c.sync.ensures.rest

pub returns-clause-touches : goal.returns-clause-touches
returns-clause-touches g c =
    let free = IsFormatted (g.D.Device.size c.args.device.now) in
    let first = c.lay_out.ensures.touches in
    record {
      rest = blocks_twice free _ (g.D.Device.content c.lay_out.new.device) _ first.rest
          (blocks_sync free _ _ c.sync.ensures.rest);
      size = c.sync.ensures.size ∙ first.size;
      faults = counted_after c.in_ok-lay_out.ensures.touches.faults.same
          (counted c.sync.ensures.cause c.sync.ensures.counted);
    }

pub returns-clause-head : goal.returns-clause-head
returns-clause-head g c told =
    on_ok_always c.sync.result (ap head_of c.sync.ensures.rest.blocks
    ∙ c.in_ok-lay_out.ensures.head told)

pub returns-clause-closed : goal.returns-clause-closed
returns-clause-closed g c told =
    on_ok_always c.sync.result
    (ap (λ (l : List (List ℕ)). is_open (get_or l 1 [])) c.sync.ensures.rest.blocks
    ∙ c.in_ok-lay_out.ensures.closed told)

pub returns-clause-bitmap : goal.returns-clause-bitmap
returns-clause-bitmap g c told = on_ok_always c.sync.result
    (λ p below. ap (λ (l : List (List ℕ)). has_bit_on l p) c.sync.ensures.rest.blocks
    ∙ c.in_ok-lay_out.ensures.bitmap told p below)

pub returns-in_err-lay_out-clause-head : goal.returns-in_err-lay_out-clause-head
returns-in_err-lay_out-clause-head g c told =
    IfOk-from_err c.from_residual.result _ c.from_residual.ensures.0
