use Rattle.std.proofs.Common.{◌≡◌, ◌∙◌, ap, ℕ}
use Rattle.gx_layout.specs.Layout.{home}
use Rattle.gx_journal.proofs.CallLemmas.{front_residents}
use Rattle.gx_layout.proofs.CallLemmas.{counted}
use Rattle.gx_journal.proofs.DeviceLemmas.{block_writes}
use Rattle.gx_journal.proofs.publish.write_home.Goals as goal

pub returns-in-Some-clause-frames : goal.returns-in-Some-clause-frames
returns-in-Some-clause-frames g c =
    front_residents c.args.p c.args.frames.now _ c.get.follows.holds-at-none

pub returns-in-Some-clause-writes : goal.returns-in-Some-clause-writes
returns-in-Some-clause-writes g c =
    let write = c.write_block.ensures in
    block_writes g.D.Device
    (λ n. n ≡ home (g.D.Device.size c.args.device.now) c.args.pages c.args.p) c.home-block.result
    (c.home-block.ensures
    ∙ ap (λ (n : ℕ). home n c.args.pages c.args.p) c.blocks-2.ensures.count)
    (record {
      rest = write.rest;
      size = write.size;
      faults = counted write.cause write.counted;
    })
