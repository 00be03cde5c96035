use Rattle.std.proofs.Common.{◌≡◌, ◌∙◌, ap, ℕ}
use Rattle.gx_layout.specs.Layout.{home}
use Rattle.gx_layout.proofs.CallLemmas.{counted, failed_counted}
use Rattle.gx_journal.proofs.DeviceLemmas.{writes_joined, read_writes, block_writes}
use Rattle.gx_journal.proofs.publish.copy_home.Goals as goal

pub returns-in_err-read_block-clause-writes : goal.returns-in_err-read_block-clause-writes
returns-in_err-read_block-clause-writes g c =
    let read = c.in_err-read_block.ensures in
    read_writes g.D.Device (λ n. n ≡ home (g.D.Device.size c.args.device.now) c.args.pages c.args.p)
    (record {
      rest = c.read_block.ensures.rest;
      size = c.read_block.ensures.size;
      faults = failed_counted c.from_residual.result c.from_residual.ensures.0
          (counted read.cause read.counted);
    })

pub returns-clause-writes : goal.returns-clause-writes
returns-clause-writes g c =
    let free = λ (n : ℕ). n ≡ home (g.D.Device.size c.args.device.now) c.args.pages c.args.p in
    let read = c.in_ok-read_block.ensures in
    let write = c.write_block.ensures in
    writes_joined g.D.Device
    (read_writes g.D.Device free (record {
      rest = c.read_block.ensures.rest;
      size = c.read_block.ensures.size;
      faults = counted read.cause read.counted;
    }))
    (block_writes g.D.Device free c.home.result
    (c.home.ensures ∙ ap (λ (n : ℕ). home n c.args.pages c.args.p) c.blocks-size.ensures.count)
    (record {
      rest = write.rest;
      size = write.size;
      faults = counted write.cause write.counted;
    }))
