use Rattle.std.proofs.Common.{◌≡◌, ◌<◌, ◌+◌, ℕ, IsTrue}
use Rattle.gx_device.specs.Content.{block_of}
use Rattle.gx_device.specs.Crash.{Through, Outside}
use Rattle.gx_layout.specs.Layout.{OnlyBlocks, first_text}
use Rattle.gx_layout.specs.Head.{block_in, IsText}
use Rattle.gx_layout.proofs.formatting.write_texts.Given as goal

abbrev pub invariant-loop-i : goal.invariant-loop-i
invariant-loop-i g l =
    let content = g.D.Device.content in
    let texts = IsText (g.D.Device.size l.fn.device) in
    record {
      size : g.D.Device.size l.device ≡ g.D.Device.size l.fn.device;
      faults : g.D.Device.faults l.device ≡ g.D.Device.faults l.fn.device;
      run : Through (Outside texts (content l.fn.device).now) (content l.fn.device)
          (content l.device);
      rest : OnlyBlocks texts (content l.fn.device) (content l.device);
      texts : IsTrue g.D.Device.tells → (k : ℕ) → k < l.i
          → block_of (content l.device).now (first_text (g.D.Device.size l.fn.device) + k)
          ≡ block_in l.area k;
    }
