use Rattle.std.proofs.Common.{◌≡◌, ◌<◌, ◌+◌, ℕ}
use Rattle.std.specs.Prelude.{IsTrue}
use Rattle.gx_device.specs.Content.{block_of}
use Rattle.gx_device.specs.Crash.{Through, Outside}
use Rattle.gx_layout.specs.Layout.{OnlyBlocks, NamesBlock}
use Rattle.gx_layout.specs.Places.{IsBitmap}
use Rattle.gx_layout.proofs.bitmap.write_bitmap.Given as goal

abbrev pub invariant-loop-i : goal.invariant-loop-i
invariant-loop-i g l =
    let content = g.D.Device.content in
    let bitmap = IsBitmap (g.D.Device.size l.fn.device) in
    record {
      size : g.D.Device.size l.device ≡ g.D.Device.size l.fn.device;
      faults : g.D.Device.faults l.device ≡ g.D.Device.faults l.fn.device;
      run : Through (Outside bitmap (content l.fn.device).now) (content l.fn.device)
          (content l.device);
      rest : OnlyBlocks bitmap (content l.fn.device) (content l.device);
      names : IsTrue g.D.Device.tells → (k : ℕ) → k < l.i
          → NamesBlock l.listed k (block_of (content l.device).now (2 + k));
    }
