use Rattle.std.proofs.Common.{◌≡◌, IsTrue}
use Rattle.gx_device.specs.Crash.{Through, Outside}
use Rattle.gx_layout.specs.Layout.{IsIn, home, bit_in, flags, CopiedBelow, OnlyBlocks}
use Rattle.gx_layout.proofs.recovery.copy_named.Given as goal

abbrev pub invariant-loop-p : goal.invariant-loop-p
invariant-loop-p g l =
    let content = g.D.Device.content in
    let named = IsIn (home (g.D.Device.size l.fn.device) l.pages 0)
    (flags (bit_in l.i l.block) l.pages) in
    record {
      size : g.D.Device.size l.device ≡ g.D.Device.size l.fn.device;
      faults : g.D.Device.faults l.device ≡ g.D.Device.faults l.fn.device;
      run : Through (Outside named
          (content l.fn.device).now) (content l.fn.device)
          (content l.device);
      touched : OnlyBlocks named (content l.fn.device)
          (content l.device);
      copied : IsTrue g.D.Device.tells
          → CopiedBelow l.p (g.D.Device.size l.fn.device) l.pages (bit_in l.i l.block)
          (content l.fn.device).now (content l.device).now;
    }
