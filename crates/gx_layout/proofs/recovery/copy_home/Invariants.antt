use Rattle.std.proofs.Common.{◌≡◌, IsTrue}
use Rattle.gx_device.specs.Content.{Silent}
use Rattle.gx_device.specs.Crash.{Through, Outside}
use Rattle.gx_layout.specs.Layout.{IsIn, home, has_bit_on, flags, OnlyBlocks}
use Rattle.gx_layout.proofs.RecoverLemmas.{CopiedBefore}
use Rattle.gx_layout.proofs.recovery.copy_home.Given as goal

abbrev pub invariant-loop-i : goal.invariant-loop-i
invariant-loop-i g l =
    let start = g.D.Device.content l.fn.device in
    let now = g.D.Device.content l.device in
    let blocks = g.D.Device.size l.fn.device in
    let named = IsIn (home blocks l.pages 0) (flags (has_bit_on start.now.blocks) l.pages) in
    record {
      size : g.D.Device.size l.device ≡ blocks;
      faults : g.D.Device.faults l.device ≡ g.D.Device.faults l.fn.device;
      silent : Silent start now;
      run : IsTrue g.D.Device.tells → Through (Outside named start.now) start now;
      touched : IsTrue g.D.Device.tells → OnlyBlocks named start now;
      copied : IsTrue g.D.Device.tells → CopiedBefore l.i blocks l.pages start.now now.now;
    }
