use Rattle.std.proofs.Common.{◌≡◌, ◌<◌, ◌*◌, ℕ, get_or, IsTrue}
use Rattle.gx_layout.specs.Layout.{head_of}
use Rattle.gx_layout.specs.Head.{text_at}
use Rattle.gx_layout.specs.Calm.{OnlyReads}
use Rattle.gx_layout.proofs.texts.texts_differ.Given as goal

abbrev pub invariant-loop-i : goal.invariant-loop-i
invariant-loop-i g l =
    let content = g.D.Device.content in
    record {
      size : g.D.Device.size l.device ≡ g.D.Device.size l.fn.device;
      faults : g.D.Device.faults l.device ≡ g.D.Device.faults l.fn.device;
      reads : OnlyReads (content l.fn.device) (content l.device);
      same : IsTrue g.D.Device.tells → (q : ℕ) → q < 4096 * l.i
          → text_at (head_of (content l.fn.device).now.blocks) q ≡ get_or l.area q 0;
    }
