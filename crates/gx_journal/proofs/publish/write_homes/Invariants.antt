use Rattle.std.proofs.Common.{◌≡◌, ◌<◌, ℕ, Ok, length, get_or, IsTrue}
use Rattle.gx_device.specs.Content.{block_of}
use Rattle.gx_layout.specs.Layout.{slot, home}
use Rattle.gx_journal.specs.DeviceCalls.{WritesOnly}
use Rattle.gx_journal.specs.Publishing.{SameResidents}
use Rattle.gx_journal.specs.Sources.{IsHomeOf}
use Rattle.gx_journal.proofs.publish.write_homes.Given as goal

abbrev pub invariant-loop-i : goal.invariant-loop-i
invariant-loop-i g l =
    let content = g.D.Device.content in
    let page = λ (i : ℕ). get_or l.listed.items i 0 in
    record {
      frames : SameResidents l.fn.frames l.frames;
      writes : WritesOnly g.D.Device {T = Unit {0}} (IsHomeOf (g.D.Device.size l.fn.device) l.pages
          l.listed.items) l.fn.device
          l.device (Ok tt);
      homes : IsTrue g.D.Device.tells → (j : ℕ) → j < l.i → j < length l.listed.items → block_of
          (content l.device).now (home (g.D.Device.size l.fn.device) l.pages (page j)) ≡ block_of
          (content l.fn.device).now
          (slot (g.D.Device.size l.fn.device) (page j));
    }
