-- What calls on the device alone need, and what they keep.
use Rattle.std.specs.Prelude.{◌≡◌, ◌≤◌, ◌+◌, ◌*◌, ℕ, Result}
use Rattle.gx_device.specs.declared.device.Device as device
use Rattle.gx_device.specs.declared.device.Failed.{Failed}
use Rattle.gx_device.specs.Content.{OnlyTime, Writes}
use Rattle.gx_device.specs.Faults.{IsCounted}
use Rattle.gx_layout.specs.Layout.{head_blocks, most_pages}
pub use Rattle.gx_layout.specs.Calls.{TouchesOnly, WritesOnly, FlushesOnly}
use Rattle.gx_layout.specs.declared.places.TheConstants.{MAX_BLOCKS}

module _ {D : Type 0} (g : device.Ghosts D) where
  -- the bitmap has a bit for each of so many pages, and the device has a slot and a home for each
  pub record HasPlaces (d : D) (pages : ℕ) : Type 0 where
    pub few : pages ≤ most_pages (g.size d)
    pub room : head_blocks (g.size d) + 2 * pages ≤ g.size d
    pub limit : g.size d ≤ MAX_BLOCKS

  -- a call that takes a moment of the device, and changes nothing of what it holds
  pub record ReadsOnly {T : Type 0} (old new : D) (result : Result T Failed) : Type 0 where
    pub rest : OnlyTime (g.content old) (g.content new)
    pub size : g.size new ≡ g.size old
    pub faults : IsCounted (g.faults old) (g.faults new) result

  -- a call that writes one block
  pub record WritesBlock {T : Type 0} (n : ℕ) (old new : D)
      (result : Result T Failed) : Type 0 where
    pub rest : Writes n (g.content old) (g.content new)
    pub size : g.size new ≡ g.size old
    pub faults : IsCounted (g.faults old) (g.faults new) result
