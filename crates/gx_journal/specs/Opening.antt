-- A call that opens a device as a journal.
use Rattle.std.specs.Prelude.{◌≡◌, ◌≢◌, ◌≤◌, ℕ, Bool, true, false, List, ◌∷◌, Result, Ok, Err, IsTrue}
use Rattle.gx_device.specs.declared.device.Device as device
use Rattle.gx_device.specs.Content.{Content, NonePending, Silent, block_of}
use Rattle.gx_device.specs.Faults.{Counted}
use Rattle.gx_layout.specs.Layout.{pages_of}
use Rattle.gx_layout.specs.Head.{HasMagic, text_blocks}
use Rattle.gx_layout.specs.Recovered.{IsUnwritten, replayed_pages}
use Rattle.gx_layout.specs.declared.places.TheConstants.{MAX_BLOCKS}
use Rattle.gx_journal.specs.declared.opening.Unopened.{Unopened}
use Rattle.gx_journal.specs.declared.opening.Unopened.TheVariants.{Fault, NoMemory, NoDatabase}
use Rattle.gx_journal.specs.declared.journal.Journal.{Journal}
use Rattle.gx_journal.specs.Journal.{content_of, size_of, frames_of, working_of, kept_of, kept_head, IsSteady, IsUnchanged, IsCalm}
use Rattle.gx_journal.specs.State.{homes_told, head_told}

-- a pool may have so many frames
pub record IsPoolSize (frames : ℕ) : Type 0 where
  pub least : 8 ≤ frames
  pub most : frames ≤ 1024

-- a device of so many blocks has a layout, perhaps with no page
pub record IsDeviceSize (size : ℕ) : Type 0 where
  pub least : 7 ≤ size
  pub most : size ≤ MAX_BLOCKS

module _ {D : Type 0} {g : device.Ghosts D} where
  -- the device, where it opened in the journal, else as it is handed back
  abbrev pub device_left : Result (Journal D g) (D × Unopened) → D
  device_left (Ok j) = j.device
  device_left (Err e) = e.0

  -- what it holds
  abbrev pub content_left : Result (Journal D g) (D × Unopened) → Content
  content_left result = g.content (device_left result)

  -- no call of the device failed
  abbrev pub has_no_fault : Result (Journal D g) (D × Unopened) → Bool
  has_no_fault (Err (device, Fault)) = false
  has_no_fault _ = true

  -- a journal over the device, with as many frames as were asked, in which no page has changed;
  -- no block is pending
  pub record IsOpenedOver (d : D) (asked : ℕ) (j : Journal D g) : Type 0 where
    pub working : working_of j ≡ kept_of j
    pub size : size_of j ≡ pages_of (g.size d)
    pub frames : frames_of j ≡ asked
    pub unchanged : IsUnchanged j
    pub steady : IsSteady j
    pub calm : IsTrue g.tells → IsCalm j (content_of j)
    pub none_pending : IsTrue g.tells → NonePending (content_of j)

  -- it has the pages that the blocks of the device replay to, its texts and the magic
  pub record IsRecovered (d : D) (asked : ℕ) (j : Journal D g) : Type 0 where
    pub kept : IsTrue g.tells → kept_of j ≡ replayed_pages (g.content d).now.blocks
    pub head : kept_head j ≡ head_told g.tells (g.content d)
    pub magic : IsTrue g.tells → HasMagic (g.size d) (block_of (g.content d).now 0)
    pub opened : IsOpenedOver d asked j

  -- it has the pages that are at home on the device, and these texts
  pub record IsLaidOut (d : D) (asked : ℕ) (schema equation : List ℕ)
      (j : Journal D g) : Type 0 where
    pub kept : kept_of j ≡ homes_told g.tells (size_of j) (g.content d)
    pub head : IsTrue g.tells
        → kept_head j ≡ block_of (g.content d).now 0 ∷ text_blocks schema equation
    pub opened : IsOpenedOver d asked j

  -- what a call that opens a device leaves of it, whatever it answers, and how it counts faults
  pub record Opens (d : D) (result : Result (Journal D g) (D × Unopened)) : Type 0 where
    pub silent : Silent (g.content d) (content_left result)
    pub blocks : g.size (device_left result) ≡ g.size d
    pub faults : Counted (has_no_fault result) (g.faults d) (g.faults (device_left result))

-- Why a device isn't recovered. Without the magic no block was written, whatever is answered, and
-- after NoDatabase none is pending. For want of memory the device wasn't called.
pub record IsUnrecovered {D : Type 0} (g : device.Ghosts D) (d left : D)
    (why : Unopened) : Type 0 where
  pub no_magic : IsTrue g.tells → why ≡ NoDatabase
      → ¬ HasMagic (g.size d) (block_of (g.content d).now 0)
  pub unwritten : why ≡ NoDatabase → IsUnwritten (g.content d) (g.content left)
  pub failed : IsTrue g.tells → why ≡ Fault
      → ¬ HasMagic (g.size d) (block_of (g.content d).now 0)
      → IsUnwritten (g.content d) (g.content left)
  pub none_pending : IsTrue g.tells → why ≡ NoDatabase → NonePending (g.content left)
  pub uncalled : why ≡ NoMemory → left ≡ d

-- Why a device isn't laid out. For want of memory it wasn't called.
pub record IsNotLaidOut {D : Type 0} (d left : D) (why : Unopened) : Type 0 where
  pub database : why ≢ NoDatabase
  pub uncalled : why ≡ NoMemory → left ≡ d
