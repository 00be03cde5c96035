-- Pages that go from their slots to their homes.
use Rattle.std.specs.Prelude.{◌≡◌, ◌<◌, ◌≤◌, ℕ, Bool, true, false, List, length, get_or, Result, Some, IsTrue, OnOk}
use Rattle.gx_device.specs.declared.device.Device as device
use Rattle.gx_device.specs.declared.device.Failed.{Failed}
use Rattle.gx_device.specs.Content.{Moment, Content, block_of}
use Rattle.gx_device.specs.Crash.{LeavesOnly}
use Rattle.gx_frames.specs.Pool.{Resident, Pool, find_page}
use Rattle.gx_layout.specs.Layout.{View, AtRest, Either, Holds, SameButChanged, with_pages, head_blocks, slot, home}
use Rattle.gx_journal.specs.Sources.{IsListed}

-- the same pages stand in the frames, with the same bytes, in any order
pub record SameResidents (old new : Pool) : Type 0 where
  pub frames : new.frames ≡ old.frames
  pub pages : new.pages ≡ old.pages
  pub count : length new.resident ≤ length old.resident
  pub found : (p : ℕ) → find_page p new.resident ≡ find_page p old.resident

-- the home of each listed page has what was in its slot
abbrev pub AreCopiedHome : ℕ → ℕ → List ℕ → (old new : Moment) → Type 0
AreCopiedHome size P listed old new = (i : ℕ) → i < length listed
    → block_of new (home size P (get_or listed i 0)) ≡ block_of old (slot size (get_or listed i 0))

-- the device is at rest with the kept pages, and those that have changed since are in their slots
pub record IsPrepared (kept : View) (pages : List (List ℕ)) (spilled : List Bool)
    (m : Moment) : Type 0 where
  pub kept_count : length kept.pages ≡ length pages
  pub count : length spilled ≡ length pages
  pub rest : AtRest m kept
  pub same : SameButChanged spilled kept.pages pages
  pub slots : Holds (head_blocks kept.size) pages spilled m

-- The pages take the place of the kept ones all at once: a crash within the call leaves the kept
-- ones or these, and after an Ok the device is at rest with these.
pub record Replaces {T : Type 0} (kept : View) (pages : List (List ℕ)) (old new : Content)
    (result : Result T Failed) : Type 0 where
  pub images : LeavesOnly (Either kept (with_pages kept pages)) old new
  pub at_rest : OnOk result (AtRest new.now (with_pages kept pages))

module _ {D : Type 0} (g : device.Ghosts D) where
  -- where a page stands in a frame, its slot has the same bytes
  abbrev pub IsInSlot : ℕ → Pool → D → Type 0
  IsInSlot p frames d = IsTrue g.tells → (r : Resident) → find_page p frames.resident ≡ Some r
      → r.bytes ≡ block_of (g.content d).now (slot (g.size d) p)

  -- each listed page is one of so many, and in its slot
  pub record AreInSlots (pages : ℕ) (listed : List ℕ) (frames : Pool) (d : D) : Type 0 where
    pub count : frames.pages ≡ pages
    pub below : (i : ℕ) → i < length listed → get_or listed i 0 < pages
    pub slots : (i : ℕ) → i < length listed → IsInSlot (get_or listed i 0) frames d

  -- the spilled pages are listed, and in their slots
  pub record AreSpilled (spilled : List Bool) (listed : List ℕ) (frames : Pool)
      (d : D) : Type 0 where
    pub count : frames.pages ≡ length spilled
    pub named : IsListed spilled listed
    pub slots : (p : ℕ) → get_or spilled p false ≡ true → IsInSlot p frames d
