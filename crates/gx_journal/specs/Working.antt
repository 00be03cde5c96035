-- What is in memory of the working pages, as contracts see it.
use Rattle.std.specs.Prelude.{◌≡◌, ℕ, Bool, false, List, length, get_or}
use Rattle.gx_device.specs.Content.{Content}
use Rattle.gx_frames.specs.Pool.{IsChanged}
use Rattle.gx_journal.specs.Sources.{page_of, IsCached}
use Rattle.gx_journal.specs.State.{pages_told}
use Rattle.gx_journal.specs.declared.working.WorkingPages.{WorkingPages}

-- how many pages there are
abbrev pub size_in : WorkingPages → ℕ
size_in w = length w.spilled.items

-- a working page, over what the device holds
abbrev pub page_in : ℕ → ℕ → Content → WorkingPages → ℕ → List ℕ
page_in size P c w = page_of size P c.now.blocks w.spilled.items w.frames.resident

-- the working pages
abbrev pub pages_in : Bool → ℕ → ℕ → Content → WorkingPages → List (List ℕ)
pages_in tells size P c w = pages_told tells size P c w.spilled.items w.frames.resident

-- a page in a frame that hasn't changed has the bytes that the device holds of it
abbrev pub IsCachedIn : ℕ → ℕ → Content → WorkingPages → Type 0
IsCachedIn size P c w = IsCached size P c.now.blocks w.spilled.items w.frames.resident

-- no page in a frame has changed, and none is spilled
pub record IsUnchangedIn (w : WorkingPages) : Type 0 where
  pub clean : (q : ℕ) → ¬ IsChanged w.frames q
  pub unspilled : (q : ℕ) → get_or w.spilled.items q false ≡ false
