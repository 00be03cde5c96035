-- Leaves on a named device of a machine, as contracts see them.
use Rattle.std.specs.Prelude.{◌≡◌, ◌≢◌, ℕ, Bool, true, false, not, List, Some, Result, Ok, Err, IsTrue}
use Rattle.gx_device.specs.declared.device.Device as device
use Rattle.gx_device.specs.Content.{Content, MayAttach, device_at}
use Rattle.gx_ports.specs.declared.page_view.PageView as page_view
use Rattle.gx_ports.specs.LeafMaps.{LeafMap}
use Rattle.gx_journal.specs.Journal.{device_of}
use Rattle.gx_pages.specs.declared.paged.Paged.{Paged}
use Rattle.gx_pages.specs.View.{journal_of}
use Rattle.gx_leaves.specs.declared.paged.PagedLeaves.{PagedLeaves}
use Rattle.gx_leaves.specs.Paged.{pages_of, working_of, kept_of, IsWhole, WasWhole}
use Rattle.gx_store.specs.declared.unopened.Unopened.{Unopened}
use Rattle.gx_store.specs.declared.unopened.Unopened.TheVariants as unopened

-- the machine tells its content, and a device may be attached
pub record CanAttach (tells : Bool) (c : Content) : Type 0 where
  pub told : IsTrue tells
  pub may : MayAttach c

-- all but the device of that name is as it was
pub record Attaches (name : List ℕ) (old new : Content) : Type 0 where
  pub said : new.now.said ≡ old.now.said
  pub script : new.script ≡ old.script
  pub aside : new.aside ≡ old.aside
  pub others : (other : List ℕ) → other ≢ name → device_at new.now other ≡ device_at old.now other

-- a device of that name that was there reads as it did
abbrev pub KeepsDevice : List ℕ → Content → Content → Type 0
KeepsDevice name old new = (blocks : List (List ℕ)) → device_at old.now name ≡ Some blocks
    → device_at new.now name ≡ Some blocks

-- the device of that name has these blocks, and P holds of them
abbrev pub OfBlocks : List ℕ → Content → (List (List ℕ) → Type 0) → Type 0
OfBlocks name c P = (blocks : List (List ℕ)) × (device_at c.now name ≡ Some blocks) × P blocks

-- whether a call of the machine failed
abbrev pub is_fault : Unopened → Bool
is_fault unopened.Fault = true
is_fault why = false

module _ {M : Type 0} {g : device.Ghosts M} {v : page_view.Ghosts (Paged M g)} where
  abbrev pub machine_of : PagedLeaves (Paged M g) v → M
  machine_of s = device_of (journal_of (pages_of s))

  -- the leaves hold these maps, as they are and as they were last committed, and are whole
  pub record HoldsMaps (maps : List LeafMap) (s : PagedLeaves (Paged M g) v) : Type 0 where
    pub working : working_of s ≡ maps
    pub kept : kept_of s ≡ maps
    pub whole : IsWhole s
    pub was_whole : WasWhole s

  -- No commit of the leaves has failed, and what they hold is what they held at the last one,
  -- whether whole or not.
  pub record IsJustOpened (s : PagedLeaves (Paged M g) v) : Type 0 where
    pub steady : v.steady (pages_of s)
    pub kept_is : kept_of s ≡ working_of s
    pub was_whole : IsWhole s → WasWhole s

  -- the machine, whether or not its device was opened
  abbrev pub machine_left : Result (PagedLeaves (Paged M g) v) (M × Unopened) → M
  machine_left (Ok s) = machine_of s
  machine_left (Err e) = e.0

  abbrev pub goes_on : Result (PagedLeaves (Paged M g) v) (M × Unopened) → Bool
  goes_on (Ok s) = true
  goes_on (Err e) = not (is_fault e.1)
