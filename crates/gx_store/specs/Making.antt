-- Why no device is made, and how the steps of making one end.
use Rattle.std.specs.Prelude.{◌≡◌, ◌⊎◌, ℕ, Bool, true, not, List, [], drop, get_or, length, replicate, Some, None, Result, Ok, Err, IfErr, OnOk, IsSome}
use Rattle.std.specs.FinMap.{empty}
use Rattle.gx_device.specs.declared.device.Device as device
use Rattle.gx_device.specs.Content.{Content, NonePending, device_at}
use Rattle.gx_device.specs.Crash.{EachImage, LeavesOnly}
use Rattle.gx_ports.specs.declared.kinds.LeafSpec.{LeafSpec}
use Rattle.gx_ports.specs.declared.page_view.PageView as page_view
use Rattle.gx_ports.specs.LeafMaps.{LeafMap}
use Rattle.gx_ports.specs.declared.stop.Stop.{Stop}
use Rattle.gx_ports.specs.declared.stop.Stop.TheVariants as stop
use Rattle.gx_journal.specs.declared.journal.Journal.{Journal}
use Rattle.gx_journal.specs.Journal.{IsCalm, content_of, kept_head}
use Rattle.gx_layout.specs.Head.{HasMagic, text_blocks}
use Rattle.gx_leaves.specs.declared.paged.PagedLeaves.{PagedLeaves}
use Rattle.gx_leaves.specs.Paged.{pages_of, working_of, kept_of, head_of, IsWhole, WasWhole}
use Rattle.gx_leaves.specs.Places.{IsRoomFor}
use Rattle.gx_pages.specs.declared.paged.Paged.{Paged}
use Rattle.gx_pages.specs.Paged.{ground_of, kept_sheets}
use Rattle.gx_pages.specs.View.{journal_of}
use Rattle.gx_store.specs.Device.{IsSize, AreMaps, IsHeadBefore, IsMadeOn, IsNoneOrEmpty, IsSettled, Reopens}
use Rattle.gx_store.specs.Store.{KeepsDevice, OfBlocks, HoldsMaps, machine_of, machine_left, is_fault}
use Rattle.gx_store.specs.Opening.{is_untouched}
use Rattle.gx_store.specs.Crashes.{Unattached, IsNewImage, Makes, Prepares, UnmakesBy}
use Rattle.gx_store.specs.declared.unopened.Unopened.{Unopened}
use Rattle.gx_store.specs.declared.unopened.Unopened.TheVariants as unopened

-- Why no device of that name is made, with so many blocks.
abbrev pub IsUnmade : List ℕ → ℕ → List LeafSpec → Content → Unopened → Type 0
IsUnmade name count specs before unopened.Exists =
    IsSize specs count × IsSome (device_at before.now name)
IsUnmade name count specs before unopened.Size = ¬ IsSize specs count
IsUnmade name count specs before unopened.Fault = Unit {0}
IsUnmade name count specs before unopened.NoMemory = Unit {0}
IsUnmade name count specs before why = ⊥

-- Why nothing is made on a device that is attached.
abbrev pub IsUnlaid : Unopened → Type 0
IsUnlaid unopened.Fault = Unit {0}
IsUnlaid unopened.NoMemory = Unit {0}
IsUnlaid why = ⊥

-- Why nothing is made on an attached device of so many blocks.
abbrev pub IsUnmadeOn : List LeafSpec → ℕ → Unopened → Type 0
IsUnmadeOn specs count unopened.Size = ¬ IsSize specs count
IsUnmadeOn specs count why = IsUnlaid why

-- whether no call of the machine failed
abbrev pub has_no_fault : {T : Type 0} → Result T Unopened → Bool
has_no_fault (Ok done) = true
has_no_fault (Err why) = not (is_fault why)

-- what the refusal of leaves is here
abbrev pub not_laid : Stop → Unopened
not_laid stop.NoMemory = unopened.NoMemory
not_laid stop.Fault = unopened.Fault
not_laid stop.Full = unopened.Fault
not_laid (stop.Damaged block) = unopened.Fault

module _ {M : Type 0} {g : device.Ghosts M} where
  -- the blocks hold what the kept pages of a journal hold, under the texts of its head
  abbrev pub Publishes : Journal M g → List (List ℕ) → Type 0
  Publishes j blocks =
      (schema equation : List ℕ) (specs : List LeafSpec) (maps : List LeafMap)
      → drop 1 (kept_head j) ≡ text_blocks schema equation → IsRoomFor (ground_of j) specs
      → AreMaps (ground_of j) specs maps (kept_sheets j)
      → IsSettled schema equation specs maps blocks

  module _ {v : page_view.Ghosts (Paged M g)} where
    -- there are empty leaves of these kinds, which are to be committed yet
    pub record AreMade (specs : List LeafSpec) (s : PagedLeaves (Paged M g) v) : Type 0 where
      pub working : working_of s ≡ replicate (length specs) empty
      pub whole : IsWhole s

    -- These maps were kept at the last commit, on a device that is laid out under these texts and
    -- has no database yet: no crash leaves one.
    pub record IsUnsealed (schema equation : List ℕ) (specs : List LeafSpec)
        (maps : List LeafMap) (s : PagedLeaves (Paged M g) v) : Type 0 where
      pub kept : kept_of s ≡ maps
      pub was_whole : WasWhole s
      pub head : IsHeadBefore schema equation specs (head_of s)
      pub calm : IsCalm (journal_of (pages_of s)) (content_of (journal_of (pages_of s)))

    -- empty leaves on such a device
    pub record IsPrepared (schema equation : List ℕ) (specs : List LeafSpec)
        (s : PagedLeaves (Paged M g) v) : Type 0 where
      pub holds : HoldsMaps (replicate (length specs) empty) s
      pub unsealed : IsUnsealed schema equation specs (replicate (length specs) empty) s

    -- the same on a device of that name that was made
    pub record IsPreparedBy (name : List ℕ) (size : ℕ) (schema equation : List ℕ)
        (specs : List LeafSpec) (old : Content) (s : PagedLeaves (Paged M g) v) : Type 0 where
      pub is : IsPrepared schema equation specs s
      pub prepares : Prepares name size specs old (g.content (machine_of s))

    -- What preparing leaves of the device of that name, whatever the answer is; and what a refusal
    -- adds.
    pub record LeavesPreparing (name : List ℕ) (size : ℕ) (specs : List LeafSpec) (old : Content)
        (result : Result (PagedLeaves (Paged M g) v) (M × Unopened)) : Type 0 where
      pub there : KeepsDevice name old (g.content (machine_left result))
      pub left : device_at old.now name ≡ None → (blocks : List (List ℕ))
          → device_at (g.content (machine_left result)).now name ≡ Some blocks
          → (length blocks ≡ size) × ¬ HasMagic (length blocks) (get_or blocks 0 [])
      pub untouched : IfErr result (λ e. is_untouched e.1 ≡ true
          → device_at (g.content e.0).now name ≡ device_at old.now name)
      pub crash : Unattached old (g.content (machine_left result))
          ⊎ Prepares name size specs old (g.content (machine_left result))
      pub refused : IfErr result (λ e. UnmakesBy old (g.content e.0) e.1)

-- The magic is written where these maps were kept: a crash meanwhile leaves no database, or one
-- with them. After an Ok it is settled, each crash leaves it, and nothing is pending.
pub record Seals (schema equation : List ℕ) (specs : List LeafSpec) (maps : List LeafMap)
    (old new : Content) (result : Result (Unit {0}) Unopened) : Type 0 where
  pub settled : OnOk result (IsSettled schema equation specs maps new.now.blocks)
  pub each : OnOk result
      (EachImage (λ image. Reopens schema equation specs maps image.blocks) new.now)
  pub none_pending : OnOk result (NonePending new)
  pub images : LeavesOnly (IsNewImage schema equation specs maps old.now) old new

-- An empty database stands on a new device of that name, each crash leaves it, and nothing is
-- pending.
pub record IsMadeBy (name : List ℕ) (size : ℕ) (schema equation : List ℕ) (specs : List LeafSpec)
    (old new : Content) : Type 0 where
  pub is : OfBlocks name new (IsMadeOn size schema equation specs)
  pub each : EachImage
      (λ image. Reopens schema equation specs (replicate (length specs) empty) image.blocks) new.now
  pub none_pending : NonePending new
  pub makes : Makes name size schema equation specs old new

-- What making leaves of the device of that name, whatever the answer is; and what a refusal adds.
pub record LeavesMaking (name : List ℕ) (size : ℕ) (schema equation : List ℕ)
    (specs : List LeafSpec) (old new : Content) (result : Result (Unit {0}) Unopened) : Type 0 where
  pub there : KeepsDevice name old new
  pub left : device_at old.now name ≡ None → (blocks : List (List ℕ))
      → device_at new.now name ≡ Some blocks → IsNoneOrEmpty schema equation specs blocks
  pub begun : device_at old.now name ≡ None → (blocks : List (List ℕ))
      → device_at new.now name ≡ Some blocks → length blocks ≡ size
  pub untouched : IfErr result (λ why. is_untouched why ≡ true
      → device_at new.now name ≡ device_at old.now name)
  pub crash : Unattached old new ⊎ Makes name size schema equation specs old new
  pub refused : IfErr result (λ why. UnmakesBy old new why)
