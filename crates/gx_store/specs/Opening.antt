-- Why a device isn't opened, and what one that is has.
use Rattle.std.specs.Prelude.{◌≡◌, ℕ, Bool, true, false, List, [], length, get_or, slice_index_or, Some, None}
use Rattle.gx_device.specs.Content.{Content, device_at}
use Rattle.gx_ports.specs.declared.kinds.LeafSpec.{LeafSpec}
use Rattle.gx_layout.specs.Layout.{head_of, pages_of}
use Rattle.gx_layout.specs.Recovered.{IsOfRecovery}
use Rattle.gx_layout.specs.Head.{HasMagic, DifferFirst, text_at, text_area}
use Rattle.gx_store.specs.Device.{IsSize, HasTexts}
use Rattle.gx_store.specs.Store.{OfBlocks}
use Rattle.gx_store.specs.declared.unopened.Unopened.{Unopened}
use Rattle.gx_store.specs.declared.unopened.Unopened.TheVariants as unopened

-- the blocks have the magic and these texts, and there is room
pub record AreOpened (schema equation : List ℕ) (specs : List LeafSpec)
    (blocks : List (List ℕ)) : Type 0 where
  pub size : IsSize specs (length blocks)
  pub magic : HasMagic (length blocks) (get_or blocks 0 [])
  pub texts : HasTexts schema equation blocks

-- the blocks have the size of a database with such leaves, and the magic
pub record HaveDatabase (specs : List LeafSpec) (blocks : List (List ℕ)) : Type 0 where
  pub size : IsSize specs (length blocks)
  pub magic : HasMagic (length blocks) (get_or blocks 0 [])

-- Why such blocks aren't opened. The place is the first one at which the bytes of the text blocks
-- are others.
abbrev pub AreUnopened : List ℕ → List ℕ → List LeafSpec → List (List ℕ) → Unopened → Type 0
AreUnopened schema equation specs blocks unopened.Size = ¬ IsSize specs (length blocks)
AreUnopened schema equation specs blocks unopened.NoDatabase =
    IsSize specs (length blocks) × ¬ HasMagic (length blocks) (get_or blocks 0 [])
AreUnopened schema equation specs blocks (unopened.OtherTexts place) =
    IsSize specs (length blocks) × HasMagic (length blocks) (get_or blocks 0 [])
    × DifferFirst (text_at (head_of blocks)) (λ q. slice_index_or (text_area schema equation) q 0)
    (Some place)
AreUnopened schema equation specs blocks unopened.Fault = Unit {0}
AreUnopened schema equation specs blocks unopened.NoMemory = Unit {0}
AreUnopened schema equation specs blocks why = ⊥

-- Why a journal with this head isn't opened.
abbrev pub AreUnread : List ℕ → List ℕ → List (List ℕ) → Unopened → Type 0
AreUnread schema equation head (unopened.OtherTexts place) =
    DifferFirst (text_at head) (λ q. slice_index_or (text_area schema equation) q 0) (Some place)
AreUnread schema equation head unopened.Fault = Unit {0}
AreUnread schema equation head unopened.NoMemory = Unit {0}
AreUnread schema equation head why = ⊥

-- Why the device of that name isn't opened.
abbrev pub IsUnopened : List ℕ → List ℕ → List ℕ → List LeafSpec → Content → Unopened → Type 0
IsUnopened name schema equation specs before unopened.Missing = device_at before.now name ≡ None
IsUnopened name schema equation specs before unopened.Fault = Unit {0}
IsUnopened name schema equation specs before unopened.NoMemory = Unit {0}
IsUnopened name schema equation specs before why =
    OfBlocks name before (λ blocks. AreUnopened schema equation specs blocks why)

-- no block was written but those that recovery writes: where the gate was open, the gate and the
-- homes of the pages that the bitmap names
pub record IsRecoveryOf (old new : List (List ℕ)) : Type 0 where
  pub count : length new ≡ length old
  pub others : (n : ℕ) → ¬ IsOfRecovery (pages_of (length old)) old n
      → get_or new n [] ≡ get_or old n []

-- whether no block of the device was written before it was refused
abbrev pub is_untouched : Unopened → Bool
is_untouched unopened.Missing = true
is_untouched unopened.Exists = true
is_untouched unopened.Size = true
is_untouched unopened.NoDatabase = true
is_untouched why = false
