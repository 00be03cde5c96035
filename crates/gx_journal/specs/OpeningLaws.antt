-- A device that has a layout has room for what stands before the pages.
use Rattle.std.proofs.Common.{inl, inr, ℕ, ◌≤◌, arith}
use Rattle.std.proofs.lemmas.Bool.{cases_lt}
use Rattle.gx_layout.specs.declared.places.TheConstants.{FIRST_MOST}
use Rattle.gx_layout.specs.Places.{head_blocks}
use Rattle.gx_layout.specs.PlaceLaws.{one_bitmap, few_bitmaps}
use Rattle.gx_journal.specs.Opening.{IsDeviceSize}

pub has_head : (size : ℕ) → IsDeviceSize size → head_blocks size ≤ size
has_head size is = elim (cases_lt FIRST_MOST size) [
  | inl many ↦ omega (arith, many, few_bitmaps size)
  | inr few ↦ omega (arith, is.least, one_bitmap size few)
]
