-- How many blocks the bitmap has, and that it has a bit for each page.
use Rattle.std.proofs.Common.{◌≡◌, inl, inr, ℕ, ◌+◌, ◌/◌, ◌<◌, ◌≤◌, Bool, true, false, ap, arith}
use Rattle.std.specs.Prelude.{nat_le, if◌then◌else◌}
use Rattle.std.proofs.lemmas.Bool.{cases_lt}
use Rattle.std.proofs.lemmas.Bool.Decides.{nat_tests}
use Rattle.gx_layout.specs.declared.bitmap.TheConstants.{BITS}
use Rattle.gx_layout.specs.declared.places.TheConstants.{FIRST_MOST, MAX_BLOCKS}
use Rattle.gx_layout.specs.Places.{bitmap_blocks, most_pages, pages_of, IsBitmap}

-- in the first layout
pub one_bitmap : (size : ℕ) → size ≤ FIRST_MOST → bitmap_blocks size ≡ 1
unfolding bitmap_blocks
one_bitmap size few =
    let first : nat_le size FIRST_MOST ≡ true = grind (arith, nat_tests) in
    ap (λ (b : Bool). if b then 1 else 8) first

-- in the second layout
pub eight_bitmaps : (size : ℕ) → FIRST_MOST < size → bitmap_blocks size ≡ 8
unfolding bitmap_blocks
eight_bitmaps size many =
    let second : nat_le size FIRST_MOST ≡ false = grind (arith, nat_tests) in
    ap (λ (b : Bool). if b then 1 else 8) second

pub some_bitmap : (size : ℕ) → 1 ≤ bitmap_blocks size
some_bitmap size = elim (cases_lt FIRST_MOST size) [
  | inl many ↦ omega (arith, eight_bitmaps size many)
  | inr few ↦ omega (arith, one_bitmap size few)
]

pub few_bitmaps : (size : ℕ) → bitmap_blocks size ≤ 8
few_bitmaps size = elim (cases_lt FIRST_MOST size) [
  | inl many ↦ omega (arith, eight_bitmaps size many)
  | inr few ↦ omega (arith, one_bitmap size few)
]

-- no device has more pages than the bitmap has bits
pub pages_fit : (size : ℕ) → size ≤ MAX_BLOCKS → pages_of size ≤ most_pages size
pages_fit size most = elim (cases_lt FIRST_MOST size) [
  | inl many ↦ omega (arith, most, eight_bitmaps size many)
  | inr few ↦ omega (arith, few, one_bitmap size few)
]

-- the bit of each page stands on a block of the bitmap
pub bit_block : (size p pages : ℕ) → p < pages → pages ≤ most_pages size
    → IsBitmap size (2 + p / BITS)
bit_block size p pages below few = (omega arith, omega (arith, below, few))
