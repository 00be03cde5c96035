-- Where the blocks of a device stand, by how many there are. In the first layout the bitmap has one
-- block, in the second, which larger devices have, eight. All places follow from that number.
use Rattle.std.specs.Prelude.{◌≡◌, ◌⊎◌, ◌<◌, ◌≤◌, ◌+◌, ◌*◌, ◌-◌, ◌/◌, nat_le, if◌then◌else◌, ℕ, List, codes}
use Rattle.gx_layout.specs.declared.bitmap.TheConstants.{BITS}
use Rattle.gx_layout.specs.declared.places.TheConstants.{FIRST_MOST, TEXT_BLOCKS, TABLES}

-- the layout of a device of so many blocks
abbrev pub layout_of : ℕ → ℕ
layout_of size = if nat_le size FIRST_MOST then 1 else 2

-- the blocks of the bitmap
unfoldable pub bitmap_blocks : ℕ → ℕ
bitmap_blocks size = if nat_le size FIRST_MOST then 1 else 8

-- the first of the text blocks: those of the magic, the gate and the bitmap stand before it
abbrev pub first_text : ℕ → ℕ
first_text size = 2 + bitmap_blocks size

-- the blocks before the pages
abbrev pub head_blocks : ℕ → ℕ
head_blocks size = first_text size + TEXT_BLOCKS

-- the number of pages: each has a slot and a home
abbrev pub pages_of : ℕ → ℕ
pages_of size = (size - head_blocks size) / 2

-- as many as the bitmap has bits
abbrev pub most_pages : ℕ → ℕ
most_pages size = BITS * bitmap_blocks size

-- the pages of the table of owners
abbrev pub table_pages : ℕ → ℕ
table_pages size = TABLES * bitmap_blocks size

-- the bytes that the first block of a database begins with
abbrev pub magic_of : ℕ → List ℕ
magic_of size = if nat_le size FIRST_MOST then codes "GENESIS1" else codes "GENESIS2"

-- the slot of page p, and its home where there are P pages
abbrev pub slot : ℕ → ℕ → ℕ
slot size p = head_blocks size + p

abbrev pub home : ℕ → ℕ → ℕ → ℕ
home size P p = head_blocks size + P + p

-- a block of the head: that of the magic, or a text block
abbrev pub IsHead : ℕ → ℕ → Type 0
IsHead size n = (n ≡ 0) ⊎ ((first_text size ≤ n) × (n < head_blocks size))

-- a block of the bitmap
abbrev pub IsBitmap : ℕ → ℕ → Type 0
IsBitmap size n = (2 ≤ n) × (n < first_text size)
