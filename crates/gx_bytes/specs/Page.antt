-- Pages of records behind a header of eight bytes.
use Rattle.std.specs.Prelude.{◌≡◌, ℕ, ◌+◌, ◌^◌, ◌<◌, List, ◌∷◌, ◌++◌, length, drop}
use Rattle.std.specs.Int.{w16, w32, to_be_bytes, from_be_bytes}
use Rattle.std.specs.List.{sum_by}
use Rattle.gx_bytes.specs.Records.{records, HoldsRecords}
use Rattle.gx_bytes.specs.declared.page.TheConstants.{PAGE_LEN}

-- a page begins with the byte of its kind, 0, the number of its records and a page number
abbrev pub header : ℕ → ℕ → ℕ → List ℕ
header kind count number = kind ∷ 0 ∷ (to_be_bytes w16 count ++ to_be_bytes w32 number)

-- the bytes are a page of this kind with these records, in their order, and this page number
pub record IsRecordPage {R : Type 0} (written : R → List ℕ) (Fits : R → Type 0) (kind : ℕ)
    (rs : List R) (number : ℕ) (bytes : List ℕ) : Type 0 where
  pub size : length bytes ≡ PAGE_LEN
  pub number_fits : number < 2 ^ 32
  pub body : List ℕ
  pub is : bytes ≡ header kind (length rs) number ++ body
  pub holds : HoldsRecords written Fits rs body

-- the number of records that a header tells
abbrev pub count_of : List ℕ → ℕ
count_of bytes = from_be_bytes w16 (drop 2 bytes)

-- the page number in a header
abbrev pub number_of : List ℕ → ℕ
number_of bytes = from_be_bytes w32 (drop 4 bytes)

-- the records of a page
abbrev pub records_of : {R : Type 0} → (R → List ℕ) → (List ℕ → R) → List ℕ → List R
records_of written first bytes = records written first (count_of bytes) (drop 8 bytes)

-- how many bytes of a page are taken up to the end of these records, of which `size` gives the
-- length
abbrev pub used : {R : Type 0} → (R → ℕ) → List R → ℕ
used size rs = 8 + sum_by size rs
