-- Records of various lengths, one after another. `written` gives how a record stands in bytes,
-- `first` reads the one that bytes begin with, and `Fits` tells which records may stand there.
use Rattle.std.specs.Prelude.{◌≡◌, ◌≢◌, ℕ, zero, suc, List, [], ◌∷◌, ◌++◌, length, drop, Option, MatchOption}
use Rattle.std.specs.Borrow.{Bor}
use Rattle.std.specs.Cmp.Lexicographic.{slice_cmp}
use Rattle.std.specs.List.{All, AllPairs, flat_map}
use Rattle.std.specs.Ordering.{nat_cmp}
use Rattle.std.specs.declared.cmp.Ordering.TheVariants.{Less}

-- the first n records of bytes
abbrev pub records : {R : Type 0} → (R → List ℕ) → (List ℕ → R) → ℕ → List ℕ → List R
records written first zero bytes = []
records written first (suc n) bytes =
    first bytes ∷ records written first n (drop (length (written (first bytes))) bytes)

-- the bytes begin with these records, in their order, and each may stand there; what stands behind
-- them is free
pub record HoldsRecords {R : Type 0} (written : R → List ℕ) (Fits : R → Type 0) (rs : List R)
    (bytes : List ℕ) : Type 0 where
  pub fit : All Fits rs
  pub rest : List ℕ
  pub is : bytes ≡ flat_map written rs ++ rest

-- the bytes begin with n records
pub record HoldsRecordCount {R : Type 0} (written : R → List ℕ) (Fits : R → Type 0) (n : ℕ)
    (bytes : List ℕ) : Type 0 where
  pub held : List R
  pub count : length held ≡ n
  pub holds : HoldsRecords written Fits held bytes

-- the bytes begin with n records, and the key of each stands before those of the records behind it
pub record HoldsAscendingRecords {R : Type 0} (written : R → List ℕ) (Fits : R → Type 0)
    (key_of : R → List ℕ) (n : ℕ) (bytes : List ℕ) : Type 0 where
  pub held : List R
  pub count : length held ≡ n
  pub holds : HoldsRecords written Fits held bytes
  pub ascending : AllPairs (λ r s. slice_cmp nat_cmp (key_of r) (key_of s) ≡ Less) held

-- the record that bytes begin with, as it is lent, and the bytes behind it; None where they begin
-- with no record
abbrev pub SplitsRecord : {R A : Type 0} → (R → List ℕ) → (R → Type 0) → (A → R) → List ℕ
    → Option (A × Bor (List ℕ)) → Type 0
SplitsRecord {R} written Fits lent bytes result = MatchOption result
    ((r : R) (rest : List ℕ) → Fits r → bytes ≢ written r ++ rest)
    (λ found. Fits (lent found.0) × (bytes ≡ written (lent found.0) ++ found.1.now))
