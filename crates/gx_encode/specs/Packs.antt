-- The code of an int: its shortest two's complement bytes.
use Rattle.std.specs.Prelude.{◌≡◌, ◌≢◌, ℕ, ◌-◌, ◌≤◌, ℤ, Option, Some, None, List, [], ◌∷◌, ◌++◌, length, nat_le, ◌==◌, if◌then◌else◌}
use Rattle.std.proofs.Math.ListN.{replicate}
use Rattle.std.specs.Int.{w64, to_be_bytes, cast_unsigned}
use Rattle.std.specs.Int.RustNames.{FitsSigned}

-- the 8 bytes of an int, two's complement and big endian
abbrev pub int_bytes : ℤ → List ℕ
int_bytes n = to_be_bytes w64 (cast_unsigned w64 n)

-- the byte that may be put in front without a change of the number: 255 for a negative one,
-- otherwise 0
abbrev pub sign_of : List ℕ → ℕ
sign_of [] = 0
sign_of (b ∷ bytes) = if nat_le 128 b then 255 else 0

-- with so many bytes in all, the sign in front
abbrev pub extended : ℕ → List ℕ → List ℕ
extended n bytes = replicate (n - length bytes) (sign_of bytes) ++ bytes

-- without the bytes in front that only repeat the sign of what follows
abbrev pub shortest : List ℕ → List ℕ
shortest [] = []
shortest (b ∷ bytes) = if b == sign_of bytes then shortest bytes else b ∷ bytes

abbrev pub pack : ℤ → List ℕ
pack n = shortest (int_bytes n)

-- the bytes are extended to those of the int, and no fewer bytes are
pub record IsPack (n : ℤ) (bytes : List ℕ) : Type 0 where
  pub value : extended 8 bytes ≡ int_bytes n
  pub shortest : (other : List ℕ) → length other ≤ 8 → extended 8 other ≡ int_bytes n
      → length bytes ≤ length other

-- the int whose code these bytes are, or they are the code of none
abbrev pub IsUnpacked : List ℕ → Option ℤ → Type 0
IsUnpacked bytes (Some n) = pack n ≡ bytes
IsUnpacked bytes None = (n : ℤ) → FitsSigned w64 n → pack n ≢ bytes
