-- Keys in the order of their bytes, and bounds of keys.
use Rattle.std.specs.Prelude.{◌≡◌, ℕ, Bool, List, Option, IfSome, IsSomeAnd, IsTrue}
use Rattle.std.specs.Cmp.Lexicographic.{slice_cmp}
use Rattle.std.specs.Ordering.{nat_cmp, is_lt, is_le}
use Rattle.std.specs.declared.cmp.Ordering.TheVariants.{Less}

-- a stands before b
abbrev pub IsBelow : List ℕ → List ℕ → Type 0
IsBelow a b = slice_cmp nat_cmp a b ≡ Less

-- a stands before b or is b
abbrev pub IsUpTo : List ℕ → List ℕ → Type 0
IsUpTo a b = IsTrue (is_le (slice_cmp nat_cmp a b))

abbrev pub is_below : List ℕ → List ℕ → Bool
is_below a b = is_lt (slice_cmp nat_cmp a b)

-- a key stands before a bound, where there is one
abbrev pub IsUnder : List ℕ → Option (List ℕ) → Type 0
IsUnder key bound = IfSome bound (λ b. IsBelow key b)

-- there is a bound, and it is the key or stands before it
abbrev pub IsOver : List ℕ → Option (List ℕ) → Type 0
IsOver key bound = IsSomeAnd bound (λ b. IsUpTo b key)
