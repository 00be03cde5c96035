-- The spans of the values that meet a condition.
use Rattle.std.specs.Prelude.{◌≡◌, ℕ, ◌-◌, ◌^◌, ◌<◌, pos, negsuc, Bool, List, [], ◌++◌, length, take, IsTrue}
use Rattle.std.specs.List.{list_all}
use Rattle.std.specs.Int.{w64}
use Rattle.std.specs.Int.RustNames.{FitsSigned}
use Rattle.std.specs.Ordering.{nat_cmp, is_le}
use Rattle.std.specs.declared.cmp.Ordering.{Ordering}
use Rattle.std.specs.Cmp.Lexicographic.{slice_cmp}
use Rattle.gx_values.specs.declared.bytes.TheConstants.{MAX_KEY_LEN}
use Rattle.gx_values.specs.declared.values.Kind.{Kind}
use Rattle.gx_values.specs.declared.values.Kind.TheVariants as kind
use Rattle.gx_values.specs.declared.values.Value.{Value}
use Rattle.gx_values.specs.declared.values.Value.TheVariants as value
use Rattle.gx_values.specs.declared.values.Op.{Op}
use Rattle.gx_values.specs.declared.values.Op.TheVariants as op
use Rattle.gx_values.specs.declared.keys.Span.{Span}
use Rattle.gx_values.specs.Values.{value_cmp, is_met, is_printable, Fits}
use Rattle.gx_values.specs.Keys.{bytes_of, is_inside}

-- ints, and texts whose key bytes and one more make a key
abbrev pub IsSpanKind : Kind → Type 0
IsSpanKind kind.Int = Unit {0}
IsSpanKind (kind.Text most) = most < MAX_KEY_LEN
IsSpanKind (kind.Bytes most) = ⊥

-- a key that begins with a value of the kind is inside exactly where the value meets the condition
abbrev pub HoldsThoseMet : Kind → Op → Value → Span → Type 0
HoldsThoseMet kind op bound span = (v : Value) (rest : List ℕ) → Fits kind v
    → is_inside span.lo span.hi (bytes_of v ++ rest) ≡ is_met op (value_cmp v bound)

-- no key bytes of a value of the kind are a proper prefix of an end of the span
pub record IsValueSpan (kind : Kind) (span : Span) : Type 0 where
  pub lo_whole : (v : Value) (rest : List ℕ) → Fits kind v → span.lo ≡ bytes_of v ++ rest
      → rest ≡ []
  pub hi_whole : (v : Value) (rest : List ℕ) → Fits kind v → span.hi ≡ bytes_of v ++ rest
      → rest ≡ []

-- below the least int, above the greatest int, or below the empty text
abbrev pub IsBeyond : Op → Value → Type 0
IsBeyond op.Less (value.Int n) = n ≡ negsuc (2 ^ 63 - 1)
IsBeyond op.Greater (value.Int n) = n ≡ pos (2 ^ 63 - 1)
IsBeyond op.Less (value.Text text) = text ≡ []
IsBeyond _ _ = ⊥

-- ---- the two ends

-- a value of a kind that spans can be of
abbrev pub IsSpanBound : Value → Type 0
IsSpanBound (value.Int n) = FitsSigned w64 n
IsSpanBound (value.Text text) = (length text < MAX_KEY_LEN) × IsTrue (list_all is_printable text)
IsSpanBound (value.Bytes bytes) = ⊥

-- at or above the lower end are the values that compare so with the bound
pub record IsLow (kind : Kind) (meets : Ordering → Bool) (bound : Value)
    (lo : List ℕ) : Type 0 where
  pub whole : (v : Value) (rest : List ℕ) → Fits kind v → lo ≡ bytes_of v ++ rest → rest ≡ []
  pub decides : (v : Value) (rest : List ℕ) → Fits kind v
      → is_le (slice_cmp nat_cmp lo (bytes_of v ++ rest)) ≡ meets (value_cmp v bound)

-- at or below the upper end are those
pub record IsHigh (kind : Kind) (meets : Ordering → Bool) (bound : Value)
    (hi : List ℕ) : Type 0 where
  pub whole : (v : Value) (rest : List ℕ) → Fits kind v → hi ≡ bytes_of v ++ rest → rest ≡ []
  pub decides : (v : Value) (rest : List ℕ) → Fits kind v
      → is_le (slice_cmp nat_cmp (take (length hi) (bytes_of v ++ rest)) hi)
      ≡ meets (value_cmp v bound)
