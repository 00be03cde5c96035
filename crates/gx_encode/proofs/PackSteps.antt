-- What is read of a code.
use Rattle.std.proofs.Common.{◌≡◌, ◌≢◌, ℕ, ◌-◌, ◌<◌, ◌≤◌, ◌^◌, List, [], ◌∷◌, ◌++◌, length, get_or, cond, zero, suc, Bool, true, false, sym, ap, subst, ◌∙◌, arith}
use Rattle.std.specs.Prelude.{ℤ, nat_le}
use Rattle.std.proofs.Math.ListN.{replicate}
use Rattle.std.specs.Int.{w64, from_be_bytes, cast_unsigned, cast_signed}
use Rattle.std.proofs.lemmas.Nat.{be_bytes_8}
use Rattle.std.proofs.Math.Facts.{of_z-to_z}
use Rattle.gx_encode.specs.Packs.{int_bytes, extended, shortest, pack, sign_of}
use Rattle.gx_encode.specs.PackLaws.{IsShortest, shortest_is, is_shortest, shortest_extended, length_extended, short_pack}

-- bytes that are shortest are the code of the int that they are extended to
pub packed : (bytes all : List ℕ) (n : ℤ) → length bytes ≤ 8 → IsShortest bytes
    → all ≡ extended 8 bytes → int_bytes n ≡ all → pack n ≡ bytes
packed bytes all n few is all_is value = ap shortest (value ∙ all_is)
    ∙ shortest_extended (8 - length bytes) bytes ∙ shortest_is bytes is

-- others are the code of no int
pub too_long : (bytes : List ℕ) (n : ℤ) → 8 < length bytes → pack n ≢ bytes
too_long bytes n long e = (let l = ap length e in omega (arith, l, long, short_pack n))

pub not_packed : (bytes : List ℕ) (n : ℤ) → (IsShortest bytes → ⊥) → pack n ≢ bytes
not_packed bytes n not e = not (subst IsShortest e (is_shortest (int_bytes n)))

sign_small : (bytes : List ℕ) → sign_of bytes < 256
sign_small [] = omega arith
sign_small (b ∷ bytes) = by_test (nat_le 128 b)
  where
    by_test : (t : Bool) → cond t 255 0 < 256
    by_test true = omega arith
    by_test false = omega arith

small_front : (k s : ℕ) (bytes : List ℕ) → s < 256 → ((i : ℕ) → get_or bytes i 0 < 256) → (i : ℕ)
    → get_or (replicate k s ++ bytes) i 0 < 256
small_front zero s bytes lt small i = small i
small_front (suc k) s bytes lt small zero = lt
small_front (suc k) s bytes lt small (suc i) = small_front k s bytes lt small i

-- the int that is read of the extended bytes
pub unpacked : (bytes all : List ℕ) (z : ℤ) (n : ℕ) → length bytes ≤ 8 → IsShortest bytes
    → all ≡ extended 8 bytes → ((i : ℕ) → get_or bytes i 0 < 256) → n < 2 ^ 64
    → n ≡ from_be_bytes w64 all → z ≡ cast_signed w64 n → pack z ≡ bytes
unpacked bytes all z n few is all_is small low gives casts =
    let eight : length all ≡ 8 = ap length all_is ∙ length_extended 8 bytes few in
    let back : cast_unsigned w64 z ≡ n = ap (cast_unsigned w64) casts
    ∙ of_z-to_z {w = w64} (record { fits = low }) in
    let bytes_small : (i : ℕ) → get_or all i 0 < 256 =
    λ i. subst (λ (l : List ℕ). get_or l i 0 < 256) (sym all_is)
    (small_front (8 - length bytes) (sign_of bytes) bytes (sign_small bytes) small i) in
    packed bytes all z few is all_is
    (be_bytes_8 all (cast_unsigned w64 z) eight bytes_small (back ∙ gives))
