-- The shortest bytes tell the int, and are its only code.
use Rattle.std.proofs.Common.{◌≡◌, ℕ, zero, suc, ◌-◌, ◌≤◌, List, [], ◌∷◌, ◌++◌, length, cond, Bool, true, false, refl, sym, ap, ◌∙◌, arith, length-append}
use Rattle.std.specs.Prelude.{ℤ, nat_eq, nat_le}
use Rattle.std.specs.Int.{w64}
use Rattle.std.specs.Int.RustNames.{FitsSigned}
use Rattle.std.proofs.Math.ListN.{replicate}
use Rattle.std.proofs.lemmas.List.{length-replicate}
use Rattle.std.proofs.lemmas.Bool.Decides.{nat_tests}
use Rattle.gx_laws.proofs.NumberLemmas.{equal_from_nat_eq}
use Rattle.gx_values.proofs.IntLemmas.{same_int}
use Rattle.gx_encode.specs.Packs.{int_bytes, sign_of, extended, shortest, pack, IsPack}

-- ---- signs

equal : (a b : ℕ) → a ≡ b → nat_eq a b ≡ true
equal a b e = grind (arith, nat_tests)

-- a sign in front has the sign of what follows
sign_again : (bytes : List ℕ)
    → ◌≡◌ {A = ℕ} (cond (nat_le 128 (sign_of bytes)) 255 0) (sign_of bytes)
sign_again [] = grind (arith, nat_tests)
sign_again (b ∷ bytes) = by_test (nat_le 128 b)
  where
    by_test : (t : Bool) → ◌≡◌ {A = ℕ} (cond (nat_le 128 (cond t 255 0)) 255 0) (cond t 255 0)
    by_test true = grind (arith, nat_tests)
    by_test false = grind (arith, nat_tests)

sign_in_front : (b : ℕ) (bytes : List ℕ) → b ≡ sign_of bytes → sign_of (b ∷ bytes) ≡ sign_of bytes
sign_in_front b bytes is = ap (λ (c : ℕ). cond (nat_le 128 c) 255 0) is ∙ sign_again bytes

-- ---- shortest bytes

pub no_longer : (bytes : List ℕ) → length (shortest bytes) ≤ length bytes
no_longer [] = omega arith
no_longer (b ∷ bytes) = by_test (nat_eq b (sign_of bytes)) (no_longer bytes)
  where
    by_test : (t : Bool) → length (shortest bytes) ≤ length bytes
        → length (cond t (shortest bytes) (b ∷ bytes)) ≤ suc (length bytes)
    by_test true le = omega arith
    by_test false le = omega arith

same_sign : (bytes : List ℕ) → sign_of (shortest bytes) ≡ sign_of bytes
same_sign [] = refl
same_sign (b ∷ bytes) = by_test (nat_eq b (sign_of bytes)) refl (same_sign bytes)
  where
    by_test : (t : Bool) → t ≡ nat_eq b (sign_of bytes) → sign_of (shortest bytes) ≡ sign_of bytes
        → sign_of (cond t (shortest bytes) (b ∷ bytes)) ≡ sign_of (b ∷ bytes)
    by_test true is again =
        again ∙ sym (sign_in_front b bytes (equal_from_nat_eq b (sign_of bytes) (sym is)))
    by_test false is again = refl

extended_more : (n : ℕ) (bytes : List ℕ) → length bytes ≤ n
    → extended (suc n) bytes ≡ sign_of bytes ∷ extended n bytes
extended_more n bytes le =
    ap (λ (k : ℕ). replicate k (sign_of bytes) ++ bytes)
    (let more : suc n - length bytes ≡ suc (n - length bytes) = omega arith in more)

extended_whole : (bytes : List ℕ) → extended (length bytes) bytes ≡ bytes
extended_whole bytes =
    ap (λ (k : ℕ). replicate k (sign_of bytes) ++ bytes)
    (let none : length bytes - length bytes ≡ 0 = omega arith in none)

-- the shortest bytes are extended to the bytes
pub extended_shortest : (bytes : List ℕ) → extended (length bytes) (shortest bytes) ≡ bytes
extended_shortest [] = refl
extended_shortest (b ∷ bytes) = by_test (nat_eq b (sign_of bytes)) refl (extended_shortest bytes)
  where
    by_test : (t : Bool) → t ≡ nat_eq b (sign_of bytes)
        → extended (length bytes) (shortest bytes) ≡ bytes
        → extended (suc (length bytes)) (cond t (shortest bytes) (b ∷ bytes)) ≡ b ∷ bytes
    by_test true is again =
        let sign = same_sign bytes ∙ sym (equal_from_nat_eq b (sign_of bytes) (sym is)) in
        extended_more (length bytes) (shortest bytes) (no_longer bytes) ∙ (λ i. sign i ∷ again i)
    by_test false is again = extended_whole (b ∷ bytes)

-- whether no byte in front only repeats the sign
abbrev pub IsShortest : List ℕ → Type 0
IsShortest [] = Unit {0}
IsShortest (b ∷ bytes) = nat_eq b (sign_of bytes) ≡ false

pub shortest_is : (bytes : List ℕ) → IsShortest bytes → shortest bytes ≡ bytes
shortest_is [] is = refl
shortest_is (b ∷ bytes) is = ap (λ (t : Bool). cond t (shortest bytes) (b ∷ bytes)) is

pub is_shortest : (bytes : List ℕ) → IsShortest (shortest bytes)
is_shortest [] = tt
is_shortest (b ∷ bytes) = by_test (nat_eq b (sign_of bytes)) refl (is_shortest bytes)
  where
    by_test : (t : Bool) → t ≡ nat_eq b (sign_of bytes) → IsShortest (shortest bytes)
        → IsShortest (cond t (shortest bytes) (b ∷ bytes))
    by_test true is again = again
    by_test false is again = sym is

-- bytes and what they are extended to have the equal_from_nat_eq shortest bytes
front_sign : (k : ℕ) (bytes : List ℕ)
    → sign_of (replicate k (sign_of bytes) ++ bytes) ≡ sign_of bytes
front_sign zero bytes = refl
front_sign (suc k) bytes = sign_again bytes

pub shortest_extended : (k : ℕ) (bytes : List ℕ)
    → shortest (replicate k (sign_of bytes) ++ bytes) ≡ shortest bytes
shortest_extended zero bytes = refl
shortest_extended (suc k) bytes =
    ap (λ (t : Bool). cond t (shortest (replicate k (sign_of bytes) ++ bytes))
    (sign_of bytes ∷ (replicate k (sign_of bytes) ++ bytes)))
    (equal (sign_of bytes) (sign_of (replicate k (sign_of bytes) ++ bytes))
    (sym (front_sign k bytes)))
    ∙ shortest_extended k bytes

pub length_extended : (n : ℕ) (bytes : List ℕ) → length bytes ≤ n → length (extended n bytes) ≡ n
length_extended n bytes le =
    omega (
      arith,
      length-append (replicate (n - length bytes) (sign_of bytes)) bytes,
      length-replicate (n - length bytes) (sign_of bytes),
    )

-- ---- ints

pub pack_is : (n : ℤ) → IsPack n (pack n)
pack_is n = record {
  value = extended_shortest (int_bytes n);
  shortest = λ other le e. (
      let equal_from_nat_eq : shortest other ≡ pack n =
      sym (shortest_extended (8 - length other) other) ∙ ap shortest e in
      omega (arith, no_longer other, ap length equal_from_nat_eq)
      );
}

-- a code is that of one int
pub same_pack : (y z : ℤ) → FitsSigned w64 y → FitsSigned w64 z → pack y ≡ pack z → y ≡ z
same_pack y z f g e =
    same_int y z f g
    (sym (extended_shortest (int_bytes y)) ∙ ap (extended 8) e ∙ extended_shortest (int_bytes z))

-- and no longer than the int
pub short_pack : (n : ℤ) → length (pack n) ≤ 8
short_pack n = omega (arith, no_longer (int_bytes n))
