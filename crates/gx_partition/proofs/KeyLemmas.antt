-- The bytes of a key beside other bytes.
use Rattle.std.proofs.Common.{◌≡◌, ℕ, zero, suc, ◌^◌, ◌<◌, ◌≤◌, List, [], ◌∷◌, ◌++◌, length, take, drop, refl, sym, ap, ◌∙◌, arith, append-nil}
use Rattle.std.specs.Prelude.{min}
use Rattle.std.specs.Int.{w64, to_be_bytes}
use Rattle.std.specs.Ordering.{nat_cmp, ordering_then}
use Rattle.std.specs.declared.cmp.Ordering.{Ordering}
use Rattle.std.specs.declared.cmp.Ordering.TheVariants.{Less, Equal, Greater}
use Rattle.std.specs.Cmp.Lexicographic.{slice_cmp}
use Rattle.gx_laws.proofs.OrderingLemmas.{cmp_less}
use Rattle.gx_order.proofs.OrderLemmas.{bytes_order, front_order}

then_then : (a b c : Ordering)
    → ordering_then a (ordering_then b c) ≡ ordering_then (ordering_then a b) c
then_then Less b c = refl
then_then Equal b c = refl
then_then Greater b c = refl

-- two lists are compared with a third one after the other
pub joined_cmp : (a b c : List ℕ) → slice_cmp nat_cmp (a ++ b) c
    ≡ ordering_then (slice_cmp nat_cmp a (take (length a) c))
    (slice_cmp nat_cmp b (drop (length a) c))
joined_cmp [] b c = refl
joined_cmp (x ∷ a) b [] = refl
joined_cmp (x ∷ a) b (y ∷ c) = ap (ordering_then (nat_cmp x y)) (joined_cmp a b c)
    ∙ then_then (nat_cmp x y) (slice_cmp nat_cmp a (take (length a) c))
    (slice_cmp nat_cmp b (drop (length a) c))

-- the front of a list that is no longer than the first part
pub front_of_first : (n : ℕ) (a b : List ℕ) → n ≤ length a → take n (a ++ b) ≡ take n a
front_of_first zero a b le = refl
front_of_first (suc n) [] b le = absurd (omega arith)
front_of_first (suc n) (x ∷ a) b le = ap (λ xs. x ∷ xs) (front_of_first n a b (omega arith))

pub front_of_all : (n : ℕ) (a : List ℕ) → length a ≤ n → take n a ≡ a
front_of_all zero [] le = refl
front_of_all zero (x ∷ a) le = absurd (omega arith)
front_of_all (suc n) [] le = refl
front_of_all (suc n) (x ∷ a) le = ap (λ xs. x ∷ xs) (front_of_all n a (omega arith))

-- no more items are there than all
pub least_take : (n m : ℕ) (xs : List ℕ) → n ≡ min m (length xs) → take n xs ≡ take m xs
least_take zero zero xs e = refl
least_take (suc n) zero xs e = absurd (omega (arith, e))
least_take zero (suc m) [] e = refl
least_take (suc n) (suc m) [] e = absurd (omega (arith, e))
least_take zero (suc m) (x ∷ xs) e = absurd (omega (arith, e))
least_take (suc n) (suc m) (x ∷ xs) e = ap (λ ys. x ∷ ys) (least_take n m xs (omega (arith, e)))

least_drop : (n m : ℕ) (xs : List ℕ) → n ≡ min m (length xs) → drop n xs ≡ drop m xs
least_drop zero zero xs e = refl
least_drop (suc n) zero xs e = absurd (omega (arith, e))
least_drop zero (suc m) [] e = refl
least_drop (suc n) (suc m) [] e = absurd (omega (arith, e))
least_drop zero (suc m) (x ∷ xs) e = absurd (omega (arith, e))
least_drop (suc n) (suc m) (x ∷ xs) e = least_drop n m xs (omega (arith, e))

-- a text and the 0 behind it, one after the other
pub text_cmp : (text bytes : List ℕ) (n : ℕ) → n ≡ min (length text) (length bytes)
    → ordering_then (slice_cmp nat_cmp text (take n bytes))
    (slice_cmp nat_cmp (0 ∷ []) (drop n bytes)) ≡ slice_cmp nat_cmp (text ++ 0 ∷ []) bytes
text_cmp text bytes n least =
    (λ i. ordering_then (slice_cmp nat_cmp text (least_take n (length text) bytes least i))
    (slice_cmp nat_cmp (0 ∷ []) (least_drop n (length text) bytes least i)))
    ∙ sym (joined_cmp text (0 ∷ []) bytes)

pub first_counts : (o p : Ordering) → (o ≡ Equal → ⊥) → o ≡ ordering_then o p
first_counts Less p other = refl
first_counts Equal p other = absurd (other refl)
first_counts Greater p other = refl

no_bytes : (rest : List ℕ) → slice_cmp nat_cmp [] rest ≡ nat_cmp 0 (length rest)
no_bytes [] = refl
no_bytes (x ∷ rest) = sym (cmp_less 0 (length (x ∷ rest)) (omega arith))

-- a number is compared with the one that the bytes begin with, and then nothing with the others
pub number_cmp : (n m : ℕ) (bytes rest : List ℕ) → n < 2 ^ 64 → m < 2 ^ 64
    → bytes ≡ to_be_bytes w64 m ++ rest
    → ordering_then (nat_cmp n m) (nat_cmp 0 (length rest))
    ≡ slice_cmp nat_cmp (to_be_bytes w64 n) bytes
number_cmp n m bytes rest small below is =
    sym (ap (slice_cmp nat_cmp (to_be_bytes w64 n)) is
    ∙ ap (λ (l : List ℕ). slice_cmp nat_cmp l (to_be_bytes w64 m ++ rest))
    (sym (append-nil (to_be_bytes w64 n)))
    ∙ front_order (to_be_bytes w64 n) (to_be_bytes w64 m) [] rest refl
    ∙ (λ i. ordering_then (bytes_order n m small below i) (no_bytes rest i)))
