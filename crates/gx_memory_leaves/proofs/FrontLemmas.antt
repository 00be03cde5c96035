-- The first bytes of keys decide their order where they differ.
use Rattle.std.proofs.Common.{◌≡◌, ◌≢◌, true, ℕ, zero, suc, ◌<◌, ◌≤◌, List, [], ◌∷◌, ◌++◌, length, take, drop, refl, sym, ap, ◌∙◌, arith, take_at, length-take}
use Rattle.std.specs.Prelude.{replicate}
use Rattle.std.specs.Ordering.{nat_cmp, is_ne, ordering_then}
use Rattle.std.specs.declared.cmp.Ordering.{Ordering}
use Rattle.std.specs.declared.cmp.Ordering.TheVariants.{Less, Equal, Greater}
use Rattle.std.specs.Cmp.{ranked}
use Rattle.std.specs.Cmp.Lexicographic.{slice_cmp}
use Rattle.gx_memory_leaves.specs.Fronts.{padded}

module _ (o : Ordering) (other : o ≢ Equal) where
  none_less : (b : List ℕ) → slice_cmp nat_cmp [] b ≡ o → Less ≡ o
  none_less [] e = absurd (other (sym e))
  none_less (y ∷ b) e = e

  none_greater : (a : List ℕ) → slice_cmp nat_cmp a [] ≡ o → Greater ≡ o
  none_greater [] e = absurd (other (sym e))
  none_greater (x ∷ a) e = e

  pub decided : (n : ℕ) (a b : List ℕ) → slice_cmp nat_cmp (padded n a) (padded n b) ≡ o
      → slice_cmp nat_cmp a b ≡ o
  decided zero a b e = absurd (other (sym e))
  decided (suc n) [] [] e = decided n [] [] e
  decided (suc n) [] (y ∷ b) e =
      elim (nat_cmp 0 y) as (λ r. r ≡ nat_cmp 0 y
      → ordering_then r (slice_cmp nat_cmp (padded n []) (padded n b)) ≡ o → Less ≡ o) [
        | Less ↦ λ _ h. h
        | Equal ↦ λ _ h. none_less b (decided n [] b h)
        | Greater ↦ λ r _. let below : y < 0 = ranked 0 y Greater r in absurd (omega arith)
      ] refl e
  decided (suc n) (x ∷ a) [] e =
      elim (nat_cmp x 0) as (λ r. r ≡ nat_cmp x 0
      → ordering_then r (slice_cmp nat_cmp (padded n a) (padded n [])) ≡ o → Greater ≡ o) [
        | Less ↦ λ r _. let below : x < 0 = ranked x 0 Less r in absurd (omega arith)
        | Equal ↦ λ _ h. none_greater a (decided n a [] h)
        | Greater ↦ λ _ h. h
      ] refl e
  decided (suc n) (x ∷ a) (y ∷ b) e =
      elim (nat_cmp x y) as (λ r. ordering_then r (slice_cmp nat_cmp (padded n a) (padded n b)) ≡ o
      → ordering_then r (slice_cmp nat_cmp a b) ≡ o) [
        | Less ↦ λ h. h
        | Equal ↦ λ h. decided n a b h
        | Greater ↦ λ h. h
      ] e

unequal : (o : Ordering) → is_ne o ≡ true → o ≢ Equal
unequal Less ne e = cc
unequal Equal ne e = cc
unequal Greater ne e = cc

-- fronts that aren't the same are in the order of their keys
pub by_fronts : (a b : List ℕ) (o : Ordering) → o ≡ slice_cmp nat_cmp (padded 8 a) (padded 8 b)
    → is_ne o ≡ true → o ≡ slice_cmp nat_cmp a b
by_fronts a b o is ne = sym (decided o (unequal o ne) 8 a b (sym is))

-- bytes written to the start of zeros
pub filled : (n : ℕ) (xs : List ℕ) → length xs ≤ n
    → xs ++ drop (length xs) (replicate n 0) ≡ padded n xs
filled zero [] le = refl
filled zero (x ∷ xs) le = absurd (omega (arith, le))
filled (suc n) [] le = ap (λ (ys : List ℕ). 0 ∷ ys) (filled n [] (omega arith))
filled (suc n) (x ∷ xs) le = ap (λ (ys : List ℕ). x ∷ ys) (filled n xs (omega (arith, le)))

-- the bytes that were copied are those of a short value, and zeros are behind them
pub is_short : (room len : ℕ) (bytes copied : List ℕ) → length bytes ≤ room → len ≡ length bytes
    → copied ≡ bytes
    → (len ≤ room) × (copied ++ drop (length bytes) (replicate room 0) ≡ padded room
    (take len (copied ++ drop (length bytes) (replicate room 0))))
is_short room len bytes copied le same copy =
    let all : copied ++ drop (length bytes) (replicate room 0) ≡ padded room bytes =
    ap (λ (xs : List ℕ). xs ++ drop (length bytes) (replicate room 0)) copy
    ∙ filled room bytes le in
    let taken : take len (copied ++ drop (length bytes) (replicate room 0)) ≡ bytes =
    (λ i. take (same i) (copy i ++ drop (length bytes) (replicate room 0)))
    ∙ take_at bytes _ _ refl in
    (omega (arith, le, same), all ∙ ap (padded room) (sym taken))

-- zeros behind a key are those behind its front
padded_twice : (n room : ℕ) (xs : List ℕ) → length xs ≤ room
    → padded n (padded room xs) ≡ padded n xs
padded_twice zero room xs le = refl
padded_twice (suc n) zero [] le = refl
padded_twice (suc n) zero (x ∷ xs) le = absurd (omega (arith, le))
padded_twice (suc n) (suc room) [] le =
    ap (λ (ys : List ℕ). 0 ∷ ys) (padded_twice n room [] (omega arith))
padded_twice (suc n) (suc room) (x ∷ xs) le =
    ap (λ (ys : List ℕ). x ∷ ys) (padded_twice n room xs (omega (arith, le)))

pub short_front : (room len : ℕ) (bytes shown : List ℕ) → len ≤ room
    → bytes ≡ padded room (take len bytes) → take len bytes ≡ shown
    → padded 8 bytes ≡ padded 8 shown
short_front room len bytes shown le is view =
    ap (padded 8) is ∙ padded_twice 8 room (take len bytes)
    (omega (arith, le, length-take len bytes)) ∙ ap (padded 8) view
