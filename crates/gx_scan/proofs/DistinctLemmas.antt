-- Lists that have each of their items once.
use Rattle.std.proofs.Common.{[], ◌≡◌, ℕ, zero, suc, ◌<◌, ◌≤◌, List, ◌∷◌, ◌++◌, ◌⊎◌, length, Bool, true, false, cond, inl, inr, refl, sym, ap, subst, arith, length-append}
use Rattle.std.specs.Prelude.{filter}
use Rattle.std.specs.List.Sorted.{IsPermutation}
use Rattle.std.proofs.lemmas.List.Sorted.{IsPermutation-refl, IsPermutation-sym, IsPermutation-trans, IsPermutation-cons, IsPermutation-middle}
use Rattle.gx_laws.proofs.NumberLemmas.{nat_cases}
use Rattle.gx_mapping.specs.Rule.{In}
use Rattle.gx_gather.proofs.Lists.{in_left, in_right, in_cases, in_filter, in_or_not}

abbrev pub AreDistinct : {A : Type 0} → List A → Type 0
AreDistinct [] = Unit {0}
AreDistinct (x ∷ xs) = (In x xs → ⊥) × AreDistinct xs

pub record IsSplit {A : Type 0} (x : A) (ys : List A) : Type 0 where
  pub front : List A
  pub back : List A
  pub is : ys ≡ front ++ x ∷ back

split : {A : Type 0} (x : A) (ys : List A) → In x ys → IsSplit x ys
split x [] h = absurd h
split {A} x (y ∷ ys) (inl e) = record { front = []; back = ys; is = ap (λ (z : A). z ∷ ys) (sym e) }
split {A} x (y ∷ ys) (inr h) = let s = split x ys h in
    record { front = y ∷ s.front; back = s.back; is = ap (λ (l : List A). y ∷ l) s.is }

around : {A : Type 0} (x z : A) (us vs : List A) → In z (us ++ vs) → In z (us ++ x ∷ vs)
around x z us vs h = elim (in_cases z us vs h)
    [ inl a ↦ in_left z us (x ∷ vs) a | inr b ↦ in_right z us (x ∷ vs) (inr b) ]

beside : {A : Type 0} (x z : A) (us vs : List A) → In z (us ++ x ∷ vs) → (z ≡ x) ⊎ In z (us ++ vs)
beside x z us vs h = elim (in_cases z us (x ∷ vs) h) [
  | inl a ↦ inr (in_left z us vs a)
  | inr b ↦ elim b [ inl e ↦ inl e | inr c ↦ inr (in_right z us vs c) ]
]

apart : {A : Type 0} (x : A) (us vs : List A) → AreDistinct (us ++ x ∷ vs)
    → (In x (us ++ vs) → ⊥) × AreDistinct (us ++ vs)
apart x [] vs d = d
apart {A} x (u ∷ us) vs d =
    let rest = apart x us vs d.1 in (
      λ h. elim h [
        | inl e ↦ d.0 (subst (λ (z : A). In z (us ++ x ∷ vs)) e (in_right x us (x ∷ vs) (inl refl)))
        | inr k ↦ rest.0 k
      ],
      (λ h. d.0 (around x u us vs h), rest.1),
    )

pub same_items : {A : Type 0} (xs ys : List A) → AreDistinct xs → AreDistinct ys
    → ((z : A) → In z xs → In z ys) → ((z : A) → In z ys → In z xs) → IsPermutation xs ys
same_items [] [] a b f g = IsPermutation-refl []
same_items [] (y ∷ ys) a b f g = absurd (g y (inl refl))
same_items {A} (x ∷ xs) ys a b f g =
    let s = split x ys (f x (inl refl)) in
    let both = s.front ++ s.back in
    let d = apart x s.front s.back (subst AreDistinct s.is b) in
    let there : (z : A) → In z xs
    → In z both = λ z h. elim (beside x z s.front s.back (subst (In z) s.is (f z (inr h)))) [
      | inl e ↦ absurd (a.0 (subst (λ (q : A). In q xs) e h))
      | inr k ↦ k
    ] in
    let back : (z : A) → In z both
    → In z xs = λ z h. elim (g z (subst (In z) (sym s.is) (around x z s.front s.back h))) [
      | inl e ↦ absurd (d.0 (subst (λ (q : A). In q both) e h))
      | inr k ↦ k
    ] in
    let rest = same_items xs both a.1 d.1 there back in
    subst (IsPermutation (x ∷ xs)) (sym s.is)
    (IsPermutation-trans _ _ _ (IsPermutation-cons x xs both rest)
    (IsPermutation-sym _ _ (IsPermutation-middle s.front x s.back)))

pub distinct_filter : {A : Type 0} (p : A → Bool) (xs : List A) → AreDistinct xs
    → AreDistinct (filter p xs)
distinct_filter p [] d = tt
distinct_filter {A = A} p (x ∷ xs) d = go (p x) (distinct_filter p xs d.1)
  where
    go : (b : Bool) → AreDistinct (filter p xs)
        → AreDistinct (cond b (x ∷ filter p xs) (filter p xs))
    go true rest = (λ h. d.0 (in_filter p x xs h).0, rest)
    go false rest = rest

-- ---- numbers below another one

below_last : (n x : ℕ) → x < suc n → (x ≡ n → ⊥) → x < n
below_last n x lt ne = elim (nat_cases x n)
    [ inl e ↦ absurd (ne e) | inr other ↦ omega (arith, lt, other) ]

-- there are at most n numbers below n
pub few_below : (n : ℕ) (xs : List ℕ) → AreDistinct xs → ((x : ℕ) → In x xs → x < n) → length xs ≤ n
few_below zero [] once below = omega arith
few_below zero (x ∷ xs) once below = let lt = below x (inl refl) in absurd (omega (arith, lt))
few_below (suc n) xs once below = elim (in_or_not n xs) [
  | inl h ↦ (
      let s = split n xs h in
      let rest = apart n s.front s.back (subst AreDistinct s.is once) in
      let many = few_below n (s.front ++ s.back) rest.1
      (λ x k. below_last n x (below x (subst (In x) (sym s.is) (around n x s.front s.back k)))
      (λ e. rest.0 (subst (λ y. In y (s.front ++ s.back)) e k))) in
      omega (
        arith,
        many,
        ap length s.is,
        length-append s.front s.back,
        length-append s.front (n ∷ s.back),
      ))
  | inr absent ↦ (
      let many = few_below n xs once
      (λ x k. below_last n x (below x k) (λ e. absent (subst (λ y. In y xs) e k))) in
      omega (arith, many))
]
