-- Sums over lists, and lists of what functions give of the same list.
use Rattle.std.proofs.Common.{◌≡◌, ◌≢◌, inl, inr, Bool, true, false, ℕ, zero, suc, ◌+◌, ◌*◌, ◌<◌, ◌≤◌, ◌==◌, cond, List, [], ◌∷◌, length, get_or, set, map, refl, sym, ap, ◌∙◌, arith, eq-eqb}
use Rattle.std.specs.Prelude.{slice_get, Some, count_by, replicate}
use Rattle.std.specs.List.{sum_by}
use Rattle.std.proofs.lemmas.Bool.{cond-true, cond-false, cases_Bool}
use Rattle.std.proofs.lemmas.List.Sums.{sum_by-cons, sum_by-le-sum_by}
use Rattle.std.proofs.lemmas.Option.{same_Some}

module _ {X Y : Type 0} (f g : X → Y) where
  pub map_same : (xs : List X) → ((i : ℕ) (x : X) → slice_get xs i ≡ Some x → g x ≡ f x)
      → map g xs ≡ map f xs
  map_same [] same = refl
  map_same (x ∷ xs) same = λ k. same 0 x refl k ∷ map_same xs (λ i y at. same (suc i) y at) k

  -- one element has another value
  pub map_set_at : (xs : List X) (i : ℕ) (x : X) (y : Y) → slice_get xs i ≡ Some x → g x ≡ y
      → ((j : ℕ) (z : X) → j ≢ i → slice_get xs j ≡ Some z → g z ≡ f z)
      → map g xs ≡ set (map f xs) i y
  map_set_at [] i x y at is same = absurd (cc)
  map_set_at (z ∷ xs) zero x y at is same =
      λ k. (ap g (same_Some z x at) ∙ is) k ∷ map_same xs
      (λ j w there. same (suc j) w (omega arith) there) k
  map_set_at (z ∷ xs) (suc i) x y at is same =
      λ k. same 0 z (omega arith) refl k ∷ map_set_at xs i x y at is
      (λ j w other there. same (suc j) w (let o = other in omega (arith, o)) there) k

  pub map_same_at : (xs : List X) (i : ℕ) (d : Y) → ((x : X) → slice_get xs i ≡ Some x → g x ≡ f x)
      → get_or (map g xs) i d ≡ get_or (map f xs) i d
  map_same_at [] i d same = refl
  map_same_at (x ∷ xs) zero d same = same x refl
  map_same_at (x ∷ xs) (suc i) d same = map_same_at xs i d same

pub map_at_some : {X Y : Type 0} (f : X → Y) (xs : List X) (i : ℕ) (x : X) (d : Y)
    → slice_get xs i ≡ Some x → get_or (map f xs) i d ≡ f x
map_at_some f [] i x d at = absurd (cc)
map_at_some f (z ∷ xs) zero x d at = ap f (same_Some z x at)
map_at_some f (z ∷ xs) (suc i) x d at = map_at_some f xs i x d at

pub some_at : {X : Type 0} (xs : List X) (i : ℕ) → i < length xs
    → (x : X) × (slice_get xs i ≡ Some x)
some_at [] i lt = absurd (omega (arith, lt))
some_at (x ∷ xs) zero lt = (x, refl)
some_at (x ∷ xs) (suc i) lt = some_at xs i (omega (arith, lt))

pub sum_by_map : {X Y : Type 0} (f : Y → ℕ) (h : X → Y) (xs : List X)
    → sum_by f (map h xs) ≡ sum_by (λ x. f (h x)) xs
sum_by_map f h [] = refl
sum_by_map f h (x ∷ xs) = sum_by-cons f (h x) (map h xs) ∙ ap (λ n. f (h x) + n) (sum_by_map f h xs)
    ∙ sym (sum_by-cons (λ z. f (h z)) x xs)

module _ {X : Type 0} (f g h : X → ℕ) where
  -- each term is bounded
  pub sum_least : (xs : List X) → ((i : ℕ) (x : X) → slice_get xs i ≡ Some x → f x ≤ g x + 2 * h x)
      → sum_by f xs ≤ sum_by g xs + 2 * sum_by h xs
  sum_least [] le = omega arith
  sum_least (x ∷ xs) le =
      let here = le 0 x refl in
      let rest = sum_least xs (λ i y at. le (suc i) y at) in
      omega (arith, here, rest, sum_by-cons f x xs, sum_by-cons g x xs, sum_by-cons h x xs)

  -- and one of them by one more
  pub sum_least_but : (xs : List X) (i : ℕ) (x : X) → slice_get xs i ≡ Some x
      → f x ≤ g x + 2 * h x + 1
      → ((j : ℕ) (z : X) → j ≢ i → slice_get xs j ≡ Some z → f z ≤ g z + 2 * h z)
      → sum_by f xs ≤ sum_by g xs + 2 * sum_by h xs + 1
  sum_least_but [] i x at one le = absurd (cc)
  sum_least_but (z ∷ xs) zero x at one le =
      let rest = sum_least xs (λ j y there. le (suc j) y (omega arith) there) in
      let e = same_Some z x at in
      let one_here : f z ≤ g z + 2 * h z + 1 = omega (arith, one, ap f e, ap g e, ap h e) in
      omega (arith, one_here, rest, sum_by-cons f z xs, sum_by-cons g z xs, sum_by-cons h z xs)
  sum_least_but (z ∷ xs) (suc i) x at one le =
      let here = le 0 z (omega arith) refl in
      let rest = sum_least_but xs i x at one
      (λ j y other there. le (suc j) y (let o = other in omega (arith, o)) there) in
      omega (arith, here, rest, sum_by-cons f z xs, sum_by-cons g z xs, sum_by-cons h z xs)

-- one term is larger
pub sum_more : {X : Type 0} (f g : X → ℕ) (xs : List X) (i : ℕ) (x : X) → slice_get xs i ≡ Some x
    → f x + 1 ≤ g x → ((z : X) → f z ≤ g z) → sum_by f xs + 1 ≤ sum_by g xs
sum_more f g [] i x at more le = absurd (cc)
sum_more f g (z ∷ xs) zero x at more le =
    let e = same_Some z x at in
    let here : f z + 1 ≤ g z = omega (arith, more, ap f e, ap g e) in
    let rest = sum_by-le-sum_by f g xs le in
    omega (arith, here, rest, sum_by-cons f z xs, sum_by-cons g z xs)
sum_more f g (z ∷ xs) (suc i) x at more le =
    let here = le z in
    let rest = sum_more f g xs i x at more le in
    omega (arith, here, rest, sum_by-cons f z xs, sum_by-cons g z xs)

module _ {X : Type 0} (key : X → ℕ) (xs : List X) where
  -- how many of the numbers each element has, for all of them
  abbrev total : List ℕ → ℕ
  total os = sum_by (λ x. count_by (λ o. o == key x) os) xs

  count_more : (o : ℕ) (os : List ℕ) (x : X)
      → count_by (λ p. p == key x) os ≤ count_by (λ p. p == key x) (o ∷ os)
  count_more o os x = let e = sum_by-cons (λ p. cond (p == key x) 1 0) o os in omega (arith, e)

  one_most : (b : Bool) → cond b 1 0 ≤ 1
  one_most true = omega arith
  one_most false = omega arith

  count_here : (o : ℕ) (os : List ℕ) (x : X) → key x ≡ o
      → count_by (λ p. p == key x) os + 1 ≤ count_by (λ p. p == key x) (o ∷ os)
  count_here o os x is =
      let e = sum_by-cons (λ p. cond (p == key x) 1 0) o os in
      let one = cond-true {A = ℕ} (o == key x) 1 0 (eq-eqb o (key x) (sym is)) in
      omega (arith, e, one)

  -- where each number behind the first ones that is counted is that of an element, they are few
  pub counted_some : (is : ℕ → Bool) (first : ℕ) (os : List ℕ)
      → ((page o : ℕ) → first ≤ page → slice_get os page ≡ Some o → is o ≡ true
      → (j : ℕ) × (x : X) × (slice_get xs j ≡ Some x) × (key x ≡ o))
      → count_by is os ≤ first + total os
  counted_some is first [] each = omega arith
  counted_some is zero (o ∷ os) each =
      let rest = counted_some is zero os (λ page p le at. each (suc page) p (omega arith) at) in
      let e = sum_by-cons (λ p. cond (is p) 1 0) o os in elim (cases_Bool (is o)) [
        | inl counts ↦ (let w = each 0 o (omega arith) refl counts in
            let more = sum_more (λ x. count_by (λ p. p == key x) os)
            (λ x. count_by (λ p. p == key x) (o ∷ os)) xs w.0 w.1 w.2 (count_here o os w.1 w.3)
            (count_more o os) in
            omega (arith, rest, more, e, cond-true {A = ℕ} (is o) 1 0 counts))
        | inr passed ↦ (let more = sum_by-le-sum_by (λ x. count_by (λ p. p == key x) os)
            (λ x. count_by (λ p. p == key x) (o ∷ os)) xs (count_more o os) in
            omega (arith, rest, more, e, cond-false {A = ℕ} (is o) 1 0 passed))
      ]
  counted_some is (suc first) (o ∷ os) each =
      let rest = counted_some is first os
      (λ page p le at. each (suc page) p (let l = le in omega (arith, l)) at) in
      let more = sum_by-le-sum_by (λ x. count_by (λ p. p == key x) os)
      (λ x. count_by (λ p. p == key x) (o ∷ os)) xs (count_more o os) in
      let e = sum_by-cons (λ p. cond (is p) 1 0) o os in
      let one = one_most (is o) in
      omega (arith, rest, more, e, one)

  count_all : (os : List ℕ) → count_by (λ o. true) os ≡ length os
  count_all [] = refl
  count_all (o ∷ os) =
      let rest = count_all os in omega (arith, rest, sum_by-cons (λ (p : ℕ). 1) o os)

  -- where each number behind the first ones is that of an element, they are few
  pub counted_all : (first : ℕ) (os : List ℕ)
      → ((page o : ℕ) → first ≤ page → slice_get os page ≡ Some o
      → (j : ℕ) × (x : X) × (slice_get xs j ≡ Some x) × (key x ≡ o))
      → length os ≤ first + total os
  counted_all first os each =
      let few = counted_some (λ o. true) first os (λ page o past at counts. each page o past at) in
      omega (arith, few, count_all os)

-- each element has the same value
pub map_all_same : {X Y : Type 0} (f : X → Y) (y : Y) (xs : List X)
    → ((i : ℕ) (x : X) → slice_get xs i ≡ Some x → f x ≡ y) → map f xs ≡ replicate (length xs) y
map_all_same f y [] same = refl
map_all_same f y (x ∷ xs) same =
    λ k. same 0 x refl k ∷ map_all_same f y xs (λ i z at. same (suc i) z at) k
