-- Members of lists, and lists whose elements are all different.
use Rattle.std.proofs.Common.{◌≡◌, ◌≢◌, ◌⊎◌, inl, inr, ℕ, zero, suc, ◌+◌, ◌<◌, ◌≤◌, List, [], ◌∷◌, ◌++◌, length, get_or, refl, sym, subst, ◌∙◌, arith}
use Rattle.std.specs.List.{AllPairs, Contains}
use Rattle.std.proofs.lemmas.Bool.{cases_eq}
use Rattle.std.proofs.lemmas.List.{get_or_default}
use Rattle.std.proofs.lemmas.List.Elements.{Contains-append_cases, Contains-append_left, Contains-append_right}
use Rattle.gx_laws.proofs.NumberLemmas.{below_last}

pub contains_here : {X : Type 0} (x : X) (xs : List X) → Contains (x ∷ xs) x
contains_here x xs = (0, omega arith, refl)

pub contains_later : {X : Type 0} (y x : X) (xs : List X) → Contains xs x → Contains (y ∷ xs) x
contains_later y x xs c = let below = c.1 in (suc c.0, omega arith, c.2)

later_or_here : {X : Type 0} (y x : X) (xs : List X) (k : ℕ) → k < length (y ∷ xs)
    → get_or (y ∷ xs) k x ≡ x → (y ≡ x) ⊎ Contains xs x
later_or_here y x xs zero below is = inl is
later_or_here y x xs (suc k) below is = inr (k, omega arith, is)

pub contains_cases : {X : Type 0} (y x : X) (xs : List X) → Contains (y ∷ xs) x
    → (y ≡ x) ⊎ Contains xs x
contains_cases y x xs c = later_or_here y x xs c.0 c.1 c.2

pub contains_none : {X : Type 0} (x : X) → Contains [] x → ⊥
contains_none x c = let below = c.1 in omega arith

pub contains_middle : {X : Type 0} (front : List X) (x : X) (rest : List X)
    → Contains (front ++ x ∷ rest) x
contains_middle front x rest = Contains-append_right front (x ∷ rest) x (contains_here x rest)

-- the three parts of a list
pub middle_cases : {X : Type 0} (front : List X) (y : X) (rest : List X) (x : X)
    → Contains (front ++ y ∷ rest) x → Contains front x ⊎ ((y ≡ x) ⊎ Contains rest x)
middle_cases front y rest x c = elim (Contains-append_cases front (y ∷ rest) x c) [
  | inl i ↦ inl i
  | inr i ↦ inr (contains_cases y x rest i)
]

-- a number is in a list or isn't
pub contains_or_not : (xs : List ℕ) (x : ℕ) → Contains xs x ⊎ (Contains xs x → ⊥)
contains_or_not [] x = inr (contains_none x)
contains_or_not (y ∷ xs) x = elim (cases_eq y x) [
  | inl e ↦ inl (0, omega arith, e)
  | inr d ↦ elim (contains_or_not xs x) [
    | inl i ↦ inl (contains_later y x xs i)
    | inr off ↦ inr (λ c. elim (contains_cases y x xs c) [ inl e ↦ d e | inr i ↦ off i ])
  ]
]

-- ---- elements that are all different

pub pairs_head : (x : ℕ) (xs : List ℕ) → AllPairs (λ a b. a ≢ b) (x ∷ xs) → Contains xs x → ⊥
pairs_head x xs once c = let below = c.1 in once 0 (suc c.0) x (omega arith) (omega arith) (sym c.2)

pub pairs_tail : (x : ℕ) (xs : List ℕ) → AllPairs (λ a b. a ≢ b) (x ∷ xs)
    → AllPairs (λ a b. a ≢ b) xs
pairs_tail x xs once i j d less below = once (suc i) (suc j) d (omega arith) (omega arith)

pub pairs_cons : (x : ℕ) (xs : List ℕ) → (Contains xs x → ⊥) → AllPairs (λ a b. a ≢ b) xs
    → AllPairs (λ a b. a ≢ b) (x ∷ xs)
pairs_cons x xs off once zero zero d less below = absurd (omega arith)
pairs_cons x xs off once zero (suc j) d less below = let lt : j < length xs = omega arith in
    λ e. off (j, lt, get_or_default xs j x d lt ∙ sym e)
pairs_cons x xs off once (suc i) zero d less below = absurd (omega arith)
pairs_cons x xs off once (suc i) (suc j) d less below = once i j d (omega arith) (omega arith)

-- the last one is none of those before it
pub pairs_last : (front : List ℕ) (x : ℕ) → AllPairs (λ a b. a ≢ b) (front ++ x ∷ [])
    → Contains front x → ⊥
pairs_last [] x once c = contains_none x c
pairs_last (y ∷ ys) x once c = elim (contains_cases y x ys c) [
  | inl e ↦ pairs_head y (ys ++ x ∷ []) once
      (subst (Contains (ys ++ x ∷ [])) (sym e) (contains_middle ys x []))
  | inr later ↦ pairs_last ys x (pairs_tail y (ys ++ x ∷ []) once) later
]

-- those of a front are different
pub pairs_front : (front rest : List ℕ) → AllPairs (λ a b. a ≢ b) (front ++ rest)
    → AllPairs (λ a b. a ≢ b) front
pairs_front [] rest once = λ i j d less below. absurd (omega arith)
pairs_front (y ∷ ys) rest once =
    pairs_cons y ys (λ c. pairs_head y (ys ++ rest) once (Contains-append_left ys rest y c))
    (pairs_front ys rest (pairs_tail y (ys ++ rest) once))

-- and none of them stands behind
pub pairs_across : (others : List ℕ) (q : ℕ) (rest : List ℕ)
    → AllPairs (λ a b. a ≢ b) ((others ++ q ∷ []) ++ rest) → Contains rest q → ⊥
pairs_across [] q rest once c = pairs_head q rest once c
pairs_across (y ∷ ys) q rest once c =
    pairs_across ys q rest (pairs_tail y ((ys ++ q ∷ []) ++ rest) once) c

-- ---- one of different numbers is left out

pub without_to : (front : List ℕ) (x : ℕ) (rest : List ℕ) (y : ℕ) → Contains (front ++ rest) y
    → Contains (front ++ x ∷ rest) y
without_to front x rest y c = elim (Contains-append_cases front rest y c) [
  | inl i ↦ Contains-append_left front (x ∷ rest) y i
  | inr i ↦ Contains-append_right front (x ∷ rest) y (contains_later x y rest i)
]

pub without_from : (front : List ℕ) (x : ℕ) (rest : List ℕ) (y : ℕ) → y ≢ x
    → Contains (front ++ x ∷ rest) y → Contains (front ++ rest) y
without_from front x rest y d c = elim (middle_cases front x rest y c) [
  | inl i ↦ Contains-append_left front rest y i
  | inr i ↦ elim i [
    | inl e ↦ absurd (d (sym e))
    | inr j ↦ Contains-append_right front rest y j
  ]
]

pub without_once : (front : List ℕ) (x : ℕ) (rest : List ℕ)
    → AllPairs (λ a b. a ≢ b) (front ++ x ∷ rest) → AllPairs (λ a b. a ≢ b) (front ++ rest)
without_once [] x rest once = pairs_tail x rest once
without_once (y ∷ ys) x rest once =
    pairs_cons y (ys ++ rest) (λ c. pairs_head y (ys ++ x ∷ rest) once (without_to ys x rest y c))
    (without_once ys x rest (pairs_tail y (ys ++ x ∷ rest) once))

pub without_off : (front : List ℕ) (x : ℕ) (rest : List ℕ)
    → AllPairs (λ a b. a ≢ b) (front ++ x ∷ rest) → Contains (front ++ rest) x → ⊥
without_off [] x rest once c = pairs_head x rest once c
without_off (y ∷ ys) x rest once c = elim (contains_cases y x (ys ++ rest) c) [
  | inl e ↦ pairs_head y (ys ++ x ∷ rest) once
      (subst (Contains (ys ++ x ∷ rest)) (sym e) (contains_middle ys x rest))
  | inr later ↦ without_off ys x rest (pairs_tail y (ys ++ x ∷ rest) once) later
]

-- ---- different numbers below n are at most n

record IsWithout (x : ℕ) (xs : List ℕ) : Type 0 where
  rest : List ℕ
  shorter : length xs ≤ length rest + 1
  once : AllPairs (λ a b. a ≢ b) rest
  members : (y : ℕ) → Contains rest y → Contains xs y × (y ≢ x)

take_out : (x : ℕ) (xs : List ℕ) → AllPairs (λ a b. a ≢ b) xs → IsWithout x xs
take_out x [] u = record {
  rest = [];
  shorter = omega arith;
  once = u;
  members = λ y i. absurd (contains_none y i);
}
take_out x (z ∷ xs) u = elim (cases_eq z x) [
  | inl e ↦ record {
    rest = xs;
    shorter = omega arith;
    once = pairs_tail z xs u;
    members = λ y i. (
      contains_later z y xs i,
      λ f. pairs_head z xs u (subst (Contains xs) (f ∙ sym e) i),
    );
  }
  | inr d ↦ (let w = take_out x xs (pairs_tail z xs u) in record {
    rest = z ∷ w.rest;
    shorter = (let s = w.shorter in omega (arith, s));
    once = pairs_cons z w.rest (λ i. pairs_head z xs u (w.members z i).0) w.once;
    members = λ y i. elim (contains_cases z y w.rest i) [
      | inl e ↦ (subst (Contains (z ∷ xs)) e (contains_here z xs), λ f. d (e ∙ f))
      | inr j ↦ (let m = w.members y j in (contains_later z y xs m.0, m.1))
    ];
  })
]

pub few : (n : ℕ) (xs : List ℕ) → AllPairs (λ a b. a ≢ b) xs → ((x : ℕ) → Contains xs x → x < n)
    → length xs ≤ n
few zero [] u below = omega arith
few zero (x ∷ xs) u below = let h = below x (contains_here x xs) in omega (arith, h)
few (suc n) xs u below =
    let w = take_out n xs u in
    let h = few n w.rest w.once (λ x i. (let m = w.members x i in below_last x n (below x m.0) m.1))
    in
    let s = w.shorter in
    omega (arith, h, s)
