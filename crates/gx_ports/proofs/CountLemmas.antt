-- Pages counted by their owners: an owner has no more pages than a list that has them all, and
-- where each owner has few, the pages are few.
use Rattle.std.proofs.Common.{◌≡◌, ◌≢◌, ◌⊎◌, inl, inr, ◌<◌, ◌≤◌, ◌+◌, ◌==◌, ℕ, zero, suc, List, [], ◌∷◌, length, get_or, refl, sym, ◌∙◌, ap, subst, arith, cond}
use Rattle.std.specs.Prelude.{slice_get, Some}
use Rattle.std.specs.List.{Contains}
use Rattle.std.proofs.lemmas.Bool.{cases_Bool, cond-true, cond-false, eqb-true, ne_eqb}
use Rattle.std.proofs.lemmas.Bool.Decides.{eqb_tells}
use Rattle.std.proofs.lemmas.List.Sums.{sum_by-cons}
use Rattle.gx_ports.specs.OwnerCounts.{count_owned, sum_below}

-- x is one of the items
abbrev In : ℕ → List ℕ → Type 0
In x [] = ⊥
In x (y ∷ ys) = (x ≡ y) ⊎ In x ys

in_at : (x : ℕ) (ys : List ℕ) (k : ℕ) → k < length ys → get_or ys k x ≡ x → In x ys
in_at x [] k lt is = absurd (omega (arith, lt))
in_at x (y ∷ ys) zero lt is = inl (sym is)
in_at x (y ∷ ys) (suc k) lt is = inr (in_at x ys k (omega (arith, lt)) is)

-- a list without one of its items
abbrev HasTaken : ℕ → List ℕ → Type 0
HasTaken x ys = (rest : List ℕ) × (length ys ≡ length rest + 1)
    × ((q : ℕ) → q ≢ x → In q ys → In q rest)

take_out : (x : ℕ) (ys : List ℕ) → In x ys → HasTaken x ys
take_out x [] i = absurd i
take_out x (y ∷ ys) (inl e) =
    (ys, omega arith, λ q d j. elim j [ inl f ↦ absurd (d (f ∙ sym e)) | inr k ↦ k ])
take_out x (y ∷ ys) (inr i) =
    let t = take_out x ys i in
    let l = t.1 in
    (y ∷ t.0, omega (arith, l), λ q d j. elim j [ inl f ↦ inl f | inr k ↦ inr (t.2 q d k) ])

one_more : (n : ℕ) (ns : List ℕ) (owner : ℕ)
    → count_owned owner (n ∷ ns) ≡ cond (n == owner) 1 0 + count_owned owner ns
one_more n ns owner = sum_by-cons (λ m. cond (m == owner) 1 0) n ns

count_in : (owners : List ℕ) (owner first : ℕ) (pages : List ℕ)
    → ((page : ℕ) → slice_get owners page ≡ Some owner → In (first + page) pages)
    → count_owned owner owners ≤ length pages
count_in [] owner first pages all = omega arith
count_in (n ∷ ns) owner first pages all = elim (cases_Bool (n == owner)) [
  | inl e ↦
      (let here : first + 0 ≡ first = omega arith in
      let t = take_out first pages
      (subst (λ (k : ℕ). In k pages) here (all 0 (ap Some (eqb-true n owner e)))) in
      let h = count_in ns owner (first + 1) t.0
      (λ page is. t.2 (first + 1 + page) (λ f. absurd (omega (arith, f)))
      (subst (λ (k : ℕ). In k pages) (let s : first + suc page ≡ first + 1 + page =
      omega arith in s) (all (suc page) is))) in
      let l = t.1 in
      let c = cond-true {A = ℕ} (n == owner) 1 0 e in
      omega (arith, h, l, c, one_more n ns owner))
  | inr e ↦
      (let h = count_in ns owner (first + 1) pages
      (λ page is. subst (λ (k : ℕ). In k pages) (let s : first + suc page ≡ first + 1 + page =
      omega arith in s) (all (suc page) is)) in
      let c = cond-false {A = ℕ} (n == owner) 1 0 e in
      omega (arith, h, c, one_more n ns owner))
]

-- the pages of an owner are at most as many as a list has that has them all; the owners are those
-- of the pages from `first` on
pub count_listed : (owners : List ℕ) (owner first : ℕ) (pages : List ℕ)
    → ((page : ℕ) → slice_get owners page ≡ Some owner → Contains pages (first + page))
    → count_owned owner owners ≤ length pages
count_listed owners owner first pages all =
    count_in owners owner first pages
    (λ page is. (let c = all page is in in_at (first + page) pages c.0 c.1 c.2))

sum_same : (f g : ℕ → ℕ) (n : ℕ) → ((k : ℕ) → f k ≡ g k) → sum_below f n ≡ sum_below g n
sum_same f g zero same = refl
sum_same f g (suc n) same = omega (arith, sum_same f g n same, same n)

sum_add : (f g : ℕ → ℕ) (n : ℕ) → sum_below (λ k. f k + g k) n ≡ sum_below f n + sum_below g n
sum_add f g zero = refl
sum_add f g (suc n) = omega (arith, sum_add f g n)

pub sum_least : (f g : ℕ → ℕ) (n : ℕ) → ((k : ℕ) → k < n → f k ≤ g k)
    → sum_below f n ≤ sum_below g n
sum_least f g zero le = omega arith
sum_least f g (suc n) le =
    omega (
      arith,
      sum_least f g n (λ k lt. le k (let l = lt in omega (arith, l))),
      le n (omega arith),
    )

zeros : (n : ℕ) → sum_below (λ _. 0) n ≡ 0
zeros zero = refl
zeros (suc n) = omega (arith, zeros n)

none_of : (x n : ℕ) → n ≤ x → sum_below (λ k. cond (x == k) 1 0) n ≡ 0
none_of x zero above = refl
none_of x (suc n) above =
    let h = none_of x n (omega (arith, above)) in
    let c = cond-false {A = ℕ} (x == n) 1 0 (ne_eqb x n (λ e. absurd (omega (arith, above, e)))) in
    omega (arith, h, c)

one_of : (x n : ℕ) → x < n → sum_below (λ k. cond (x == k) 1 0) n ≡ 1
one_of x zero below = absurd (omega (arith, below))
one_of x (suc n) below = elim (eqb_tells x n) [
  | inl same ↦ (let is = same.1 in let h = none_of x n (omega (arith, is)) in let c =
      cond-true {A = ℕ} (x == n) 1 0 same.0 in omega (arith, h, c))
  | inr off ↦ (let ne = off.1 in let h = one_of x n (omega (arith, below, ne)) in let c =
      cond-false {A = ℕ} (x == n) 1 0 off.0 in omega (arith, h, c))
]

-- each page has one owner
pub count_all : (owners : List ℕ) (n : ℕ)
    → ((page owner : ℕ) → slice_get owners page ≡ Some owner → owner < n)
    → sum_below (λ owner. count_owned owner owners) n ≡ length owners
count_all [] n within = zeros n
count_all (x ∷ xs) n within =
    let h = count_all xs n (λ page owner is. within (suc page) owner is) in
    let e = sum_same (λ owner. count_owned owner (x ∷ xs))
    (λ owner. cond (x == owner) 1 0 + count_owned owner xs) n (λ owner. one_more x xs owner) in
    let a = sum_add (λ owner. cond (x == owner) 1 0) (λ owner. count_owned owner xs) n in
    let b = one_of x n (within 0 x refl) in
    omega (arith, h, e, a, b)

-- where each owner has few pages, the pages are few
pub crowded : (owners : List ℕ) (n : ℕ) (most : ℕ → ℕ)
    → ((page owner : ℕ) → slice_get owners page ≡ Some owner → owner < n)
    → ((owner : ℕ) → owner < n → count_owned owner owners ≤ most owner)
    → length owners ≤ sum_below most n
crowded owners n most within few =
    omega (
      arith,
      count_all owners n within,
      sum_least (λ owner. count_owned owner owners) most n few,
    )
