-- The records of a file that pass a test can be listed in each order.
use Rattle.std.proofs.Common.{◌≡◌, List, [], ◌∷◌, Bool, true, false, cond, refl, ap, ◌∙◌}
use Rattle.std.specs.Prelude.{◌≢◌, ◌&&◌, T, filter}
use Rattle.std.specs.FinMap as fin
use Rattle.std.specs.FinMap.Entries.{below_all}
use Rattle.std.specs.List.{AllByRecursion}
use Rattle.std.specs.List.Sorted.{IsPermutation}
use Rattle.std.specs.Ordering.{is_lt, ordering_reverse, ordering_then}
use Rattle.std.specs.Cmp.{IsTotalOrder}
use Rattle.std.specs.declared.cmp.Ordering.{Ordering}
use Rattle.std.specs.declared.cmp.Ordering.TheVariants.{Less, Equal, Greater}
use Rattle.std.proofs.lemmas.List.Sorted.{IsPermutation-refl, IsPermutation-sym, IsPermutation-cons, IsPermutation-trans, IsPermutation-middle}
use Rattle.gx_commands.specs.declared.command.OrderBy.{OrderBy}
use Rattle.gx_model.specs.States.{Row, File}
use Rattle.gx_model.specs.Found.{row_cmp, Ascends, IsListed}
use Rattle.gx_model.proofs.ListedLemmas.{row_cmp_total}

all_as : {A : Type 0} (P Q : A → Type 0) (xs : List A) → ((x : A) → P x → Q x)
    → AllByRecursion P xs → AllByRecursion Q xs
all_as P Q [] f all = tt
all_as P Q (x ∷ xs) f all = (f x all.0, all_as P Q xs f all.1)

-- ---- elements of which no two tie can be sorted

-- each is apart from all behind it
abbrev AreApart : {A : Type 0} → (A → A → Ordering) → List A → Type 0
AreApart R [] = Unit {0}
AreApart R (x ∷ xs) = AllByRecursion (λ y. R x y ≢ Equal) xs × AreApart R xs

-- the elements in ascending order; what is so of each of them stays
record Sorting {A : Type 0} (R : A → A → Ordering) (xs : List A) : Type 1 where
  list : List A
  those : IsPermutation xs list
  ascends : Ascends R list
  keeps : (P : A → Type 0) → AllByRecursion P xs → AllByRecursion P list

module _ {A : Type 0} (R : A → A → Ordering) (o : IsTotalOrder R) where
  by_first : (x y : A) (ys : List A) (r : Ordering) → R x y ≡ r → Ascends R (y ∷ ys)
      → R x y ≢ Equal → Sorting R (x ∷ ys) → Sorting R (x ∷ y ∷ ys)
  by_first x y ys Less is up apart rest = record {
    list = x ∷ y ∷ ys;
    those = IsPermutation-refl (x ∷ y ∷ ys);
    ascends = (
      (is, all_as (λ z. R y z ≡ Less) (λ z. R x z ≡ Less) ys (λ z h. o.trans x y z is h) up.0),
      up,
    );
    keeps = λ P all. all;
  }
  by_first x y ys Equal is up apart rest = absurd (apart is)
  by_first x y ys Greater is up apart rest = record {
    list = y ∷ rest.list;
    those = IsPermutation-trans (x ∷ y ∷ ys) (y ∷ x ∷ ys) (y ∷ rest.list)
        (IsPermutation-sym (y ∷ x ∷ ys) (x ∷ y ∷ ys) (IsPermutation-middle (y ∷ []) x ys))
        (IsPermutation-cons y (x ∷ ys) rest.list rest.those);
    ascends = (
      rest.keeps (λ z. R y z ≡ Less) (o.antisymm y x ∙ ap ordering_reverse is, up.0),
      rest.ascends,
    );
    keeps = λ P all. (all.1.0, rest.keeps P (all.0, all.1.1));
  }

  inserted : (x : A) (xs : List A) → Ascends R xs → AllByRecursion (λ y. R x y ≢ Equal) xs
      → Sorting R (x ∷ xs)
  inserted x [] up apart = record {
    list = x ∷ [];
    those = IsPermutation-refl (x ∷ []);
    ascends = (tt, tt);
    keeps = λ P all. all;
  }
  inserted x (y ∷ ys) up apart =
      by_first x y ys (R x y) refl up apart.0 (inserted x ys up.1 apart.1)

  sorted : (xs : List A) → AreApart R xs → Sorting R xs
  sorted [] apart = record {
    list = [];
    those = IsPermutation-refl [];
    ascends = tt;
    keeps = λ P all. all;
  }
  sorted (x ∷ xs) apart =
      let rest = sorted xs apart.1 in
      let all = inserted x rest.list rest.ascends
      (rest.keeps (λ y. R x y ≢ Equal) apart.0) in
      record {
        list = all.list;
        those = IsPermutation-trans (x ∷ xs) (x ∷ rest.list) all.list
            (IsPermutation-cons x xs rest.list rest.those) all.those;
        ascends = all.ascends;
        keeps = λ P h. all.keeps P (h.0, rest.keeps P h.1);
      }

-- ---- pairs with different keys

less_not_equal : (r : Ordering) → T (is_lt r) → r ≡ Equal → ⊥
less_not_equal Less less e = absurd cc
less_not_equal Equal less e = absurd less
less_not_equal Greater less e = absurd less

first_of : (a b : Bool) → T (a && b) → T a
first_of true b h = tt
first_of false b h = h

second_of : (a b : Bool) → T (a && b) → T b
second_of true b h = h
second_of false b h = absurd h

-- pairs tie by the one order only where their keys do by the other
module _ {K X : Type 0} (cmp : K → K → Ordering) (R : K × X → K × X → Ordering)
    (tie : (x y : K × X) → R x y ≡ Equal → cmp x.0 y.0 ≡ Equal) where
  apart_first : (x : K × X) (xs : List (K × X)) → T (below_all cmp x.0 xs)
      → AllByRecursion (λ y. R x y ≢ Equal) xs
  apart_first x [] h = tt
  apart_first x (y ∷ ys) h = (
    λ e. less_not_equal (cmp x.0 y.0)
        (first_of (is_lt (cmp x.0 y.0)) (below_all cmp x.0 ys) h) (tie x y e),
    apart_first x ys (second_of (is_lt (cmp x.0 y.0)) (below_all cmp x.0 ys) h),
  )

  pairs_apart : (xs : List (K × X)) → T (fin.is_sorted cmp xs) → AreApart R xs
  pairs_apart [] h = tt
  pairs_apart (x ∷ xs) h = (
    apart_first x xs (first_of (below_all cmp x.0 xs) (fin.is_sorted cmp xs) h),
    pairs_apart xs (second_of (below_all cmp x.0 xs) (fin.is_sorted cmp xs) h),
  )

all_filter : {A : Type 0} (P : A → Type 0) (p : A → Bool) (xs : List A) → AllByRecursion P xs
    → AllByRecursion P (filter p xs)
all_filter P p [] h = tt
all_filter P p (x ∷ xs) h =
    elim (p x) as (λ b. AllByRecursion P (cond b (x ∷ filter p xs) (filter p xs))) [
      | true ↦ (h.0, all_filter P p xs h.1)
      | false ↦ all_filter P p xs h.1
    ]

apart_filter : {A : Type 0} (R : A → A → Ordering) (p : A → Bool) (xs : List A) → AreApart R xs
    → AreApart R (filter p xs)
apart_filter R p [] h = tt
apart_filter R p (x ∷ xs) h =
    elim (p x) as (λ b. AreApart R (cond b (x ∷ filter p xs) (filter p xs))) [
      | true ↦ (all_filter (λ y. R x y ≢ Equal) p xs h.0, apart_filter R p xs h.1)
      | false ↦ apart_filter R p xs h.1
    ]

-- ---- records

second_equal : (a b : Ordering) → ordering_then a b ≡ Equal → b ≡ Equal
second_equal Less b e = absurd cc
second_equal Equal b e = e
second_equal Greater b e = absurd cc

pub some_list : (f : File) (test : Row → Bool) (order : OrderBy)
    → (rows : List Row) × IsListed f test order rows
some_list f test order =
    let apart = pairs_apart _ (row_cmp order) (λ x y e. second_equal _ _ e) (fin.entries f)
    (fin.entries_sorted f) in
    let all = sorted (row_cmp order) (row_cmp_total order) (filter test (fin.entries f))
    (apart_filter (row_cmp order) test (fin.entries f) apart) in
    (all.list, record { those = all.those; in_order = all.ascends })
