-- Lists of records as sets.
use Rattle.std.proofs.Common.{◌≡◌, ◌<◌, ℕ, zero, suc, Bool, true, false, cond, List, [], ◌∷◌, inl, inr, refl, sym, ap, ◌∙◌, subst, length, get_or, arith}
use Rattle.std.specs.Prelude.{T, filter, flat_map, ◌||◌}
use Rattle.std.specs.List.{AllByRecursion, Contains, dedup, list_any}
use Rattle.std.specs.List.Sorted.{IsPermutation, IsSorted, IsSortedBy, IsStrictlySortedBy}
use Rattle.std.specs.FinMap as fin
use Rattle.std.specs.FinMap.Entries.{below_all}
use Rattle.std.specs.Ordering.{is_lt, is_eq, ordering_then, ordering_reverse}
use Rattle.std.specs.declared.cmp.Ordering.{Ordering}
use Rattle.std.specs.declared.cmp.Ordering.TheVariants.{Less, Equal, Greater}
use Rattle.std.specs.Cmp.{IsTotalOrder, on_total, tied_itself, eq_by_cmp_equiv}
use Rattle.std.proofs.lemmas.Bool.{true≢false}
use Rattle.std.proofs.lemmas.List.Sorted.{Contains-permutation, IsPermutation-sym}
use Rattle.std.proofs.lemmas.List.Kept.{IsStrictlySortedBy-filter, IsStrictlySortedBy-dedup, Any-dedup, Contains-from_dedup}
use Rattle.gx_laws.specs.Members.{In}
use Rattle.gx_laws.proofs.BoolLemmas.{first_of_both, second_of_both}
use Rattle.gx_laws.proofs.MemberLemmas.{in_left, in_right, in_cases}
use Rattle.gx_laws.proofs.OrderingLemmas.{is_less, equal_from_eq}
use Rattle.gx_values.specs.declared.values.Value.{Value}
use Rattle.gx_values.specs.Values.{value_cmp}
use Rattle.gx_values.proofs.OrderLemmas.{value_cmp_total}
use Rattle.gx_commands.specs.declared.command.Cond.{Cond}
use Rattle.gx_commands.specs.declared.command.OrderBy.{OrderBy}
use Rattle.gx_commands.specs.declared.path.Way.{Way}
use Rattle.gx_model.specs.States.{State, File, Row, file_in}
use Rattle.gx_model.specs.Found.{Ascends, meets_conds, row_cmp}
use Rattle.gx_model.specs.Paths.{leads, is_led}
use Rattle.gx_walks.specs.Walks.{AreThose, linked, all_linked}

-- ---- members of lists

in_filter : {A : Type 0} (p : A → Bool) (x : A) (xs : List A) → In x (filter p xs)
    → In x xs × (p x ≡ true)
in_filter p x [] h = absurd h
in_filter {A} p x (y ∷ xs) h = go (p y) refl (λ k. in_filter p x xs k) h
  where
    go : (b : Bool) → p y ≡ b → (In x (filter p xs) → In x xs × (p x ≡ true))
        → In x (cond b (y ∷ filter p xs) (filter p xs)) → In x (y ∷ xs) × (p x ≡ true)
    go true e more (inl is) = (inl is, ap p is ∙ e)
    go true e more (inr k) = (inr (more k).0, (more k).1)
    go false e more k = (inr (more k).0, (more k).1)

filter_in : {A : Type 0} (p : A → Bool) (x : A) (xs : List A) → In x xs → p x ≡ true
    → In x (filter p xs)
filter_in p x [] h e = absurd h
filter_in {A} p x (y ∷ xs) h e = go (p y) refl (λ k. filter_in p x xs k e) h
  where
    go : (b : Bool) → p y ≡ b → (In x xs → In x (filter p xs)) → In x (y ∷ xs)
        → In x (cond b (y ∷ filter p xs) (filter p xs))
    go true eq more (inl is) = inl is
    go true eq more (inr k) = inr (more k)
    go false eq more (inl is) = absurd (true≢false (sym e ∙ ap p is ∙ eq))
    go false eq more (inr k) = more k

in_each : {A B : Type 0} (f : A → List B) (x : A) (y : B) (xs : List A) → In x xs → In y (f x)
    → In y (flat_map f xs)
in_each f x y [] h k = absurd h
in_each f x y (z ∷ xs) (inl e) k = in_left y (f z) (flat_map f xs) (subst (λ a. In y (f a)) e k)
in_each f x y (z ∷ xs) (inr h) k = in_right y (f z) (flat_map f xs) (in_each f x y xs h k)

from_each : {A B : Type 0} (f : A → List B) (y : B) (xs : List A) → In y (flat_map f xs)
    → (x : A) × In x xs × In y (f x)
from_each f y [] h = absurd h
from_each f y (x ∷ xs) h = elim (in_cases y (f x) (flat_map f xs) h) [
  | inl a ↦ (x, inl refl, a)
  | inr b ↦ (let r = from_each f y xs b in (r.0, inr r.1, r.2))
]

in_get_or : {A : Type 0} (xs : List A) (i : ℕ) (d : A) → i < length xs → In (get_or xs i d) xs
in_get_or [] i d l = absurd (omega arith)
in_get_or (x ∷ xs) zero d l = inl refl
in_get_or (x ∷ xs) (suc i) d l = inr (in_get_or xs i d (omega arith))

in_contains : {A : Type 0} (x : A) (xs : List A) → In x xs → Contains xs x
in_contains x [] h = absurd h
in_contains x (y ∷ xs) (inl e) = (0, omega arith, sym e)
in_contains x (y ∷ xs) (inr h) =
    (let c = in_contains x xs h in (suc c.0, (let l = c.1 in omega arith), c.2))

contains_in : {A : Type 0} (x : A) (xs : List A) → Contains xs x → In x xs
contains_in x xs c = subst (λ y. In y xs) c.2 (in_get_or xs c.0 x c.1)

all_in : {A : Type 0} (P : A → Type 0) (xs : List A) (x : A) → AllByRecursion P xs → In x xs → P x
all_in P [] x h i = absurd i
all_in P (y ∷ ys) x h (inl e) = subst P (sym e) h.0
all_in P (y ∷ ys) x h (inr i) = all_in P ys x h.1 i

any_in : {A : Type 0} (p : A → Bool) (x : A) (xs : List A) → In x xs → p x ≡ true
    → list_any p xs ≡ true
any_in p x [] h e = absurd h
any_in p x (y ∷ xs) (inl is) e = ap (λ b. b || list_any p xs) (sym (ap p is) ∙ e)
any_in p x (y ∷ xs) (inr h) e = either (p y) (any_in p x xs h e)
  where
    either : (b : Bool) → list_any p xs ≡ true → (b || list_any p xs) ≡ true
    either true k = refl
    either false k = k

in_any : {A : Type 0} (p : A → Bool) (xs : List A) → list_any p xs ≡ true
    → (x : A) × In x xs × (p x ≡ true)
in_any p [] e = absurd (true≢false (sym e))
in_any {A} p (y ∷ xs) e = go (p y) refl (λ k. in_any p xs k) e
  where
    go : (b : Bool) → p y ≡ b → (list_any p xs ≡ true → (x : A) × In x xs × (p x ≡ true))
        → (b || list_any p xs) ≡ true → (x : A) × In x (y ∷ xs) × (p x ≡ true)
    go true is more k = (y, inl refl, is)
    go false is more k = (let r = more k in (r.0, inr r.1, r.2))

-- ---- lists in order

less_greater : Less ≡ Greater → ⊥
less_greater e = cc

module _ {A : Type 0} {R : A → A → Ordering} (o : IsTotalOrder R) where
  not_both_before : (x y : A) → R x y ≡ Less → R y x ≡ Less → ⊥
  not_both_before x y e f = less_greater (sym e ∙ o.antisymm x y ∙ ap ordering_reverse f)

  not_tied_before : (x y : A) → R x y ≡ Less → R x y ≡ Equal → ⊥
  not_tied_before x y e f = let is : Less ≡ Equal = sym e ∙ f in cc

  -- members that tie are one
  one_of_tied : (xs : List A) → Ascends R xs → (x y : A) → In x xs → In y xs → R x y ≡ Equal → x ≡ y
  one_of_tied [] up x y h k e = absurd h
  one_of_tied (z ∷ zs) up x y (inl a) (inl b) e = a ∙ sym b
  one_of_tied (z ∷ zs) up x y (inl a) (inr k) e = absurd (not_tied_before x y
      (subst (λ w. R w y ≡ Less) (sym a) (all_in (λ w. R z w ≡ Less) zs y up.0 k)) e)
  one_of_tied (z ∷ zs) up x y (inr h) (inl b) e = absurd (not_tied_before y x
      (subst (λ w. R w x ≡ Less) (sym b) (all_in (λ w. R z w ≡ Less) zs x up.0 h))
      (o.antisymm y x ∙ ap ordering_reverse e))
  one_of_tied (z ∷ zs) up x y (inr h) (inr k) e = one_of_tied zs up.1 x y h k e

  -- two lists in order with the same members are one
  same_in_order : (xs ys : List A) → Ascends R xs → Ascends R ys → ((x : A) → In x xs → In x ys)
      → ((y : A) → In y ys → In y xs) → xs ≡ ys
  same_in_order [] [] a b f g = refl
  same_in_order [] (y ∷ ys) a b f g = absurd (g y (inl refl))
  same_in_order (x ∷ xs) [] a b f g = absurd (f x (inl refl))
  same_in_order (x ∷ xs) (y ∷ ys) a b f g =
      let same : x ≡ y = elim (f x (inl refl)) [
        | inl e ↦ e
        | inr h ↦ elim (g y (inl refl)) [
          | inl e ↦ sym e
          | inr k ↦ absurd (not_both_before x y (all_in (λ w. R x w ≡ Less) xs y a.0 k)
              (all_in (λ w. R y w ≡ Less) ys x b.0 h))
        ]
      ] in
      let f' : (z : A) → In z xs → In z ys = λ z i. elim (f z (inr i)) [
        | inl e ↦ absurd (not_tied_before x z (all_in (λ w. R x w ≡ Less) xs z a.0 i)
            (ap (λ w. R x w) (e ∙ sym same) ∙ tied_itself o x))
        | inr k ↦ k
      ] in
      let g' : (z : A) → In z ys → In z xs = λ z i. elim (g z (inr i)) [
        | inl e ↦ absurd (not_tied_before y z (all_in (λ w. R y w ≡ Less) ys z b.0 i)
            (ap (λ w. R y w) (e ∙ same) ∙ tied_itself o y))
        | inr k ↦ k
      ] in
      λ i. same i ∷ same_in_order xs ys a.1 b.1 f' g' i

ascends : {A : Type 0} (R : A → A → Ordering) (xs : List A) → IsStrictlySortedBy R xs → Ascends R xs
unfolding IsStrictlySortedBy
ascends R [] s = tt
ascends R (x ∷ xs) s = (s.0, ascends R xs s.1)

-- ---- records by their keys

abbrev by_key : Row → Row → Ordering
by_key a b = value_cmp a.0 b.0

by_key_total : IsTotalOrder by_key
by_key_total = on_total (λ (r : Row). r.0) value_cmp_total

abbrev pub has_key_of : Row → Row → Bool
has_key_of a b = is_eq (value_cmp a.0 b.0)

all_below : (x : Value) (xs : List Row) → T (below_all value_cmp x xs)
    → AllByRecursion (λ (y : Row). value_cmp x y.0 ≡ Less) xs
all_below x [] h = tt
all_below x (y ∷ xs) h = (is_less _ (first_of_both _ _ h), all_below x xs (second_of_both _ _ h))

rows_up : (xs : List Row) → T (fin.is_sorted value_cmp xs) → IsStrictlySortedBy by_key xs
unfolding IsStrictlySortedBy
rows_up [] h = tt
rows_up (x ∷ xs) h =
    (all_below x.0 xs (first_of_both _ _ h), rows_up xs (second_of_both _ _ h))

entries_up : (f : File) → IsStrictlySortedBy by_key (fin.entries f)
entries_up f = rows_up (fin.entries f) (fin.entries_sorted f)

twice : (r : Ordering) → ordering_then r r ≡ r
twice Less = refl
twice Equal = refl
twice Greater = refl

abbrev pub key_order : OrderBy
key_order = record { field = 0; desc = false }

sorted_by_key : (rows : List Row) → IsSortedBy (λ a b. is_lt (row_cmp key_order a b)) rows
    → IsSorted by_key rows
sorted_by_key rows up = subst (λ (c : Row → Row → Ordering). IsSortedBy (λ a b. is_lt (c a b)) rows)
    (λ i a b. twice (value_cmp a.0 b.0) i) up

-- ---- sets

-- records of a file that meet conditions, sorted, and of those with one key the first
pub settled : (f : File) (test : Row → Bool) (conds : List Cond) (rows sorted : List Row)
    → AreThose f test rows → IsPermutation (filter (meets_conds conds) rows) sorted
    → IsSortedBy (λ a b. is_lt (row_cmp key_order a b)) sorted
    → dedup has_key_of sorted ≡ filter test (filter (meets_conds conds) (fin.entries f))
settled f test conds rows sorted those perm up =
    same_in_order by_key_total set wanted
    (ascends by_key set (IsStrictlySortedBy-dedup by_key_total (λ x y. refl) sorted
    (sorted_by_key sorted up)))
    (ascends by_key wanted (IsStrictlySortedBy-filter by_key test (filter meets all)
    (IsStrictlySortedBy-filter by_key meets all (entries_up f))))
    (λ r h. (let k = in_filter meets r rows (unsorted r (contains_in r sorted
    (Contains-from_dedup has_key_of sorted r (in_contains r set h)))) in
    let is = (those r).0 k.0 in
    filter_in test r (filter meets all) (filter_in meets r all is.0 k.1) is.1))
    (λ r h. (let k = in_filter test r (filter meets all) h in
    let m = in_filter meets r all k.0 in
    let there = filter_in meets r rows ((those r).1 (m.0, k.1)) m.1 in
    let other = Any-dedup (eq_by_cmp_equiv by_key_total) sorted r
    (Contains-permutation _ sorted r perm (in_contains r (filter meets rows) there)) in
    let kept = contains_in other.1 set (other.0, other.2, other.3) in
    let found = (those other.1).0 (in_filter meets other.1 rows (unsorted other.1
    (contains_in other.1 sorted
    (Contains-from_dedup has_key_of sorted other.1 (in_contains other.1 set kept))))).0 in
    subst (λ q. In q set) (sym (one_of_tied by_key_total all (ascends by_key all (entries_up f))
    r other.1 m.0 found.0 (equal_from_eq (by_key r other.1) other.4))) kept))
  where
    meets : Row → Bool
    meets = meets_conds conds

    all : List Row
    all = fin.entries f

    set : List Row
    set = dedup has_key_of sorted

    wanted : List Row
    wanted = filter test (filter meets all)

    unsorted : (r : Row) → In r sorted → In r (filter meets rows)
    unsorted r h = contains_in r (filter meets rows)
        (Contains-permutation sorted _ r (IsPermutation-sym _ sorted perm) (in_contains r sorted h))

-- the records to which a link leads from a set
pub linked_those : (s : State) (file : ℕ) (way : Way) (rows : List Row)
    → AreThose (file_in s file) (is_led s way rows) (all_linked s file way rows)
linked_those s file way rows r = (
  λ h. (let k = from_each to r rows h in
      let m = in_filter (test k.0) r all k.2 in
      (m.0, any_in (λ x. leads s way x.0 r.0) k.0 rows k.1 m.1)),
  λ h. (let k = in_any (λ x. leads s way x.0 r.0) rows h.1 in
      in_each to k.0 r rows k.1 (filter_in (test k.0) r all h.0 k.2)),
)
  where
    all : List Row
    all = fin.entries (file_in s file)

    test : Row → Row → Bool
    test x y = leads s way x.0 y.0

    to : Row → List Row
    to x = linked s file way x.0
