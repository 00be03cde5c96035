-- The orders of keys, records and parts, and lists that ascend.
use Rattle.std.proofs.Common.{◌≡◌, ◌<◌, ℕ, suc, Bool, true, false, cond, List, [], ◌∷◌, ◌++◌, ◌⊎◌, inl, inr, refl, sym, ap, ◌∙◌, subst, length, get_or, map, take, arith}
use Rattle.std.proofs.lemmas.Bool.{true≢false, false_from_ne_true}
use Rattle.std.proofs.lemmas.Cmp.{on_total, then_total}
use Rattle.std.proofs.lemmas.List.Sorted.{sorted_far, ranks_by}
use Rattle.std.specs.List.{filter, AllByRecursion, IsDistinct}
use Rattle.std.specs.List.Sorted.{IsSortedBy, IsStrictlySortedBy}
use Rattle.std.specs.FinMap.{slice_cmp-IsAntisymmetric}
use Rattle.std.specs.Ordering.{is_lt, is_eq, eq_by_cmp, ordering_then, ordering_reverse}
use Rattle.std.specs.declared.cmp.Ordering.{Ordering}
use Rattle.std.specs.declared.cmp.Ordering.TheVariants.{Less, Equal, Greater}
use Rattle.std.specs.Cmp.{IsTotalOrder, Equal-is, eq_by_cmp_equiv, nat_cmp_total, tied_itself}
use Rattle.gx_laws.proofs.ListLemmas.{all_places}
use Rattle.gx_values.specs.declared.values.Value.{Value}
use Rattle.gx_values.specs.declared.records.Rec.{Rec}
use Rattle.gx_values.specs.Values.{values_cmp}
use Rattle.gx_values.proofs.OrderLemmas.{value_cmp_same}
use Rattle.gx_mapping.specs.declared.parts.Part.{Part}
use Rattle.gx_mapping.specs.Rule.{In, part_cmp}
use Rattle.gx_mapping.proofs.RuleLemmas.{all_in, values_cmp_total}
use Rattle.gx_gather.specs.Gather.{rec_cmp, gather_cmp, part_for}
use Rattle.gx_gather.proofs.Lists.{in_left, in_right, in_cases, in_filter, from_map, all_of}

-- ---- total orders

pub rec_total : IsTotalOrder rec_cmp
rec_total = on_total (λ (r : Rec). r.key) values_cmp_total

pub part_total : IsTotalOrder part_cmp
part_total = then_total (on_total (λ (p : Part). p.child) nat_cmp_total)
    (on_total (λ (p : Part). p.rec.key) values_cmp_total)

pub gather_total : (width : ℕ) → IsTotalOrder (gather_cmp width)
gather_total width = then_total (on_total (λ (p : Part). take width p.rec.key) values_cmp_total)
    part_total

-- ---- keys

pub values_same : (k q : List Value) → eq_by_cmp values_cmp k q ≡ true → k ≡ q
values_same k q e = slice_cmp-IsAntisymmetric value_cmp_same k q ((Equal-is (values_cmp k q)).0 e)

pub values_itself : (k : List Value) → eq_by_cmp values_cmp k k ≡ true
values_itself k = (eq_by_cmp_equiv values_cmp_total).refl k

pub values_other : (k q : List Value) → (k ≡ q → ⊥) → eq_by_cmp values_cmp k q ≡ false
values_other k q n = false_from_ne_true _ (λ e. n (values_same k q e))

pub values_cases : (k q : List Value) → (k ≡ q) ⊎ (k ≡ q → ⊥)
values_cases k q = go (eq_by_cmp values_cmp k q) refl
  where
    go : (b : Bool) → eq_by_cmp values_cmp k q ≡ b → (k ≡ q) ⊎ (k ≡ q → ⊥)
    go true e = inl (values_same k q e)
    go false e = inr (λ is. true≢false (sym (values_itself k)
        ∙ ap (λ x. eq_by_cmp values_cmp k x) is ∙ e))

less_greater : Less ≡ Greater → ⊥
less_greater e = cc

-- nothing stands before itself
pub not_before_itself : {A : Type 0} {R : A → A → Ordering} (o : IsTotalOrder R) (x : A)
    → R x x ≡ Less → ⊥
not_before_itself o x e = less_greater (sym e ∙ o.antisymm x x ∙ ap ordering_reverse e)

pub not_both_before : {A : Type 0} {R : A → A → Ordering} (o : IsTotalOrder R) (x y : A)
    → R x y ≡ Less → R y x ≡ Less → ⊥
not_both_before o x y e f = less_greater (sym e ∙ o.antisymm x y ∙ ap ordering_reverse f)

-- a key that isn't after another, and not the same, is before it
pub before_other : (k q : List Value) → is_lt (values_cmp q k) ≡ false → (k ≡ q → ⊥)
    → values_cmp k q ≡ Less
before_other k q up apart = go (values_cmp k q) refl
  where
    go : (r : Ordering) → values_cmp k q ≡ r → values_cmp k q ≡ Less
    go Less e = e
    go Equal e = absurd (apart (slice_cmp-IsAntisymmetric value_cmp_same k q e))
    go Greater e = absurd (true≢false
        (sym (ap is_lt (values_cmp_total.antisymm q k ∙ ap ordering_reverse e)) ∙ up))

-- in the order of gathering, fronts don't fall
pub front_up : (width : ℕ) (p q : Part) → is_lt (gather_cmp width q p) ≡ false
    → is_lt (values_cmp (take width q.rec.key) (take width p.rec.key)) ≡ false
front_up width p q up = go (values_cmp (take width q.rec.key) (take width p.rec.key)) refl
  where
    go : (r : Ordering) → values_cmp (take width q.rec.key) (take width p.rec.key) ≡ r
        → is_lt (values_cmp (take width q.rec.key) (take width p.rec.key)) ≡ false
    go Less e = absurd (true≢false (sym (ap (λ o. is_lt (ordering_then o (part_cmp q p))) e) ∙ up))
    go Equal e = ap is_lt e
    go Greater e = ap is_lt e

-- among parts of one front it is the order of parts
pub front_tied : (width : ℕ) (p q : Part) → take width p.rec.key ≡ take width q.rec.key
    → gather_cmp width p q ≡ part_cmp p q
front_tied width p q same =
    ap (λ o. ordering_then o (part_cmp p q)) (ap (λ k. values_cmp k (take width q.rec.key)) same
    ∙ tied_itself values_cmp_total (take width q.rec.key))

-- ---- lists that ascend

-- each item is before all that follow it
abbrev pub Ascends : {A : Type 0} → (A → A → Ordering) → List A → Type 0
Ascends R [] = Unit {0}
Ascends R (x ∷ xs) = AllByRecursion (λ y. R x y ≡ Less) xs × Ascends R xs

pub ascends : {A : Type 0} (R : A → A → Ordering) (xs : List A) → IsStrictlySortedBy R xs
    → Ascends R xs
unfolding IsStrictlySortedBy
ascends R [] s = tt
ascends R (x ∷ xs) s = (s.0, ascends R xs s.1)

pub sorted : {A : Type 0} (R : A → A → Ordering) (xs : List A) → Ascends R xs
    → IsStrictlySortedBy R xs
unfolding IsStrictlySortedBy
sorted R [] a = tt
sorted R (x ∷ xs) a = (a.0, sorted R xs a.1)

-- two lists in order with the same members are one
pub ascends_unique : {A : Type 0} {R : A → A → Ordering} (o : IsTotalOrder R) (xs ys : List A)
    → Ascends R xs → Ascends R ys → ((x : A) → In x xs → In x ys) → ((y : A) → In y ys → In y xs)
    → xs ≡ ys
ascends_unique o [] [] a b f g = refl
ascends_unique o [] (y ∷ ys) a b f g = absurd (g y (inl refl))
ascends_unique o (x ∷ xs) [] a b f g = absurd (f x (inl refl))
ascends_unique {R = R} o (x ∷ xs) (y ∷ ys) a b f g =
    let same : x ≡ y = elim (f x (inl refl)) [
      | inl e ↦ e
      | inr h ↦ elim (g y (inl refl)) [
        | inl e ↦ sym e
        | inr k ↦ absurd (not_both_before o x y (all_in _ xs y a.0 k) (all_in _ ys x b.0 h))
      ]
    ] in
    let f' : (z : _) → In z xs → In z ys = λ z i. elim (f z (inr i)) [
      | inl e ↦ absurd (not_before_itself o x
          (subst (λ w. R x w ≡ Less) (e ∙ sym same) (all_in _ xs z a.0 i)))
      | inr k ↦ k
    ] in
    let g' : (z : _) → In z ys → In z xs = λ z i. elim (g z (inr i)) [
      | inl e ↦ absurd (not_before_itself o y
          (subst (λ w. R y w ≡ Less) (e ∙ same) (all_in _ ys z b.0 i)))
      | inr k ↦ k
    ] in
    λ i. same i ∷ ascends_unique o xs ys a.1 b.1 f' g' i

pub ascends_append : {A : Type 0} {R : A → A → Ordering} (xs ys : List A) → Ascends R xs
    → Ascends R ys → ((x y : A) → In x xs → In y ys → R x y ≡ Less) → Ascends R (xs ++ ys)
ascends_append [] ys a b h = b
ascends_append {R = R} (x ∷ xs) ys a b h = (
  all_of _ (xs ++ ys) (λ z i. elim (in_cases z xs ys i)
      [ inl k ↦ all_in (λ y. R x y ≡ Less) xs z a.0 k | inr k ↦ h x z (inl refl) k ]),
  ascends_append xs ys a.1 b (λ y z i k. h y z (inr i) k),
)

pub ascends_filter : {A : Type 0} (R : A → A → Ordering) (p : A → Bool) (xs : List A) → Ascends R xs
    → Ascends R (filter p xs)
ascends_filter R p [] a = tt
ascends_filter {A = A} R p (x ∷ xs) a = go (p x) (ascends_filter R p xs a.1)
  where
    go : (b : Bool) → Ascends R (filter p xs) → Ascends R (cond b (x ∷ filter p xs) (filter p xs))
    go true rest = (
      all_of _ (filter p xs)
          (λ y i. all_in (λ y. R x y ≡ Less) xs y a.0 (in_filter p y xs i).0),
      rest,
    )
    go false rest = rest

-- a part of a list in order, in an order that agrees there
pub ascends_middle : {A : Type 0} (R : A → A → Ordering) (xs ys zs : List A)
    → Ascends R (xs ++ (ys ++ zs)) → Ascends R ys
ascends_middle R [] [] zs a = tt
ascends_middle R [] (y ∷ ys) zs a = (
  all_of _ ys (λ z i. all_in (λ w. R y w ≡ Less) (ys ++ zs) z a.0 (in_left z ys zs i)),
  ascends_middle R [] ys zs a.1,
)
ascends_middle R (x ∷ xs) ys zs a = ascends_middle R xs ys zs a.1

pub ascends_by : {A : Type 0} {R S : A → A → Ordering} (xs : List A)
    → ((x y : A) → In x xs → In y xs → R x y ≡ S x y) → Ascends R xs → Ascends S xs
ascends_by [] same a = tt
ascends_by {R = R} {S = S} (x ∷ xs) same a = (
  all_of _ xs (λ y i. sym (same x y (inl refl) (inr i)) ∙ all_in (λ w. R x w ≡ Less) xs y a.0 i),
  ascends_by xs (λ y z i k. same y z (inr i) (inr k)) a.1,
)

-- of two records of such a list with one key
pub ascends_once : (xs : List Rec) (r s : Rec) → Ascends rec_cmp xs → In r xs → In s xs
    → r.key ≡ s.key → r ≡ s
ascends_once [] r s a i k e = absurd i
ascends_once (x ∷ xs) r s a (inl i) (inl k) e = i ∙ sym k
ascends_once (x ∷ xs) r s a (inl i) (inr k) e =
    absurd (not_before_itself rec_total s
    (subst (λ q. values_cmp q s.key ≡ Less) (ap (λ (y : Rec). y.key) (sym i) ∙ e)
    (all_in (λ y. rec_cmp x y ≡ Less) xs s a.0 k)))
ascends_once (x ∷ xs) r s a (inr i) (inl k) e =
    absurd (not_before_itself rec_total r
    (subst (λ q. values_cmp q r.key ≡ Less) (ap (λ (y : Rec). y.key) (sym k) ∙ sym e)
    (all_in (λ y. rec_cmp x y ≡ Less) xs r a.0 i)))
ascends_once (x ∷ xs) r s a (inr i) (inr k) e = ascends_once xs r s a.1 i k e

-- the records of one child are its parts in order
pub child_ascends : (c : ℕ) (found : List Rec) → Ascends rec_cmp found
    → Ascends part_cmp (map (part_for c) found)
child_ascends c [] a = tt
child_ascends c (r ∷ rs) a = (
  all_of _ (map (part_for c) rs) (λ p i.
      let q = from_map (part_for c) p rs i in
      let less = all_in (λ y. rec_cmp r y ≡ Less) rs q.0 a.0 q.1 in
      subst (λ y. part_cmp (part_for c r) y ≡ Less) (sym q.2)
      (ap (λ o. ordering_then o (values_cmp r.key q.0.key)) (tied_itself nat_cmp_total c)
      ∙ less)),
  child_ascends c rs a.1,
)

-- ---- lists that don't fall

abbrev pub Rises : {A : Type 0} → (A → A → Ordering) → List A → Type 0
Rises R [] = Unit {0}
Rises R (x ∷ xs) = AllByRecursion (λ y. is_lt (R y x) ≡ false) xs × Rises R xs

rises_by_numbers : {A : Type 0} (R : A → A → Ordering) (xs : List A)
    → ((i j : ℕ) (d : A) → i < j → j < length xs
    → is_lt (R (get_or xs j d) (get_or xs i d)) ≡ false) → Rises R xs
rises_by_numbers R [] up = tt
rises_by_numbers R (x ∷ xs) up = (
  all_places (λ y. is_lt (R y x) ≡ false) x xs (λ i lt. up 0 (suc i) x (omega arith) (omega arith)),
  rises_by_numbers R xs (λ i j d lt h. up (suc i) (suc j) d (omega arith) (omega arith)),
)

pub rises : {A : Type 0} {R : A → A → Ordering} (o : IsTotalOrder R) (xs : List A)
    → IsSortedBy (λ a b. is_lt (R a b)) xs → Rises R xs
rises {A} {R} o xs up =
    rises_by_numbers R xs (λ i j d lt h. sorted_far (λ (a b : A). is_lt (R a b))
    (ranks_by o (λ (x : A). x)) xs up i j d (omega arith) h)

-- an item of the first part isn't after one of the last
pub rises_across : {A : Type 0} (R : A → A → Ordering) (xs ys : List A) (x y : A)
    → Rises R (xs ++ ys) → In x xs → In y ys → is_lt (R y x) ≡ false
rises_across R [] ys x y a i k = absurd i
rises_across R (z ∷ xs) ys x y a (inl e) k =
    subst (λ w. is_lt (R y w) ≡ false) (sym e)
    (all_in (λ w. is_lt (R w z) ≡ false) (xs ++ ys) y a.0 (in_right y xs ys k))
rises_across R (z ∷ xs) ys x y a (inr i) k = rises_across R xs ys x y a.1 i k

pub rises_last : {A : Type 0} (R : A → A → Ordering) (xs ys : List A) → Rises R (xs ++ ys)
    → Rises R ys
rises_last R [] ys a = a
rises_last R (x ∷ xs) ys a = rises_last R xs ys a.1

-- without ties, in an order that ties wherever this one does, it ascends
pub rises_ascends : {A : Type 0} {R S : A → A → Ordering} (o : IsTotalOrder R)
    → ((x y : A) → R x y ≡ Equal → S x y ≡ Equal) → (xs : List A) → Rises R xs
    → IsDistinct (eq_by_cmp S) xs → Ascends R xs
unfolding IsDistinct
rises_ascends o ties [] a apart = tt
rises_ascends {R = R} {S = S} o ties (x ∷ xs) a apart = (
  all_of _ xs (λ y i. go y (R x y) refl (all_in (λ w. is_lt (R w x) ≡ false) xs y a.0 i)
      (all_in (λ w. eq_by_cmp S x w ≡ false) xs y apart.0 i)),
  rises_ascends o ties xs a.1 apart.1,
)
  where
    go : (y : _) (r : Ordering) → R x y ≡ r → is_lt (R y x) ≡ false → eq_by_cmp S x y ≡ false
        → R x y ≡ Less
    go y Less e up apart = e
    go y Equal e up apart = absurd (true≢false (sym (ap is_eq (ties x y e)) ∙ apart))
    go y Greater e up apart =
        absurd (true≢false (sym (ap is_lt (o.antisymm y x ∙ ap ordering_reverse e)) ∙ up))

-- where parts tie in the order of gathering, they tie in the order of parts
pub gather_ties : (width : ℕ) (p q : Part) → gather_cmp width p q ≡ Equal → part_cmp p q ≡ Equal
gather_ties width p q e = go (values_cmp (take width p.rec.key) (take width q.rec.key)) refl
  where
    go : (r : Ordering) → values_cmp (take width p.rec.key) (take width q.rec.key) ≡ r
        → part_cmp p q ≡ Equal
    go Less f = (let h : Less ≡ Equal = sym (ap (λ o. ordering_then o (part_cmp p q)) f) ∙ e in cc)
    go Equal f = sym (ap (λ o. ordering_then o (part_cmp p q)) f) ∙ e
    go Greater f = (let h : Greater ≡ Equal = sym (ap (λ o. ordering_then o (part_cmp p q)) f)
        ∙ e in cc)
