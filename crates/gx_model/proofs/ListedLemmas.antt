-- The listing of records in an order: a sort gives it, and there is one alone.
use Rattle.std.proofs.Common.{◌≡◌, ℕ, zero, suc, ◌<◌, ◌≢◌, List, [], ◌∷◌, length, get_or, cond, Bool, true, false, refl, sym, ap, subst, ◌∙◌, arith}
use Rattle.std.specs.Prelude.{T, filter, ◌⊎◌}
use Rattle.std.proofs.Common.{inl, inr, set}
use Rattle.std.specs.List.{AllByRecursion, Contains, swap}
use Rattle.std.specs.FinMap as fin
use Rattle.std.specs.FinMap.Entries.{below_all}
use Rattle.std.proofs.lemmas.Bool.{cases_eq}
use Rattle.std.proofs.lemmas.List.{get_or-set_same, get_or-set_other, length-set}
use Rattle.std.proofs.lemmas.List.Edits.{swap_is, length-swap}
use Rattle.gx_laws.proofs.ListLemmas.{all_filter, all_places}
use Rattle.gx_laws.proofs.BoolLemmas.{first_of_both, second_of_both}
use Rattle.gx_laws.proofs.OrderingLemmas.{is_less, second_equal}
use Rattle.gx_values.specs.declared.values.Value.{Value}
use Rattle.std.specs.List.Sorted.{IsSortedBy, IsPermutation}
use Rattle.std.specs.Ordering.{is_lt, ordering_reverse}
use Rattle.std.specs.declared.cmp.Ordering.{Ordering}
use Rattle.std.specs.declared.cmp.Ordering.TheVariants.{Less, Equal, Greater}
use Rattle.std.specs.Cmp.{IsTotalOrder, on_total, back_total, then_total, tied_itself}
use Rattle.std.proofs.lemmas.List.Sorted.{sorted_far, ranks_by, IsPermutation-keeps, IsPermutation-sym, Contains-permutation}
use Rattle.gx_commands.specs.declared.command.OrderBy.{OrderBy}
use Rattle.gx_values.specs.Values.{value_cmp}
use Rattle.gx_values.proofs.OrderLemmas.{value_cmp_total}
use Rattle.gx_model.specs.States.{Row, File}
use Rattle.gx_model.specs.Found.{value_at, turned, row_cmp, Ascends, IsListed}

turned_total : (desc : Bool) (R : Row → Row → Ordering) → IsTotalOrder R
    → IsTotalOrder (λ (a b : Row). turned desc (R a b))
turned_total true R o = subst IsTotalOrder (λ i a b. o.antisymm b a i) (back_total o)
turned_total false R o = o

pub row_cmp_total : (o : OrderBy) → IsTotalOrder (row_cmp o)
row_cmp_total o = then_total
    (turned_total o.desc _ (on_total (λ (r : Row). value_at r o.field) value_cmp_total))
    (on_total (λ (r : Row). r.0) value_cmp_total)

before : (r s : Ordering) → s ≡ ordering_reverse r → is_lt s ≡ false → r ≢ Equal → r ≡ Less
before Less s e n t = refl
before Equal s e n t = absurd (t refl)
before Greater s e n t = let x : true ≡ false = sym (ap is_lt e) ∙ n in cc

-- no two places tie
abbrev pub NoTies : {A : Type 0} → (A → A → Ordering) → List A → Type 0
NoTies {A} R xs = (i j : ℕ) (d : A) → i < j → j < length xs
    → R (get_or xs i d) (get_or xs j d) ≢ Equal

-- a sorted list without ties ascends
pub sorted_ascends : {A : Type 0} (R : A → A → Ordering) → IsTotalOrder R → (xs : List A)
    → ((i j : ℕ) (d : A) → i < j → j < length xs
    → is_lt (R (get_or xs j d) (get_or xs i d)) ≡ false) → NoTies R xs → Ascends R xs
sorted_ascends R o [] up apart = tt
sorted_ascends {A} R o (x ∷ xs) up apart = (
  all_places (λ (y : A). R x y ≡ Less) x xs
      (λ i lt. before (R x (get_or xs i x)) (R (get_or xs i x) x) (o.antisymm (get_or xs i x) x)
      (up 0 (suc i) x (omega arith) (omega arith))
      (apart 0 (suc i) x (omega arith) (omega arith))),
  sorted_ascends R o xs (λ i j d lt h. up (suc i) (suc j) d (omega arith) (omega arith))
      (λ i j d lt h. apart (suc i) (suc j) d (omega arith) (omega arith)),
)

pub rows_ascend : (o : OrderBy) (xs : List Row) → IsSortedBy (λ a b. is_lt (row_cmp o a b)) xs
    → NoTies (row_cmp o) xs → Ascends (row_cmp o) xs
rows_ascend o xs up apart =
    sorted_ascends (row_cmp o) (row_cmp_total o) xs
    (λ i j d lt h. sorted_far (λ (a b : Row). is_lt (row_cmp o a b))
    (ranks_by (row_cmp_total o) (λ (r : Row). r)) xs up i j d (omega arith) h) apart

-- ---- records with different keys, in any order

abbrev by_key : Row → Row → Ordering
by_key a b = value_cmp a.0 b.0

abbrev pub HasOnce : List Row → Type 0
HasOnce xs = (i j : ℕ) (d : Row) → i < length xs → j < length xs
    → by_key (get_or xs i d) (get_or xs j d) ≡ Equal → i ≡ j

all_below : (x : Value) (xs : List Row) → T (below_all value_cmp x xs)
    → AllByRecursion (λ (y : Row). value_cmp x y.0 ≡ Less) xs
all_below x [] h = tt
all_below x (y ∷ xs) h = (is_less _ (first_of_both _ _ h), all_below x xs (second_of_both _ _ h))

-- the records of a map ascend by their keys
ascends_of : (xs : List Row) → T (fin.is_sorted value_cmp xs) → Ascends by_key xs
ascends_of [] h = tt
ascends_of (x ∷ xs) h =
    (all_below x.0 xs (first_of_both _ _ h), ascends_of xs (second_of_both _ _ h))

ascends_filter : (p : Row → Bool) (xs : List Row) → Ascends by_key xs → Ascends by_key (filter p xs)
ascends_filter p [] h = tt
ascends_filter p (x ∷ xs) h =
    elim (p x) as (λ b. Ascends by_key (cond b (x ∷ filter p xs) (filter p xs))) [
      | true ↦ (all_filter (λ y. by_key x y ≡ Less) p xs h.0, ascends_filter p xs h.1)
      | false ↦ ascends_filter p xs h.1
    ]

all_at : (P : Row → Type 0) (xs : List Row) (i : ℕ) (d : Row) → AllByRecursion P xs → i < length xs
    → P (get_or xs i d)
all_at P [] i d h lt = absurd (omega arith)
all_at P (x ∷ xs) zero d h lt = h.0
all_at P (x ∷ xs) (suc i) d h lt = all_at P xs i d h.1 (omega arith)

once_of : (xs : List Row) → Ascends by_key xs → HasOnce xs
once_of [] h i j d lt lu e = absurd (omega arith)
once_of (x ∷ xs) h zero zero d lt lu e = refl
once_of (x ∷ xs) h zero (suc j) d lt lu e = let l : by_key x (get_or xs j d) ≡ Less =
    all_at (λ y. by_key x y ≡ Less) xs j d h.0 (omega arith) in let c : Less ≡ Equal = sym l ∙ e in
    cc
once_of (x ∷ xs) h (suc i) zero d lt lu e =
    let l : by_key x (get_or xs i d) ≡ Less =
    all_at (λ y. by_key x y ≡ Less) xs i d h.0 (omega arith) in
    let c : Greater ≡ Equal = sym (ap ordering_reverse l)
    ∙ sym (value_cmp_total.antisymm (get_or xs i d).0 x.0) ∙ e in cc
once_of (x ∷ xs) h (suc i) (suc j) d lt lu e =
    ap suc (once_of xs h.1 i j d (omega arith) (omega arith) e)

-- what stands at a place after two have changed places
data Place (l : List Row) (a b k : ℕ) (d : Row) : Type 0 where
  at_b : k ≡ b → get_or (swap l a b) k d ≡ get_or l a d → Place l a b k d
  at_a : k ≢ b → k ≡ a → get_or (swap l a b) k d ≡ get_or l b d → Place l a b k d
  else : k ≢ b → k ≢ a → get_or (swap l a b) k d ≡ get_or l k d → Place l a b k d

place_of : (l : List Row) (a b k : ℕ) (d : Row) → a < length l → b < length l → Place l a b k d
place_of l a b k d la lb =
    let is : get_or (swap l a b) k d ≡ get_or (set (set l a (get_or l b d)) b (get_or l a d)) k d =
    ap (λ (x : List Row). get_or x k d) (sym (swap_is l a b d la lb)) in
    elim (cases_eq k b) as (λ _. Place l a b k d) [
      | inl e ↦ at_b e (is ∙ ap (λ n. get_or (set (set l a (get_or l b d)) b (get_or l a d)) n d) e
          ∙ get_or-set_same (set l a (get_or l b d)) b (get_or l a d) d
          (omega (arith, length-set l a (get_or l b d))))
      | inr n ↦ elim (cases_eq k a) as (λ _. Place l a b k d) [
        | inl e ↦ at_a n e (is ∙ get_or-set_other (set l a (get_or l b d)) b k (get_or l a d) d n
            ∙ ap (λ m. get_or (set l a (get_or l b d)) m d) e
            ∙ get_or-set_same l a (get_or l b d) d la)
        | inr m ↦ else n m (is ∙ get_or-set_other (set l a (get_or l b d)) b k (get_or l a d) d n
            ∙ get_or-set_other l a k (get_or l b d) d m)
      ]
    ]

joined : (x y u v : Row) → x ≡ u → y ≡ v → by_key x y ≡ Equal → by_key u v ≡ Equal
joined x y u v p q e = subst (λ (z : Row). by_key z v ≡ Equal) p
    (subst (λ (z : Row). by_key x z ≡ Equal) q e)

once_swap : (l : List Row) (a b : ℕ) → a < length l → b < length l → HasOnce l
    → HasOnce (swap l a b)
once_swap l a b la lb once i j d lt lu e =
    let li : i < length l = omega (arith, length-swap l a b) in
    let lj : j < length l = omega (arith, length-swap l a b) in
    here (place_of l a b i d la lb) (place_of l a b j d la lb) li lj
  where
    here : Place l a b i d → Place l a b j d → i < length l → j < length l → i ≡ j
    here (at_b p x) (at_b q y) li lj = p ∙ sym q
    here (at_b p x) (at_a n q y) li lj = let s : a ≡ b = once a b d la lb (joined _ _ _ _ x y e) in
        omega arith
    here (at_b p x) (else n m y) li lj = let s : a ≡ j = once a j d la lj (joined _ _ _ _ x y e) in
        absurd (m (sym s))
    here (at_a n p x) (at_b q y) li lj = let s : b ≡ a = once b a d lb la (joined _ _ _ _ x y e) in
        omega arith
    here (at_a n p x) (at_a m q y) li lj = p ∙ sym q
    here (at_a n p x) (else m o y) li lj = let s : b ≡ j = once b j d lb lj (joined _ _ _ _ x y e)
        in absurd (m (sym s))
    here (else n m x) (at_b q y) li lj = let s : i ≡ a = once i a d li la (joined _ _ _ _ x y e) in
        absurd (m s)
    here (else n m x) (at_a o q y) li lj = let s : i ≡ b = once i b d li lb (joined _ _ _ _ x y e)
        in absurd (n s)
    here (else n m x) (else o p y) li lj = once i j d li lj (joined _ _ _ _ x y e)

once_permuted : (xs ys : List Row) → IsPermutation xs ys → HasOnce xs → HasOnce ys
once_permuted xs ys p once =
    IsPermutation-keeps xs HasOnce once (λ l a b la lb h. once_swap l a b la lb h) ys p

no_ties : (o : OrderBy) (xs : List Row) → HasOnce xs → NoTies (row_cmp o) xs
no_ties o xs once i j d lt h e =
    let same : i ≡ j = once i j d (omega arith) h
    (second_equal (turned o.desc
    (value_cmp (value_at (get_or xs i d) o.field) (value_at (get_or xs j d) o.field))) _ e)
    in
    absurd (omega arith)

-- the records of a file that pass a test, sorted by an order, are listed in it
pub is_listed : (f : File) (test : Row → Bool) (o : OrderBy) (rows : List Row)
    → IsPermutation (filter test (fin.entries f)) rows
    → IsSortedBy (λ a b. is_lt (row_cmp o a b)) rows → IsListed f test o rows
is_listed f test o rows those up = record {
  those = those;
  in_order = rows_ascend o rows up
      (no_ties o rows (once_permuted _ rows those
      (once_of _ (ascends_filter test (fin.entries f)
      (ascends_of (fin.entries f) (fin.entries_sorted f))))));
}

-- ---- there is one list

never_less : (r s : Ordering) → s ≡ ordering_reverse r → r ≡ Less → s ≡ Less → ⊥
never_less Less s e p q = let x : Greater ≡ Less = sym e ∙ q in absurd cc
never_less Equal s e p q = absurd cc
never_less Greater s e p q = absurd cc

less_at : {A : Type 0} (R : A → A → Ordering) (x : A) (ys : List A) (k : ℕ) (d : A)
    → AllByRecursion (λ y. R x y ≡ Less) ys → k < length ys → R x (get_or ys k d) ≡ Less
less_at R x [] k d h lt = absurd (omega arith)
less_at R x (y ∷ ys) zero d h lt = h.0
less_at R x (y ∷ ys) (suc k) d h lt = less_at R x ys k d h.1 (omega arith)

later_or_here : {A : Type 0} (R : A → A → Ordering) (x : A) (xs : List A) (z : A)
    → AllByRecursion (λ y. R x y ≡ Less) xs → Contains (x ∷ xs) z
    → (x ≡ z) ⊎ ((R x z ≡ Less) × Contains xs z)
later_or_here R x xs z h (zero, lt, e) = inl e
later_or_here {A} R x xs z h (suc k, lt, e) =
    inr (
      subst (λ (y : A). R x y ≡ Less) e (less_at R x xs k z h (omega arith)),
      (k, omega arith, e),
    )

never_itself : {A : Type 0} (R : A → A → Ordering) → IsTotalOrder R → (x : A) → R x x ≡ Less → ⊥
never_itself R o x e = let c : Equal ≡ Less = sym (tied_itself o x) ∙ e in absurd cc

-- two ascending lists of the same are one
same_ascending : {A : Type 0} (R : A → A → Ordering) → IsTotalOrder R → (xs ys : List A)
    → Ascends R xs → Ascends R ys → ((z : A) → Contains xs z → Contains ys z)
    → ((z : A) → Contains ys z → Contains xs z) → xs ≡ ys
same_ascending R o [] [] a b f g = refl
same_ascending R o [] (y ∷ ys) a b f g = let h = g y (0, omega arith, refl) in
    absurd (omega (arith, h.1))
same_ascending R o (x ∷ xs) [] a b f g = let h = f x (0, omega arith, refl) in
    absurd (omega (arith, h.1))
same_ascending {A} R o (x ∷ xs) (y ∷ ys) a b f g =
    let first : x ≡ y = elim (later_or_here R y ys x b.0 (f x (0, omega arith, refl))) as
    (λ _. x ≡ y) [
      | inl e ↦ sym e
      | inr later ↦ elim (later_or_here R x xs y a.0 (g y (0, omega arith, refl))) as (λ _. x ≡ y) [
        | inl e ↦ e
        | inr also ↦ absurd (never_less (R x y) (R y x) (o.antisymm y x) also.0 later.0)
      ]
    ] in
    let rest : xs ≡ ys = same_ascending R o xs ys a.1 b.1
    (λ z h. within x xs y ys z first a.0 b.0 h (f z (next x xs z h)))
    (λ z h. within y ys x xs z (sym first) b.0 a.0 h (g z (next y ys z h))) in
    λ i. first i ∷ rest i
  where
    next : (x : A) (xs : List A) (z : A) → Contains xs z → Contains (x ∷ xs) z
    next x xs z (k, lt, e) = (suc k, omega arith, e)

    less_in : (x : A) (xs : List A) (z : A) → AllByRecursion (λ y. R x y ≡ Less) xs → Contains xs z
        → R x z ≡ Less
    less_in x xs z h (k, lt, e) = subst (λ (y : A). R x y ≡ Less) e (less_at R x xs k z h lt)

    within : (x : A) (xs : List A) (y : A) (ys : List A) (z : A) → x ≡ y
        → AllByRecursion (λ w. R x w ≡ Less) xs → AllByRecursion (λ w. R y w ≡ Less) ys
        → Contains xs z → Contains (y ∷ ys) z → Contains ys z
    within x xs y ys z same a b c d = elim (later_or_here R y ys z b d) as (λ _. Contains ys z) [
      | inl e ↦ absurd (never_itself R o z
          (subst (λ (w : A). R w z ≡ Less) (same ∙ e) (less_in x xs z a c)))
      | inr l ↦ l.1
    ]

-- the records that pass a test are listed in one way
pub listed_once : (f : File) (test : Row → Bool) (o : OrderBy) (xs ys : List Row)
    → IsListed f test o xs → IsListed f test o ys → xs ≡ ys
listed_once f test o xs ys a b =
    same_ascending (row_cmp o) (row_cmp_total o) xs ys a.in_order b.in_order
    (λ z c. Contains-permutation _ ys z b.those
    (Contains-permutation xs _ z (IsPermutation-sym _ xs a.those) c))
    (λ z c. Contains-permutation _ xs z a.those
    (Contains-permutation ys _ z (IsPermutation-sym _ ys b.those) c))
