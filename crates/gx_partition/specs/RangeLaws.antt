-- Where a value stands among ascending bounds, and where keys that begin with it stand.
use Rattle.std.proofs.Common.{◌≡◌, ℕ, zero, suc, ◌≤◌, List, [], ◌∷◌, ◌++◌, length, take, Bool, true, false, Option, Some, None, refl, sym, ap, subst, ◌∙◌, arith, append-nil}
use Rattle.std.specs.Prelude.{◌&&◌, slice_get, cond, unwrap_or}
use Rattle.std.specs.List.{filter, AllByRecursion}
use Rattle.std.specs.List.Sorted.{IsStrictlySortedBy}
use Rattle.std.specs.Ordering.{nat_cmp, is_le, is_gt, ordering_then, ordering_reverse}
use Rattle.std.specs.declared.cmp.Ordering.{Ordering}
use Rattle.std.specs.declared.cmp.Ordering.TheVariants.{Less, Equal, Greater}
use Rattle.std.specs.Cmp.{IsTotalOrder}
use Rattle.std.specs.Cmp.Lexicographic.{slice_cmp, nat_list_cmp_total}
use Rattle.std.specs.FinMap as fin
use Rattle.gx_values.specs.declared.values.Kind.{Kind}
use Rattle.gx_values.specs.declared.values.Value.{Value}
use Rattle.gx_values.specs.Values.{value_cmp, Fits}
use Rattle.gx_values.specs.Keys.{bytes_of, is_inside, IsKeyKind}
use Rattle.gx_values.proofs.OrderLemmas.{value_cmp_total, longer_order}
use Rattle.gx_partition.specs.Bounds.{child_of, lower_of, upper_of}

-- ---- orders

-- an order that has an answer has no other
pub above : {A : Type 0} {R : A → A → Ordering} → IsTotalOrder R → (x y : A) → R x y ≡ Less
    → R y x ≡ Greater
above total x y less = total.antisymm y x ∙ ap ordering_reverse less

pub below : {A : Type 0} {R : A → A → Ordering} → IsTotalOrder R → (x y : A) → R x y ≡ Greater
    → R y x ≡ Less
below total x y greater = total.antisymm y x ∙ ap ordering_reverse greater

-- what stands before something at most a third stands before the third
pub before : (a b c : List ℕ) → slice_cmp nat_cmp a b ≡ Less → is_le (slice_cmp nat_cmp b c) ≡ true
    → slice_cmp nat_cmp a c ≡ Less
before a b c less at_most = by_order (slice_cmp nat_cmp b c) refl at_most
  where
    by_order : (o : Ordering) → o ≡ slice_cmp nat_cmp b c → is_le o ≡ true
        → slice_cmp nat_cmp a c ≡ Less
    by_order Less e h = nat_list_cmp_total.trans a b c less (sym e)
    by_order Equal e h =
        subst (λ (l : List ℕ). slice_cmp nat_cmp a l ≡ Less)
        (fin.slice_cmp-IsAntisymmetric fin.nat_cmp-IsAntisymmetric b c (sym e)) less
    by_order Greater e h = cc

-- ---- bounds

-- a bound above the value is above it with all those behind it
none_below : (x : Value) (xs : List Value) (v : Value)
    → AllByRecursion (λ y. value_cmp x y ≡ Less) xs → value_cmp x v ≡ Greater → child_of xs v ≡ 0
none_below x [] v later up = refl
none_below x (y ∷ ys) v later up =
    let higher : value_cmp y v ≡ Greater =
    above value_cmp_total v y
    (value_cmp_total.trans v x y (below value_cmp_total x v up) later.0) in
    ap (λ o.
    length (cond (is_le o) (y ∷ filter (λ bound. is_le (value_cmp bound v)) ys)
    (filter (λ bound. is_le (value_cmp bound v)) ys))) higher ∙ none_below x ys v later.1 up

-- how many bounds there are at or below a value, where the first one compares so with it
counted : Ordering → Value → List Value → Value → ℕ
counted o x xs v =
    length (cond (is_le o) (x ∷ filter (λ bound. is_le (value_cmp bound v)) xs)
    (filter (λ bound. is_le (value_cmp bound v)) xs))

some_same : (x b : Value) → Some x ≡ Some b → x ≡ b
some_same x b e = ap (λ (o : Option Value). unwrap_or o x) e

-- the upper bound of a value's child is above the value
pub upper_above : (bounds : List Value) (v b : Value) → IsStrictlySortedBy value_cmp bounds
    → upper_of bounds (child_of bounds v) ≡ Some b → value_cmp b v ≡ Greater
unfolding IsStrictlySortedBy counted
upper_above [] v b sorted e = cc
upper_above (x ∷ xs) v b sorted e = by_order (value_cmp x v) refl e (upper_above xs v b sorted.1)
  where
    by_order : (o : Ordering) → o ≡ value_cmp x v → slice_get (x ∷ xs) (counted o x xs v) ≡ Some b
        → (upper_of xs (child_of xs v) ≡ Some b → value_cmp b v ≡ Greater) → value_cmp b v ≡ Greater
    by_order Less is e again = again e
    by_order Equal is e again = again e
    by_order Greater is e again =
        let first : slice_get (x ∷ xs) 0 ≡ Some b =
        ap (slice_get (x ∷ xs)) (sym (none_below x xs v sorted.0 (sym is))) ∙ e in
        ap (λ y. value_cmp y v) (sym (some_same x b first)) ∙ sym is

-- the lower one isn't
pub lower_at_most : (bounds : List Value) (v b : Value) → IsStrictlySortedBy value_cmp bounds
    → lower_of bounds (child_of bounds v) ≡ Some b → is_le (value_cmp b v) ≡ true
unfolding IsStrictlySortedBy counted
lower_at_most [] v b sorted e = cc
lower_at_most (x ∷ xs) v b sorted e =
    by_order (value_cmp x v) refl e (lower_at_most xs v b sorted.1)
  where
    step : (c : ℕ) → is_le (value_cmp x v) ≡ true → slice_get (x ∷ xs) c ≡ Some b
        → (lower_of xs c ≡ Some b → is_le (value_cmp b v) ≡ true) → is_le (value_cmp b v) ≡ true
    step zero le e again = ap (λ y. is_le (value_cmp y v)) (sym (some_same x b e)) ∙ le
    step (suc c) le e again = again e

    by_order : (o : Ordering) → o ≡ value_cmp x v → lower_of (x ∷ xs) (counted o x xs v) ≡ Some b
        → (lower_of xs (child_of xs v) ≡ Some b → is_le (value_cmp b v) ≡ true)
        → is_le (value_cmp b v) ≡ true
    by_order Less is e again = step (child_of xs v) (ap is_le (sym is)) e again
    by_order Equal is e again = step (child_of xs v) (ap is_le (sym is)) e again
    by_order Greater is e again =
        let none : lower_of (x ∷ xs) 0 ≡ Some b =
        ap (lower_of (x ∷ xs)) (sym (none_below x xs v sorted.0 (sym is))) ∙ e in
        absurd (let z : None ≡ Some b = none in cc)

-- there are no more than all of them
pub child_small : (bounds : List Value) (v : Value) → child_of bounds v ≤ length bounds
unfolding counted
child_small [] v = omega arith
child_small (x ∷ xs) v = by_order (value_cmp x v) (child_small xs v)
  where
    by_order : (o : Ordering) → child_of xs v ≤ length xs → counted o x xs v ≤ suc (length xs)
    by_order Less le = omega arith
    by_order Equal le = omega arith
    by_order Greater le = omega arith

pub fits_at : (k : Kind) (bounds : List Value) (i : ℕ) (b : Value) → AllByRecursion (Fits k) bounds
    → slice_get bounds i ≡ Some b → Fits k b
fits_at k [] i b fit e = cc
fits_at k (x ∷ xs) zero b fit e = subst (Fits k) (some_same x b e) fit.0
fits_at k (x ∷ xs) (suc i) b fit e = fits_at k xs i b fit.1 e

pub lower_fits : (k : Kind) (bounds : List Value) (i : ℕ) (b : Value)
    → AllByRecursion (Fits k) bounds → lower_of bounds i ≡ Some b → Fits k b
lower_fits k bounds zero b fit e = cc
lower_fits k bounds (suc i) b fit e = fits_at k bounds i b fit e

-- ---- keys that begin with a value

pub is_greater : (o : Ordering) → is_gt o ≡ true → o ≡ Greater
is_greater Less e = cc
is_greater Equal e = cc
is_greater Greater e = refl

-- those below a bound that is at most `lo` stand before the span
pub before_span : (k : Kind) (v b : Value) (lo hi rest : List ℕ) → IsKeyKind k → Fits k v → Fits k b
    → value_cmp b v ≡ Greater → is_le (slice_cmp nat_cmp (bytes_of b) lo) ≡ true
    → is_inside lo hi (bytes_of v ++ rest) ≡ false
before_span k v b lo hi rest key f g up at_most =
    let less : slice_cmp nat_cmp (bytes_of v ++ rest) (bytes_of b) ≡ Less =
    ap (slice_cmp nat_cmp (bytes_of v ++ rest))
    (sym (append-nil (bytes_of b))) ∙ longer_order k v b rest [] key f g ∙ ap
    (λ o. ordering_then o (slice_cmp nat_cmp rest [])) (below value_cmp_total b v up) in
    let low =
    above nat_list_cmp_total (bytes_of v ++ rest) lo
    (before (bytes_of v ++ rest) (bytes_of b) lo less at_most) in
    ap (λ o. is_le o && is_le (slice_cmp nat_cmp (take (length hi) (bytes_of v ++ rest)) hi)) low

-- the fronts of two lists have their order, or are the same
pub fronts : (n : ℕ) (a c : List ℕ) → is_le (slice_cmp nat_cmp a c) ≡ true
    → is_le (slice_cmp nat_cmp (take n a) (take n c)) ≡ true
fronts zero a c le = refl
fronts (suc n) [] [] le = refl
fronts (suc n) [] (y ∷ c) le = refl
fronts (suc n) (x ∷ a) [] le = cc
fronts (suc n) (x ∷ a) (y ∷ c) le = by_order (nat_cmp x y) le (fronts n a c)
  where
    by_order : (o : Ordering) → is_le (ordering_then o (slice_cmp nat_cmp a c)) ≡ true
        → (is_le (slice_cmp nat_cmp a c) ≡ true
        → is_le (slice_cmp nat_cmp (take n a) (take n c)) ≡ true)
        → is_le (ordering_then o (slice_cmp nat_cmp (take n a) (take n c))) ≡ true
    by_order Less le again = refl
    by_order Equal le again = again le
    by_order Greater le again = cc

no_more : (o : Ordering) (rest : List ℕ) → is_le o ≡ true
    → is_le (ordering_then o (slice_cmp nat_cmp [] rest)) ≡ true
no_more Less rest le = refl
no_more Equal [] le = refl
no_more Equal (x ∷ rest) le = refl
no_more Greater rest le = cc

second_false : (a b : Bool) → b ≡ false → a && b ≡ false
second_false true b e = e
second_false false b e = refl

-- and those from a bound on, whose front is above `hi`, stand behind it
pub behind_span : (k : Kind) (v b : Value) (lo hi rest : List ℕ) → IsKeyKind k → Fits k v → Fits k b
    → is_le (value_cmp b v) ≡ true
    → is_gt (slice_cmp nat_cmp (take (length hi) (bytes_of b)) hi) ≡ true
    → is_inside lo hi (bytes_of v ++ rest) ≡ false
behind_span k v b lo hi rest key f g at_most up =
    let key_bytes = bytes_of v ++ rest in
    let whole : is_le (slice_cmp nat_cmp (bytes_of b) key_bytes) ≡ true =
    ap (λ (l : List ℕ). is_le (slice_cmp nat_cmp l key_bytes))
    (sym (append-nil (bytes_of b))) ∙ ap is_le (longer_order k b v [] rest key g f) ∙ no_more
    (value_cmp b v) rest at_most in
    let less = below nat_list_cmp_total (take (length hi) (bytes_of b)) hi (is_greater _ up) in
    let front =
    before hi (take (length hi) (bytes_of b)) (take (length hi) key_bytes) less
    (fronts (length hi) (bytes_of b) key_bytes whole) in
    second_false (is_le (slice_cmp nat_cmp lo key_bytes)) _
    (ap is_le (above nat_list_cmp_total hi (take (length hi) key_bytes) front))
