-- Which children of a partition by the key are searched.
use Rattle.std.proofs.Common.{◌≡◌, ℕ, zero, suc, ◌<◌, ◌≤◌, ◌⊎◌, List, [], ◌∷◌, length, take, get_or, Bool, true, false, Some, None, inl, inr, refl, sym, ap, ◌∙◌, arith}
use Rattle.std.specs.Prelude.{◌||◌, ◌&&◌, not, slice_get}
use Rattle.std.proofs.lemmas.Bool.{true≢false}
use Rattle.std.specs.List.{AllByRecursion}
use Rattle.std.specs.List.Sorted.{IsStrictlySortedBy, IsPartitionedBy, IsPartitionPoint}
use Rattle.std.specs.Ordering.{nat_cmp, is_le, is_gt}
use Rattle.std.specs.declared.cmp.Ordering.TheVariants.{Less}
use Rattle.std.specs.Cmp.Lexicographic.{slice_cmp, nat_list_cmp_total}
use Rattle.gx_values.specs.declared.values.Kind.{Kind}
use Rattle.gx_values.specs.declared.values.Value.{Value}
use Rattle.gx_values.specs.declared.records.Form.{Form}
use Rattle.gx_values.specs.declared.keys.Span.{Span}
use Rattle.gx_values.specs.Values.{value_cmp, Fits}
use Rattle.gx_values.specs.Keys.{bytes_of, IsKeyKind}
use Rattle.gx_values.proofs.OrderLemmas.{key_order}
use Rattle.gx_mapping.specs.Searched.{IsAlone, is_searched}
use Rattle.gx_mapping.proofs.SearchLemmas.{two_searched, none_searched}
use Rattle.gx_partition.specs.declared.place.Where.{Where}
use Rattle.gx_partition.specs.declared.place.Where.TheVariants.{Key}
use Rattle.gx_partition.specs.Places.{kind_at}
use Rattle.gx_partition.specs.Bounds.{IsPartition, lower_of, upper_of, ends_before, begins_after}
use Rattle.gx_partition.specs.RangeLaws.{above, below, before, is_greater, fronts}
use Rattle.gx_partition.specs.Rules.{partition_rule, is_outside}
use Rattle.gx_partition.proofs.PlaceLemmas.{each_at}

-- ---- items of lists

got : (xs : List Value) (i : ℕ) (d : Value) → i < length xs → slice_get xs i ≡ Some (get_or xs i d)
got [] i d lt = absurd (omega arith)
got (x ∷ xs) zero d lt = refl
got (x ∷ xs) (suc i) d lt = got xs i d (omega arith)

none_got : (xs : List Value) (i : ℕ) → length xs ≤ i → slice_get xs i ≡ None
none_got [] i le = refl
none_got (x ∷ xs) zero le = absurd (omega arith)
none_got (x ∷ xs) (suc i) le = none_got xs i (omega arith)

pub got_below : (xs : List Value) (i : ℕ) (b : Value) → slice_get xs i ≡ Some b → i < length xs
got_below [] i b e = cc
got_below (x ∷ xs) zero b e = omega arith
got_below (x ∷ xs) (suc i) b e = let lt = got_below xs i b e in omega arith

cases : (m n : ℕ) → (m < n) ⊎ ((m ≡ n) ⊎ (n < m))
cases zero zero = inr (inl refl)
cases zero (suc n) = inl (omega arith)
cases (suc m) zero = inr (inr (omega arith))
cases (suc m) (suc n) = elim (cases m n) [
  | inl l ↦ inl (omega arith)
  | inr o ↦ elim o [ inl e ↦ inr (inl (ap suc e)) | inr g ↦ inr (inr (omega arith)) ]
]

-- ---- bounds and the ends of a span

module _ (k : Kind) (key : IsKeyKind k) where
  less_bytes : (x y : Value) → Fits k x → Fits k y → value_cmp x y ≡ Less
      → slice_cmp nat_cmp (bytes_of x) (bytes_of y) ≡ Less
  less_bytes x y f g less = key_order k x y key f g ∙ less

  -- a bound that is at most `lo` has those before it so too
  earlier : (x y : Value) (lo : List ℕ) → Fits k x → Fits k y → value_cmp x y ≡ Less
      → ends_before (Some y) lo ≡ true → ends_before (Some x) lo ≡ true
  earlier x y lo f g less ends =
      ap is_le (before (bytes_of x) (bytes_of y) lo (less_bytes x y f g less) ends)

  pub ends_parted : (bounds : List Value) (lo : List ℕ) → AllByRecursion (Fits k) bounds
      → IsStrictlySortedBy value_cmp bounds
      → IsPartitionedBy (λ bound. ends_before (Some bound) lo) bounds
  unfolding IsStrictlySortedBy
  ends_parted [] lo fit sorted i j d le lt up = absurd (omega arith)
  ends_parted (x ∷ xs) lo fit sorted zero zero d le lt up = up
  ends_parted (x ∷ xs) lo fit sorted zero (suc j) d le lt up =
      earlier x (get_or xs j d) lo fit.0 (each_at (Fits k) xs j d fit.1 (omega arith))
      (each_at (λ y. value_cmp x y ≡ Less) xs j d sorted.0 (omega arith)) up
  ends_parted (x ∷ xs) lo fit sorted (suc i) zero d le lt up = absurd (omega arith)
  ends_parted (x ∷ xs) lo fit sorted (suc i) (suc j) d le lt up =
      ends_parted xs lo fit.1 sorted.1 i j d (omega arith) (omega arith) up

  -- a bound that stands behind `hi` has those behind it so too
  later : (x y : Value) (hi : List ℕ) → Fits k x → Fits k y → value_cmp x y ≡ Less
      → begins_after (Some x) hi ≡ true → begins_after (Some y) hi ≡ true
  later x y hi f g less begins =
      let n = length hi in
      let at_most : is_le (slice_cmp nat_cmp (bytes_of x) (bytes_of y)) ≡ true =
      ap is_le (less_bytes x y f g less) in
      let front = fronts n (bytes_of x) (bytes_of y) at_most in
      let down = below nat_list_cmp_total (take n (bytes_of x)) hi (is_greater _ begins) in
      ap is_gt (above nat_list_cmp_total hi (take n (bytes_of y))
      (before hi (take n (bytes_of x)) (take n (bytes_of y)) down front))

  begins_later : (xs : List Value) (hi : List ℕ) (i j : ℕ) → AllByRecursion (Fits k) xs
      → IsStrictlySortedBy value_cmp xs → i ≤ j → j < length xs
      → begins_after (slice_get xs i) hi ≡ true → begins_after (slice_get xs j) hi ≡ true
  unfolding IsStrictlySortedBy
  begins_later [] hi i j fit sorted le lt begins = absurd (omega arith)
  begins_later (x ∷ xs) hi zero zero fit sorted le lt begins = begins
  begins_later (x ∷ xs) hi zero (suc j) fit sorted le lt begins =
      ap (λ o. begins_after o hi) (got xs j x (omega arith))
      ∙ later x (get_or xs j x) hi fit.0 (each_at (Fits k) xs j x fit.1 (omega arith))
      (each_at (λ y. value_cmp x y ≡ Less) xs j x sorted.0 (omega arith)) begins
  begins_later (x ∷ xs) hi (suc i) zero fit sorted le lt begins = absurd (omega arith)
  begins_later (x ∷ xs) hi (suc i) (suc j) fit sorted le lt begins =
      begins_later xs hi i j fit.1 sorted.1 (omega arith) (omega arith) begins

-- ---- the first child that may have keys from `lo` on

module _ (form : Form) (bounds : List Value) (sound : IsPartition form (Key 0) bounds) (span : Span)
    (c : ℕ) (few : c ≤ length bounds)
    (point : IsPartitionPoint (λ bound. ends_before (Some bound) span.lo ≡ true)
    (λ bound. ends_before (Some bound) span.lo ≡ false) bounds c) where
  by_tests : (a b : Bool) → a ≡ false → b ≡ false → true && not (a || b) ≡ true
  by_tests true b e f = cc
  by_tests false true e f = cc
  by_tests false false e f = refl

  by_first : (a b : Bool) → a ≡ true → true && not (a || b) ≡ false
  by_first true b e = refl
  by_first false b e = cc

  by_second : (a b : Bool) → b ≡ true → true && not (a || b) ≡ false
  by_second true b e = refl
  by_second false true e = refl
  by_second false false e = cc

  before_first : (d : ℕ) → d < c → is_searched (partition_rule form (Key 0) bounds) span d ≡ false
  before_first d lt = by_first _ _
      (elim bounds as (λ (bs : List Value). bs ≡ bounds
      → ends_before (upper_of bounds d) span.lo ≡ true) [
        | [] ↦ λ e. absurd (omega (arith, few, lt, ap length e))
        | x ∷ xs ↦ λ e. ap (λ o. ends_before o span.lo) (got bounds d x (omega (arith, few, lt)))
            ∙ point.0 d x (omega arith) lt
      ] refl)

  from_first : (d : ℕ) → c ≤ d → ends_before (upper_of bounds d) span.lo ≡ false
  from_first d le = elim (cases d (length bounds)) [
    | inl lt ↦ elim bounds as (λ (bs : List Value). bs ≡ bounds
        → ends_before (upper_of bounds d) span.lo ≡ false) [
          | [] ↦ λ e. absurd (omega (arith, lt, ap length e))
          | x ∷ xs ↦ λ e. ap (λ o. ends_before o span.lo) (got bounds d x lt) ∙ point.1 d x le lt
        ] refl
    | inr o ↦ ap (λ o. ends_before o span.lo)
        (none_got bounds d (elim o [ inl e ↦ omega (arith, e) | inr g ↦ omega (arith, g) ]))
  ]

  first_searched : begins_after (lower_of bounds c) span.hi ≡ false
      → is_searched (partition_rule form (Key 0) bounds) span c ≡ true
  first_searched begins = by_tests _ _ (from_first c (omega arith)) begins

  -- where its upper bound stands behind the span, it is searched alone
  pub alone_first : begins_after (lower_of bounds c) span.hi ≡ false
      → ((b : Value) → upper_of bounds c ≡ Some b → begins_after (Some b) span.hi ≡ true)
      → IsAlone (partition_rule form (Key 0) bounds) span c
  alone_first begins ends = (
    (
      (let le = few in omega (arith, le)),
      first_searched begins,
      λ d below apart. elim (cases d c) [
        | inl lt ↦ before_first d lt
        | inr o ↦ elim o [
          | inl e ↦ absurd (apart e)
          | inr gt ↦ by_second _ _ (behind d gt (omega (arith, below)))
        ]
      ],
    ),
    refl,
  )
    where
      behind : (d : ℕ) → c < d → d ≤ length bounds → begins_after (lower_of bounds d) span.hi ≡ true
      behind zero gt le = absurd (omega arith)
      behind (suc m) gt le = elim bounds as (λ (bs : List Value). bs ≡ bounds
          → begins_after (slice_get bounds m) span.hi ≡ true) [
            | [] ↦ λ e. absurd (omega (arith, le, ap length e))
            | x ∷ xs ↦ λ e.
                let here = got bounds c x (omega (arith, gt, le)) in
                begins_later (kind_at (Key 0) form) sound.kind bounds span.hi c m sound.fit
                sound.ascending (omega (arith, gt)) (omega (arith, le))
                (ap (λ o. begins_after o span.hi) here ∙ ends (get_or bounds c x) here)
          ] refl

  -- where its lower bound does, none is searched
  pub none_first : begins_after (lower_of bounds c) span.hi ≡ true → (d : ℕ)
      → IsAlone (partition_rule form (Key 0) bounds) span d → ⊥
  none_first begins = none_searched (partition_rule form (Key 0) bounds) span
      (λ d below. elim (cases d c) [
        | inl lt ↦ before_first d lt
        | inr o ↦ by_second _ _
            (behind c d begins (elim o [ inl e ↦ omega (arith, e) | inr gt ↦ omega (arith, gt) ])
            (omega (arith, below)))
      ])
    where
      behind : (i d : ℕ) → begins_after (lower_of bounds i) span.hi ≡ true → i ≤ d
          → d ≤ length bounds → begins_after (lower_of bounds d) span.hi ≡ true
      behind zero d begins le most = absurd (true≢false (sym begins))
      behind (suc i) zero begins le most = absurd (omega arith)
      behind (suc i) (suc d) begins le most =
          begins_later (kind_at (Key 0) form) sound.kind bounds span.hi i d sound.fit
          sound.ascending (omega (arith, le)) (omega (arith, most)) begins

  -- and where the upper bound doesn't, the next child is searched too
  pub two_first : (b : Value) → begins_after (lower_of bounds c) span.hi ≡ false
      → upper_of bounds c ≡ Some b → begins_after (Some b) span.hi ≡ false
      → (d : ℕ) → IsAlone (partition_rule form (Key 0) bounds) span d → ⊥
  two_first b begins upper next =
      let lt = got_below bounds c b upper in
      two_searched (partition_rule form (Key 0) bounds) span c (suc c) (omega (arith, few))
      (omega (arith, lt)) (λ e. omega (arith, e)) (first_searched begins)
      (by_tests _ _ (from_first (suc c) (omega arith)) (ap (λ o. begins_after o span.hi) upper
      ∙ next))

-- ---- a partition by another field, which skips no child

module _ (form : Form) (at : Where) (bounds : List Value) (span : Span) (all : (c : ℕ)
    → is_outside at bounds c span ≡ false) where
  all_searched : (c : ℕ) → is_searched (partition_rule form at bounds) span c ≡ true
  all_searched c = ap not (all c)

  pub one_alone : length bounds ≡ 0 → IsAlone (partition_rule form at bounds) span 0
  one_alone none = (
    (
      (omega (arith, none)),
      all_searched 0,
      λ d below apart. absurd (apart (omega (arith, none, below))),
    ),
    refl,
  )

  pub several : 0 < length bounds → (c : ℕ) → IsAlone (partition_rule form at bounds) span c → ⊥
  several some = two_searched (partition_rule form at bounds) span 0 1 (omega (arith, some))
      (omega (arith, some)) (λ e. omega (arith, e)) (all_searched 0) (all_searched 1)
