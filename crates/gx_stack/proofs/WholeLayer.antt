-- A layer whose children were read whole.
use Rattle.std.proofs.Common.{◌≡◌, ◌<◌, ◌+◌, ℕ, Bool, true, false, not, List, [], ◌∷◌, ◌++◌, ◌⊎◌, None, inl, inr, refl, sym, ap, ◌∙◌, subst, length, map, arith}
use Rattle.std.proofs.lemmas.Bool.{true≢false, not-true}
use Rattle.std.proofs.lemmas.Map.Keys.{IsDistinct-IsPermutation, IsDistinct-from_sorted}
use Rattle.std.specs.List.{flat_map, IsDistinct}
use Rattle.std.specs.List.Sorted.{IsStrictlySortedBy}
use Rattle.std.specs.Ordering.{nat_cmp, is_eq, eq_by_cmp, ordering_then}
use Rattle.std.specs.declared.cmp.Ordering.{Ordering}
use Rattle.std.specs.declared.cmp.Ordering.TheVariants.{Less, Equal, Greater}
use Rattle.std.specs.Cmp.{eq_by_cmp_equiv}
use Rattle.std.specs.FinMap.{nat_cmp-IsAntisymmetric, slice_cmp-IsAntisymmetric}
use Rattle.gx_laws.proofs.OrderingLemmas.{cmp_less}
use Rattle.gx_laws.proofs.NumberLemmas.{nat_cases}
use Rattle.gx_values.proofs.OrderLemmas.{value_cmp_same}
use Rattle.gx_values.specs.declared.records.Rec.{Rec}
use Rattle.gx_values.specs.Values.{values_cmp}
use Rattle.gx_mapping.specs.declared.parts.Part.{Part}
use Rattle.gx_mapping.specs.Rule.{Rule, In, IsOf, data_parts, part_cmp}
use Rattle.gx_mapping.specs.Laws.{MappingLaws}
use Rattle.gx_mapping.proofs.RuleLemmas.{all_in}
use Rattle.gx_stack.specs.Internal.{IsSet, parts_for, child_records}
use Rattle.gx_gather.specs.Gather.{rec_cmp, gather_cmp, part_for, AreMade}
use Rattle.gx_stack.specs.Held.{other_parts, AreMadeWith, AreJoined}
use Rattle.gx_gather.proofs.Lists.{in_left, in_right, in_cases, in_each, from_each, in_map, from_map, in_filter, filter_in, all_of, bool_cases}
use Rattle.gx_gather.proofs.Orders.{Ascends, ascends, sorted, ascends_append, ascends_filter, ascends_unique, ascends_once, child_ascends, part_total, gather_total, gather_ties, rises, rises_ascends, ascends_by, not_before_itself, rec_total}
use Rattle.gx_stack.proofs.Children.{in_parts_for, from_parts_for, from_child, in_child, child_set}
use Rattle.gx_gather.proofs.Made.{permuted_in, permuted_back}
use Rattle.gx_stack.proofs.Selects.{AreParts, made_sound, made_complete, all_made}

-- ---- children read so far: child d holds the records of the parts for it

pub record AreRead (rule : Rule) (holds : ℕ → List Rec
    → Type 0) (c : ℕ) (main others : List Part) : Type 0 where
  pub data_in_order : Ascends part_cmp main
  pub others_in_order : Ascends part_cmp others
  pub data_below : (p : Part) → In p main → (p.child < c) × (rule.holds_rest p.child ≡ true)
  pub others_below : (p : Part) → In p others → (p.child < c) × (rule.holds_rest p.child ≡ false)
  pub held : (d : ℕ) → d < c → holds d (parts_for d (main ++ others))

-- what a child holds is a matter of the members alone
abbrev pub IsByMembers : ℕ → (ℕ → List Rec → Type 0) → Type 0
IsByMembers kids holds = (d : ℕ) (R S : List Rec) → d < kids → ((r : Rec) → In r R → In r S)
    → ((r : Rec) → In r S → In r R) → holds d R → holds d S

-- and tells them
abbrev pub Tells : Rule → (ℕ → List Rec → Type 0) → Type 0
Tells rule holds = (d : ℕ) (R S : List Rec) → d < rule.kids → IsSet (rule.kid_form d) R
    → IsSet (rule.kid_form d) S → holds d R → holds d S → (r : Rec) → In r R → In r S

pub read_none : (rule : Rule) (holds : ℕ → List Rec → Type 0) → AreRead rule holds 0 [] []
read_none rule holds = record {
  data_in_order = tt;
  others_in_order = tt;
  data_below = λ p h. absurd h;
  others_below = λ p h. absurd h;
  held = λ d lt. absurd (omega arith);
}

-- the parts of one child more stand behind those before it
child_behind : (c : ℕ) (ps : List Part) (found : List Rec) → ((p : Part) → In p ps → p.child < c)
    → Ascends part_cmp ps → Ascends rec_cmp found → Ascends part_cmp (ps ++ map (part_for c) found)
child_behind c ps found below a b =
    ascends_append ps (map (part_for c) found) a (child_ascends c found b) (λ x y i k.
    let q = from_map (part_for c) y found k in
    ap (λ o. ordering_then o (values_cmp x.rec.key y.rec.key))
    (ap (λ (z : Part). nat_cmp x.child z.child) q.2 ∙ cmp_less x.child c (below x i)))

module _ (rule : Rule) (holds : ℕ → List Rec → Type 0) (by_members : IsByMembers rule.kids holds)
    (c : ℕ) (below : c < rule.kids) (found : List Rec) (rises_up : Ascends rec_cmp found)
    (held : holds c found) where
  -- all parts, with those of this child somewhere among them
  members : (all more : List Part) → ((p : Part) → In p all → (p.child < c))
      → ((p : Part) → In p more → In p all ⊎ In p (map (part_for c) found))
      → ((p : Part) → In p all → In p more)
      → ((p : Part) → In p (map (part_for c) found) → In p more)
      → ((d : ℕ) → d < c → holds d (parts_for d all)) → (d : ℕ) → d < c + 1
      → holds d (parts_for d more)
  members all more low cases old new before d lt = elim (nat_cases d c) [
    | inl e ↦ by_members d found (parts_for d more) (omega (arith, e, below))
        (λ r h. in_parts_for d more (part_for c r)
        (new (part_for c r) (in_map (part_for c) r found h)) (sym e))
        (λ r h.
        let p = from_parts_for d more r h in
        elim (cases p.0 p.1) [
          | inl k ↦ absurd (let l = low p.0 k in let same = p.2 in omega (arith, l, same, e))
          | inr k ↦ (let q = from_map (part_for c) p.0 found k in
              subst (λ x. In x found) (ap (λ (x : Part). x.rec) (sym q.2) ∙ p.3) q.1)
        ])
        (subst (λ n. holds n found) (sym e) held)
    | inr ne ↦ by_members d (parts_for d all) (parts_for d more) (omega (arith, below, lt, ne))
        (λ r h. let p = from_parts_for d all r h in
        subst (λ x. In x (parts_for d more)) p.3 (in_parts_for d more p.0 (old p.0 p.1) p.2))
        (λ r h.
        let p = from_parts_for d more r h in
        elim (cases p.0 p.1) [
          | inl k ↦ subst (λ x. In x (parts_for d all)) p.3 (in_parts_for d all p.0 k p.2)
          | inr k ↦ absurd (let q = from_map (part_for c) p.0 found k in
              ne (sym p.2 ∙ ap (λ (x : Part). x.child) q.2))
        ])
        (before d (omega (arith, lt, ne)))
  ]

  child_of : (p : Part) → In p (map (part_for c) found) → p.child ≡ c
  child_of p h = let q = from_map (part_for c) p found h in ap (λ (x : Part). x.child) q.2

  pub read_data : (main others : List Part) → rule.holds_rest c ≡ true
      → AreRead rule holds c main others
      → AreRead rule holds (c + 1) (main ++ map (part_for c) found) others
  read_data main others rest are = record {
    data_in_order = child_behind c main found (λ p h. (are.data_below p h).0) are.data_in_order
        rises_up;
    others_in_order = are.others_in_order;
    data_below = λ p h. elim (in_cases p main (map (part_for c) found) h) [
      | inl k ↦ (let l = are.data_below p k in (omega (arith, l.0), l.1))
      | inr k ↦ (let e = child_of p k in (omega (arith, e), ap rule.holds_rest e ∙ rest))
    ];
    others_below = λ p h. let l = are.others_below p h in (omega (arith, l.0), l.1);
    held = members (main ++ others) ((main ++ map (part_for c) found) ++ others)
        (λ p h. elim (in_cases p main others h)
        [ inl k ↦ (are.data_below p k).0 | inr k ↦ (are.others_below p k).0 ])
        (λ p h. elim (in_cases p (main ++ map (part_for c) found) others h) [
          | inl k ↦ elim (in_cases p main (map (part_for c) found) k)
              [ inl j ↦ inl (in_left p main others j) | inr j ↦ inr j ]
          | inr k ↦ inl (in_right p main others k)
        ])
        (λ p h. elim (in_cases p main others h) [
          | inl k ↦ in_left p (main ++ map (part_for c) found) others
              (in_left p main (map (part_for c) found) k)
          | inr k ↦ in_right p (main ++ map (part_for c) found) others k
        ])
        (λ p h. in_left p (main ++ map (part_for c) found) others
        (in_right p main (map (part_for c) found) h))
        are.held;
  }

  pub read_other : (main others : List Part) → rule.holds_rest c ≡ false
      → AreRead rule holds c main others
      → AreRead rule holds (c + 1) main (others ++ map (part_for c) found)
  read_other main others rest are = record {
    data_in_order = are.data_in_order;
    others_in_order = child_behind c others found (λ p h. (are.others_below p h).0)
        are.others_in_order rises_up;
    data_below = λ p h. let l = are.data_below p h in (omega (arith, l.0), l.1);
    others_below = λ p h. elim (in_cases p others (map (part_for c) found) h) [
      | inl k ↦ (let l = are.others_below p k in (omega (arith, l.0), l.1))
      | inr k ↦ (let e = child_of p k in (omega (arith, e), ap rule.holds_rest e ∙ rest))
    ];
    held = members (main ++ others) (main ++ (others ++ map (part_for c) found))
        (λ p h. elim (in_cases p main others h)
        [ inl k ↦ (are.data_below p k).0 | inr k ↦ (are.others_below p k).0 ])
        (λ p h. elim (in_cases p main (others ++ map (part_for c) found) h) [
          | inl k ↦ inl (in_left p main others k)
          | inr k ↦ elim (in_cases p others (map (part_for c) found) k)
              [ inl j ↦ inl (in_right p main others j) | inr j ↦ inr j ]
        ])
        (λ p h. elim (in_cases p main others h) [
          | inl k ↦ in_left p main (others ++ map (part_for c) found) k
          | inr k ↦ in_right p main (others ++ map (part_for c) found)
              (in_left p others (map (part_for c) found) k)
        ])
        (λ p h. in_right p main (others ++ map (part_for c) found)
        (in_right p others (map (part_for c) found) h))
        are.held;
  }

-- ---- orders

both_equal : (a b : Ordering) → ordering_then a b ≡ Equal → (a ≡ Equal) × (b ≡ Equal)
both_equal Less b e = absurd (let x : Less ≡ Equal = e in cc)
both_equal Equal b e = (refl, e)
both_equal Greater b e = absurd (let x : Greater ≡ Equal = e in cc)

-- parts that tie have one child and one key
pub tied_parts : (p q : Part) → part_cmp p q ≡ Equal → (p.child ≡ q.child) × (p.rec.key ≡ q.rec.key)
tied_parts p q e =
    let b = both_equal (nat_cmp p.child q.child) (values_cmp p.rec.key q.rec.key) e in (
      nat_cmp-IsAntisymmetric p.child q.child b.0,
      slice_cmp-IsAntisymmetric value_cmp_same p.rec.key q.rec.key b.1,
    )

pub distinct_append : {A : Type 0} (E : A → A → Bool) (xs ys : List A) → IsDistinct E xs
    → IsDistinct E ys → ((x y : A) → In x xs → In y ys → E x y ≡ false) → IsDistinct E (xs ++ ys)
unfolding IsDistinct
distinct_append E [] ys a b apart = b
distinct_append E (x ∷ xs) ys a b apart = (
  all_of _ (xs ++ ys) (λ z i. elim (in_cases z xs ys i)
      [ inl k ↦ all_in (λ y. E x y ≡ false) xs z a.0 k | inr k ↦ apart x z (inl refl) k ]),
  distinct_append E xs ys a.1 b (λ y z i k. apart y z (inr i) k),
)

-- ---- all children were read

module _ {rule : Rule} (laws : MappingLaws rule) where
  in_data : (r : Rec) (p : Part) → In p (rule.parts r) → rule.holds_rest p.child ≡ true
      → In p (data_parts rule r)
  in_data r p h d = filter_in (λ (q : Part). rule.holds_rest q.child) p (rule.parts r) h d

  in_other : (r : Rec) (p : Part) → In p (rule.parts r) → rule.holds_rest p.child ≡ false
      → In p (other_parts rule r)
  in_other r p h d = filter_in (λ (q : Part). not (rule.holds_rest q.child)) p (rule.parts r) h
      (ap not d)

  from_data : (r : Rec) (p : Part) → In p (data_parts rule r)
      → In p (rule.parts r) × (rule.holds_rest p.child ≡ true)
  from_data r p h = in_filter (λ (q : Part). rule.holds_rest q.child) p (rule.parts r) h

  from_other : (r : Rec) (p : Part) → In p (other_parts rule r)
      → In p (rule.parts r) × (rule.holds_rest p.child ≡ false)
  from_other r p h = let f =
      in_filter (λ (q : Part). not (rule.holds_rest q.child)) p (rule.parts r) h in
      (f.0, not-true (rule.holds_rest p.child) f.1)

  -- the records that were made have no two keys alike
  made_set : (main : List Part) (found : List Rec) → AreMade rule main found → IsSet rule.form found
  made_set main found made =
      record {
        fits = made.fit;
        one = λ r s h k e. ascends_once found r s
            (ascends rec_cmp found made.in_order) h k e;
      }

  -- each child holds the parts for it
  pub all_held : (holds : ℕ → List Rec → Type 0) → IsByMembers rule.kids holds
      → (main others : List Part) (found : List Rec) → AreRead rule holds rule.kids main others
      → AreMadeWith rule main others found
      → (d : ℕ) → d < rule.kids → holds d (child_records rule d found)
  all_held holds by_members main others found are made d lt =
      by_members d (parts_for d (main ++ others)) (child_records rule d found) lt
      (λ r h.
      let p = from_parts_for d (main ++ others) r h in
      elim (in_cases p.0 main others p.1) [
        | inl k ↦ (
            let s = from_each (data_parts rule) p.0 found
            (permuted_in main (flat_map (data_parts rule) found) p.0 made.made.those k) in
            subst (λ x. In x (child_records rule d found)) p.3
            (in_child rule d found s.0 p.0 s.1 (from_data s.0 p.0 s.2).0 p.2))
        | inr k ↦ (
            let s = from_each (other_parts rule) p.0 found
            (permuted_back (flat_map (other_parts rule) found) others p.0 made.rest k) in
            subst (λ x. In x (child_records rule d found)) p.3
            (in_child rule d found s.0 p.0 s.1 (from_other s.0 p.0 s.2).0 p.2))
      ])
      (λ r h.
      let s = from_child rule d found r h in
      let p = s.2 in
      let there : In p.0 (main ++ others) = elim (bool_cases (rule.holds_rest p.0.child)) [
        | inl e ↦ in_left p.0 main others
            (permuted_back main (flat_map (data_parts rule) found) p.0 made.made.those
            (in_each (data_parts rule) s.0 p.0 found s.1 (in_data s.0 p.0 p.1 e)))
        | inr e ↦ in_right p.0 main others
            (permuted_in (flat_map (other_parts rule) found) others p.0 made.rest
            (in_each (other_parts rule) s.0 p.0 found s.1 (in_other s.0 p.0 p.1 e)))
      ] in
      subst (λ x. In x (parts_for d (main ++ others))) p.3
      (in_parts_for d (main ++ others) p.0 there p.2))
      (are.held d lt)

  -- ---- what was read is what the children of other records hold

  module _ (holds : ℕ → List Rec → Type 0) (tells : Tells rule holds) (main others : List Part)
      (are : AreRead rule holds rule.kids main others) (fit_data : (p : Part) → In p main
      → IsOf (rule.kid_form p.child) p.rec) (fit_others : (p : Part) → In p others
      → IsOf (rule.kid_form p.child) p.rec)
      (R : List Rec) (set : IsSet rule.form R) (held : (d : ℕ) → d < rule.kids
      → holds d (child_records rule d R)) where
    fit_all : (p : Part) → In p (main ++ others) → IsOf (rule.kid_form p.child) p.rec
    fit_all p h = elim (in_cases p main others h) [ inl k ↦ fit_data p k | inr k ↦ fit_others p k ]

    tied_less : (p q : Part) → p.child ≡ q.child → p.rec.key ≡ q.rec.key → part_cmp p q ≡ Less → ⊥
    tied_less p q child key less =
        not_before_itself part_total q
        ((λ i. ordering_then (nat_cmp (sym child i) q.child) (values_cmp (sym key i) q.rec.key))
        ∙ less)

    once_in : (ps : List Part) (p q : Part) → Ascends part_cmp ps → In p ps → In q ps
        → p.child ≡ q.child → p.rec.key ≡ q.rec.key → p ≡ q
    once_in [] p q a h k child key = absurd h
    once_in (x ∷ ps) p q a (inl h) (inl k) child key = h ∙ sym k
    once_in (x ∷ ps) p q a (inl h) (inr k) child key =
        absurd (tied_less p q child key
        (subst (λ y. part_cmp y q ≡ Less) (sym h)
        (all_in (λ y. part_cmp x y ≡ Less) ps q a.0 k)))
    once_in (x ∷ ps) p q a (inr h) (inl k) child key =
        absurd (tied_less q p (sym child) (sym key)
        (subst (λ y. part_cmp y p ≡ Less) (sym k)
        (all_in (λ y. part_cmp x y ≡ Less) ps p a.0 h)))
    once_in (x ∷ ps) p q a (inr h) (inr k) child key = once_in ps p q a.1 h k child key

    once_read : (p q : Part) → In p (main ++ others) → In q (main ++ others) → p.child ≡ q.child
        → p.rec.key ≡ q.rec.key → p ≡ q
    once_read p q h k child key = elim (in_cases p main others h) [
      | inl i ↦ elim (in_cases q main others k) [
        | inl j ↦ once_in main p q are.data_in_order i j child key
        | inr j ↦ absurd (true≢false (sym (are.data_below p i).1 ∙ ap rule.holds_rest child
            ∙ (are.others_below q j).1))
      ]
      | inr i ↦ elim (in_cases q main others k) [
        | inl j ↦ absurd (true≢false (sym (are.data_below q j).1 ∙ ap rule.holds_rest (sym child)
            ∙ (are.others_below p i).1))
        | inr j ↦ once_in others p q are.others_in_order i j child key
      ]
    ]

    read_set : (d : ℕ) → IsSet (rule.kid_form d) (parts_for d (main ++ others))
    read_set d = record {
      fits = λ r h. let p = from_parts_for d (main ++ others) r h in
          subst (λ x. IsOf (rule.kid_form d) x) p.3
          (subst (λ n. IsOf (rule.kid_form n) p.0.rec) p.2 (fit_all p.0 p.1));
      one = λ r s h k e.
          let p = from_parts_for d (main ++ others) r h in
          let q = from_parts_for d (main ++ others) s k in
          sym p.3 ∙ ap (λ (x : Part). x.rec)
          (once_read p.0 q.0 p.1 q.1 (p.2 ∙ sym q.2) (ap (λ (x : Rec). x.key) p.3 ∙ e
          ∙ ap (λ (x : Rec). x.key) (sym q.3))) ∙ q.3;
    }

    same_part : (p q : Part) → p.child ≡ q.child → p.rec ≡ q.rec → p ≡ q
    same_part p q child rec_is = λ i. record { child = child i; rec = rec_is i }

    -- a part that was read is one of a record
    part_of : (p : Part) → In p (main ++ others) → p.child < rule.kids
        → (r : Rec) × In r R × In p (rule.parts r)
    part_of p h lt =
        let q = tells p.child (parts_for p.child (main ++ others)) (child_records rule p.child R) lt
        (read_set p.child) (child_set laws p.child R set) (are.held p.child lt)
        (held p.child lt) p.rec (in_parts_for p.child (main ++ others) p h refl) in
        let s = from_child rule p.child R p.rec q in
        let x = s.2 in
        (s.0, s.1, subst (λ (y : Part). In y (rule.parts s.0)) (same_part x.0 p x.2 x.3) x.1)

    -- and the other way round
    part_read : (r : Rec) (p : Part) → In r R → In p (rule.parts r) → In p (main ++ others)
    part_read r p h k =
        let lt = (laws.fit r p (set.fits r h) k).0 in
        let q = tells p.child (child_records rule p.child R) (parts_for p.child (main ++ others)) lt
        (child_set laws p.child R set) (read_set p.child) (held p.child lt)
        (are.held p.child lt) p.rec (in_child rule p.child R r p h k refl) in
        let x = from_parts_for p.child (main ++ others) p.rec q in
        subst (λ (y : Part). In y (main ++ others)) (same_part x.0 p x.2 x.3) x.1

    data_are : AreParts rule R rule.kids main
    data_are = record {
      in_order = are.data_in_order;
      below = λ p h. (are.data_below p h).0;
      sound = λ p h. (let s = part_of p (in_left p main others h) (are.data_below p h).0 in
          (s.0, s.1, s.2, (are.data_below p h).1));
      complete = λ r p h k d lt. elim (in_cases p main others (part_read r p h k)) [
        | inl i ↦ i
        | inr i ↦ absurd (true≢false (sym d ∙ (are.others_below p i).1))
      ];
    }

    -- an other part of a record was read among the others
    other_read : (r : Rec) (p : Part) → In r R → In p (other_parts rule r) → In p others
    other_read r p h k =
        let f = from_other r p k in
        elim (in_cases p main others (part_read r p h f.0)) [
          | inl i ↦ absurd (true≢false (sym (are.data_below p i).1 ∙ f.1))
          | inr i ↦ i
        ]

    -- no two other parts of records tie
    apart_parts : (p q : Part) (r s : Rec) → IsOf rule.form r → IsOf rule.form s
        → In p (other_parts rule r) → In q (other_parts rule s) → rec_cmp r s ≡ Less
        → eq_by_cmp part_cmp p q ≡ false
    apart_parts p q r s f g h k less = go (part_cmp p q) refl
      where
        go : (o : Ordering) → part_cmp p q ≡ o → is_eq o ≡ false
        go Less e = refl
        go Greater e = refl
        go Equal e =
            let same = tied_parts p q e in
            absurd (not_before_itself rec_total s
            (ap (λ k. values_cmp k s.key)
            (sym (laws.apart r s p q f g (from_other r p h).0 (from_other s q k).0 same.0
            same.1)) ∙ less))

    other_distinct : (found : List Rec) → ((r : Rec) → In r found → IsOf rule.form r)
        → Ascends rec_cmp found
        → IsDistinct (eq_by_cmp part_cmp) (flat_map (other_parts rule) found)
    unfolding IsDistinct
    other_distinct [] fit a = tt
    other_distinct (r ∷ found) fit a =
        distinct_append (eq_by_cmp part_cmp) (other_parts rule r)
        (flat_map (other_parts rule) found)
        (IsDistinct-from_sorted part_cmp (other_parts rule r)
        (sorted part_cmp (other_parts rule r)
        (ascends_filter part_cmp (λ (q : Part). not (rule.holds_rest q.child))
        (rule.parts r) (ascends part_cmp (rule.parts r)
        (laws.in_order r (fit r (inl refl)))))))
        (other_distinct found (λ s h. fit s (inr h)) a.1)
        (λ p q h k.
        let s = from_each (other_parts rule) q found k in
        apart_parts p q r s.0 (fit r (inl refl)) (fit s.0 (inr s.1)) h s.2
        (all_in (λ y. rec_cmp r y ≡ Less) found s.0 a.0 s.1))

    -- so these children make records with just these other parts
    pub none_joined : AreJoined rule main others None → ⊥
    none_joined (inl un) = all_made laws R set main data_are (length rule.form.keys)
        (IsStrictlySortedBy part_cmp main) refl (sorted part_cmp main are.data_in_order) un
    none_joined (inr without) =
        let distinct = IsDistinct-IsPermutation (eq_by_cmp part_cmp)
        (λ x y. (eq_by_cmp_equiv part_total).symm x y)
        (flat_map (other_parts rule) without.found) without.parts without.those
        (other_distinct without.found without.made.fit
        (ascends rec_cmp without.found without.made.in_order)) in
        let up : Ascends (gather_cmp 0) without.parts =
        rises_ascends (gather_total 0) (gather_ties 0) without.parts
        (rises (gather_total 0) without.parts without.in_order) distinct in
        without.apart (ascends_unique part_total without.parts others
        (ascends_by without.parts (λ x y h k. refl) up) are.others_in_order
        (λ p h.
        let s = from_each (other_parts rule) p without.found
        (permuted_back (flat_map (other_parts rule) without.found) without.parts p without.those
        h) in
        other_read s.0 p (made_sound laws R set main data_are without.found without.made s.0 s.1)
        s.2)
        (λ p h.
        let b = are.others_below p h in
        let s = part_of p (in_right p main others h) b.0 in
        permuted_in (flat_map (other_parts rule) without.found) without.parts p without.those
        (in_each (other_parts rule) s.0 p without.found
        (made_complete laws R set main data_are without.found without.made s.0 s.1)
        (in_other s.0 p s.2 b.1))))
