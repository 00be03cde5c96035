-- The rows of a link, made of its owners, and what nodes hold.
use Rattle.std.proofs.Common.{◌≡◌, ◌<◌, ◌≤◌, ℕ, suc, Bool, false, List, [], ◌∷◌, ◌⊎◌, length, map, Option, Some, None, inl, inr, refl, sym, ap, subst, ◌∙◌, arith}
use Rattle.std.specs.List.{IsDistinct}
use Rattle.std.specs.List.Sorted.{IsPermutation, IsSortedBy, IsStrictlySortedBy}
use Rattle.std.specs.Ordering.{is_lt, nat_cmp, eq_by_cmp, ordering_then, ordering_reverse}
use Rattle.std.specs.declared.cmp.Ordering.{Ordering}
use Rattle.std.specs.declared.cmp.Ordering.TheVariants.{Less, Equal, Greater}
use Rattle.std.specs.Cmp.{IsTotalOrder, nat_cmp_total, Equal-is, tied_itself, eq_by_cmp_equiv}
use Rattle.std.specs.FinMap as fin
use Rattle.std.proofs.lemmas.Map.Keys.{IsDistinct-IsPermutation}
use Rattle.gx_laws.proofs.OrderingLemmas.{less_equal, greater_equal, cmp_less}
use Rattle.gx_values.specs.declared.values.Kind.{Kind}
use Rattle.gx_values.specs.declared.values.Value.{Value}
use Rattle.gx_values.specs.declared.records.Form.{Form}
use Rattle.gx_values.specs.declared.records.Rec.{Rec}
use Rattle.gx_values.specs.Values.{value_cmp, values_cmp, Fits}
use Rattle.gx_values.proofs.OrderLemmas.{value_cmp_total}
use Rattle.gx_ports.specs.LeafMaps.{LeafMap}
use Rattle.gx_mapping.specs.declared.parts.Part.{Part}
use Rattle.gx_mapping.specs.Rule.{Rule, In, IsOf, part_cmp}
use Rattle.gx_mapping.specs.Laws.{MappingLaws}
use Rattle.gx_mapping.proofs.RuleLemmas.{parts_tied, all_in}
use Rattle.gx_gather.specs.Gather.{rec_cmp, gather_cmp, part_for}
use Rattle.gx_gather.proofs.Lists.{in_left, in_right, in_cases, in_each, from_each, in_map, from_map, all_of, bool_cases}
use Rattle.gx_gather.proofs.Orders.{Ascends, sorted, ascends, ascends_append, ascends_by, ascends_unique, child_ascends, rises, rises_ascends, gather_total, gather_ties, part_total, not_before_itself}
use Rattle.gx_gather.proofs.Made.{permuted_in, permuted_back}
use Rattle.gx_stack.specs.Tree.{Tree, Kids, no_kids, kid, kid_count, IsValid, AreValid}
use Rattle.gx_stack.specs.Internal.{IsSet, IsInternal, AreInternal, parts_for}
use Rattle.gx_stack.proofs.Children.{in_parts_for, from_parts_for}
use Rattle.gx_stack.proofs.Same.{internal_of_members}
use Rattle.gx_stack.proofs.Told.{kids_told}
use Rattle.gx_stack.proofs.WholeLayer.{tied_parts, distinct_append}
use Rattle.gx_links.specs.declared.pairs.Owned.{Owned}
use Rattle.gx_links.specs.Links.{Link, members_of, most_members, IsLink}
use Rattle.gx_links.specs.Rows.{two_forms, link_parts, node_rows, link_rule, IsHeldLink, RowLaws, RowsApart}
use Rattle.gx_links.specs.Owners.{member_cmp, AreOwners}
use Rattle.gx_links.specs.Pairs.{rows_of, two_parts, ArePairs, AreRows, IsTold, ArePairsOfRows}
use Rattle.gx_links.proofs.MemberLemmas.{from_members, in_pair, pair_in, members_ascend}
use Rattle.gx_links.proofs.OwnerLemmas.{member_total, pairs_ascend, pairs_sorted}
use Rattle.gx_links.proofs.RowLemmas.{in_link_parts, from_link_parts, node_set}

-- ---- parts in order

-- rows in the order of nodes and keys are the parts that have the same members
pub sorted_rows : (rows made found : List Part) → IsPermutation rows made
    → IsSortedBy (λ a b. is_lt (gather_cmp 0 a b)) made → IsStrictlySortedBy part_cmp found
    → IsDistinct (eq_by_cmp part_cmp) rows → ((p : Part) → In p found → In p rows)
    → ((p : Part) → In p rows → In p found) → made ≡ found
sorted_rows rows made found perm up order distinct to from =
    let apart = IsDistinct-IsPermutation (eq_by_cmp part_cmp)
    (λ x y. (eq_by_cmp_equiv part_total).symm x y) rows made perm distinct in
    let rise : Ascends (gather_cmp 0) made =
    rises_ascends (gather_total 0) (gather_ties 0) made (rises (gather_total 0) made up) apart
    in
    ascends_unique part_total made found (ascends_by made (λ x y h k. refl) rise)
    (ascends part_cmp found order)
    (λ p h. from p (permuted_back rows made p perm h))
    (λ p h. permuted_in rows made p perm (to p h))

-- of two that tie in an ascending list
tied_same : {A : Type 0} {R : A → A → Ordering} (o : IsTotalOrder R) (xs : List A) (x y : A)
    → Ascends R xs → In x xs → In y xs → R x y ≡ Equal → x ≡ y
tied_same o [] x y up h k e = absurd h
tied_same o (z ∷ xs) x y up (inl i) (inl k) e = i ∙ sym k
tied_same {R = R} o (z ∷ xs) x y up (inl i) (inr k) e =
    absurd (less_equal (sym (all_in (λ w. R z w ≡ Less) xs y up.0 k) ∙ ap (λ w. R w y) (sym i) ∙ e))
tied_same {R = R} o (z ∷ xs) x y up (inr i) (inl k) e =
    let less : R y x ≡ Less = ap (λ w. R w x) k ∙ all_in (λ w. R z w ≡ Less) xs x up.0 i in
    absurd (greater_equal (sym (o.antisymm x y ∙ ap ordering_reverse less) ∙ e))
tied_same o (z ∷ xs) x y up (inr i) (inr k) e = tied_same o xs x y up.1 i k e

pub not_tied : (p q : Part) → ((p.child ≡ q.child) → (p.rec.key ≡ q.rec.key) → ⊥)
    → eq_by_cmp part_cmp p q ≡ false
not_tied p q ne = elim (bool_cases (eq_by_cmp part_cmp p q)) [
  | inl e ↦ absurd (let same = tied_parts p q ((Equal-is (part_cmp p q)).0 e) in ne same.0 same.1)
  | inr e ↦ e
]

-- ---- rows of owners

module _ {owner member : Kind} {forms : ℕ → Form} {nodes : ℕ}
    {rows : Value → List Value → List Part} (laws : RowLaws owner member forms nodes rows) where
  module _ (link : Link) (gs : List Owned) (are : AreOwners link gs) where
    pub from_rows : (p : Part) → In p (rows_of rows gs) → In p (link_parts rows link)
    from_rows p h =
        let g = from_each (λ (x : Owned). rows x.owner x.members) p gs h in
        in_link_parts laws link g.0.owner p
        (subst (λ ms. In p (rows g.0.owner ms)) (are.each g.0 g.1) g.2)

    pub in_rows : (p : Part) → In p (link_parts rows link) → In p (rows_of rows gs)
    in_rows p h = (let o = from_link_parts laws link p h in go o.0 (members_of link o.0) refl o.2)
      where
        go : (o : Value) (ms : List Value) → members_of link o ≡ ms
            → In p (rows o (members_of link o)) → In p (rows_of rows gs)
        go o [] e k = absurd (subst (In p) (laws.none o) (subst (λ zs. In p (rows o zs)) e k))
        go o (m ∷ ms) e k =
            let g = are.all m o (from_members link o m (subst (In m) (sym e) (inl refl))) in
            in_each (λ (x : Owned). rows x.owner x.members) g.0 p gs g.1
            (subst (λ zs. In p (rows g.0.owner zs)) (sym (are.each g.0 g.1))
            (subst (λ x. In p (rows x (members_of link x))) (sym g.2) k))

    -- where no owner has too many members, nodes can hold the link
    pub few_link : ((m o : Value) → fin.get link m ≡ Some o → Fits member m × Fits owner o)
        → ((g : Owned) → In g gs → length g.members ≤ most_members) → IsLink owner member link
    few_link fit few = record { fit = fit; few = λ o. go o (members_of link o) refl }
      where
        go : (o : Value) (ms : List Value) → members_of link o ≡ ms
            → length (members_of link o) ≤ most_members
        go o [] e = omega (arith, ap length e)
        go o (m ∷ ms) e =
            let g = are.all m o (from_members link o m (subst (In m) (sym e) (inl refl))) in
            subst (λ x. length (members_of link x) ≤ most_members) g.2
            (subst (λ zs. length zs ≤ most_members) (are.each g.0 g.1) (few g.0 g.1))

    module _ (apart : RowsApart rows) (is : IsLink owner member link) where
      distinct : (hs : List Owned) → ((g : Owned) → In g hs → In g gs)
          → Ascends value_cmp (map (λ (g : Owned). g.owner) hs)
          → IsDistinct (eq_by_cmp part_cmp) (rows_of rows hs)
      unfolding IsDistinct
      distinct [] sub up = tt
      distinct (g ∷ hs) sub up =
          distinct_append (eq_by_cmp part_cmp) (rows g.owner g.members) (rows_of rows hs)
          (apart.once g.owner g.members
          (subst (IsStrictlySortedBy value_cmp) (sym (are.each g (sub g (inl refl))))
          (sorted value_cmp (members_of link g.owner) (members_ascend link g.owner))))
          (distinct hs (λ h i. sub h (inr i)) up.1)
          (λ p q i k. not_tied p q (λ child key.
          let h = from_each (λ (x : Owned). rows x.owner x.members) q hs k in
          let here = from_rows p (in_each (λ (x : Owned). rows x.owner x.members) g p gs
          (sub g (inl refl)) i) in
          let there = from_rows q
          (in_each (λ (x : Owned). rows x.owner x.members) h.0 q gs (sub h.0 (inr h.1)) h.2) in
          let same : p ≡ q = laws.once link p q is here there child key in
          let owners : g.owner ≡ h.0.owner =
          apart.whose g.owner h.0.owner g.members h.0.members p i
          (subst (λ x. In x (rows h.0.owner h.0.members)) (sym same) h.2) in
          not_before_itself value_cmp_total h.0.owner
          (subst (λ o. value_cmp o h.0.owner ≡ Less) owners
          (all_in (λ y. value_cmp g.owner y ≡ Less) (map (λ (x : Owned). x.owner) hs)
          h.0.owner up.0 (in_map (λ (x : Owned). x.owner) h.0 hs h.1)))))

      pub rows_distinct : IsDistinct (eq_by_cmp part_cmp) (rows_of rows gs)
      rows_distinct = distinct gs (λ g h. h)
          (ascends value_cmp (map (λ (g : Owned). g.owner) gs) are.in_order)

  -- ---- what nodes hold

  module _ {M : Type 0} (rule : M → Rule) (mapping_laws : (m : M) → MappingLaws (rule m)) where
    are_by_members : (ks : Kids M) (fs : ℕ → Form) (Rs Ss : ℕ → List Rec) (maps : List LeafMap)
        → AreValid rule fs ks → ((c : ℕ) (r : Rec) → In r (Rs c) → In r (Ss c))
        → ((c : ℕ) (r : Rec) → In r (Ss c) → In r (Rs c)) → AreInternal rule ks Rs maps
        → AreInternal rule ks Ss maps
    are_by_members no_kids fs Rs Ss maps valid to from are = tt
    are_by_members (kid t ks) fs Rs Ss maps valid to from are = (
      internal_of_members rule t (Rs 0) (Ss 0) maps valid.1 (to 0) (from 0) are.0,
      are_by_members ks (λ c. fs (suc c)) (λ c. Rs (suc c)) (λ c. Ss (suc c)) maps valid.3
          (λ c. to (suc c)) (λ c. from (suc c)) are.1,
    )

    module _ (ks : Kids M) (valid : AreValid rule forms ks) (many : kid_count ks ≡ nodes)
        (parts : List Part) (maps : List LeafMap) (fit : (p : Part) → In p parts
        → (p.child < nodes) × IsOf (forms p.child) p.rec) where
      pub rows_held : (link : Link) → AreRows owner member rows parts link
          → AreInternal rule ks (λ c. parts_for c parts) maps → IsHeldLink rule ks rows link maps
      rows_held link are held =
          are_by_members ks forms (λ c. parts_for c parts) (node_rows rows link) maps valid
          (λ c r h. let p = from_parts_for c parts r h in
          subst (λ x. In x (node_rows rows link c)) p.3
          (in_parts_for c (link_parts rows link) p.0 (are.to p.0 p.1) p.2))
          (λ c r h. let p = from_parts_for c (link_parts rows link) r h in
          subst (λ x. In x (parts_for c parts)) p.3
          (in_parts_for c parts p.0 (are.from p.0 p.1) p.2))
          held

      parts_set : Ascends part_cmp parts → (c : ℕ) → IsSet (forms c) (parts_for c parts)
      parts_set up c = record {
        fits = λ r h.
            let p = from_parts_for c parts r h in
            subst (λ x. IsOf (forms c) x) p.3
            (subst (λ n. IsOf (forms n) p.0.rec) p.2 (fit p.0 p.1).1);
        one = λ r s h k same.
            let p = from_parts_for c parts r h in
            let q = from_parts_for c parts s k in
            let one = tied_same part_total parts p.0 q.0 up p.1 q.1
            (parts_tied p.0 q.0 (p.2 ∙ sym q.2) (ap (λ (x : Rec). x.key) p.3 ∙ same
            ∙ ap (λ (x : Rec). x.key) (sym q.3))) in
            sym p.3 ∙ ap (λ (x : Part). x.rec) one ∙ q.3;
      }

      pub held_rows : (link : Link) → Ascends part_cmp parts → IsLink owner member link
          → IsHeldLink rule ks rows link maps → AreInternal rule ks (λ c. parts_for c parts) maps
          → AreRows owner member rows parts link
      held_rows link up is of_link held = record {
        is_link = is;
        to = λ p h.
            let below = (fit p h).0 in
            let there = kids_told rule mapping_laws maps ks forms (λ c. parts_for c parts)
            (node_rows rows link) valid (parts_set up) (λ c. node_set laws link c is) held
            of_link p.child (omega (arith, below, many)) p.rec
            (in_parts_for p.child parts p h refl) in
            back (link_parts rows link) p there;
        from = λ p h.
            let below = (laws_fit p h) in
            let there = kids_told rule mapping_laws maps ks forms (node_rows rows link)
            (λ c. parts_for c parts) valid (λ c. node_set laws link c is)
            (parts_set up) of_link held p.child (omega (arith, below, many)) p.rec
            (in_parts_for p.child (link_parts rows link) p h refl) in
            back parts p there;
      }
        where
          back : (ps : List Part) (p : Part) → In p.rec (parts_for p.child ps) → In p ps
          back ps p h = (let q = from_parts_for p.child ps p.rec h in
              subst (λ x. In x ps) (λ i. record { child = q.2 i; rec = q.3 i }) q.1)

          laws_fit : (p : Part) → In p (link_parts rows link) → p.child < nodes
          laws_fit p h = (let o = from_link_parts laws link p h in
              go o.0 (members_of link o.0) refl o.2)
            where
              go : (o : Value) (ms : List Value) → members_of link o ≡ ms
                  → In p (rows o (members_of link o)) → p.child < nodes
              go o [] e k = absurd (subst (In p) (laws.none o) (subst (λ zs. In p (rows o zs)) e k))
              go o (m ∷ ms) e k =
                  let owned : fin.get link m ≡ Some o =
                  from_members link o m (subst (In m) (sym e) (inl refl)) in
                  (laws.fit o (members_of link o) p (is.fit m o owned).1
                  (λ x j. (is.fit x o (from_members link o x j)).0) (is.few o) k).0

      -- what is told of the parts is true of what nodes hold
      pub pairs_held : (rounds : ℕ → ℕ) (finds : Bool) (whole : Type 0)
          (found : Option (List (Value × Value))) → IsTold owner member rows parts found
          → (whole → Ascends part_cmp parts)
          → (whole → AreInternal rule ks (λ c. parts_for c parts) maps)
          → ArePairs (link_rule rule ks rows owner member rounds finds)
          (IsHeldLink rule ks rows) whole maps found
      pairs_held rounds finds whole None told up held =
          λ w has. told (sorted part_cmp parts (up w)) has.0
          (held_rows has.0 (up w) has.1 has.2 (held w))
      pairs_held rounds finds whole (Some pairs) told up held = λ w.
          let t = told (sorted part_cmp parts (up w)) in
          record {
            link = t.0;
            is_link = t.1.is_link;
            is_held = rows_held t.0 t.1 (held w);
            those = t.2;
          }

-- ---- the records of two nodes

pub two_ascend : (A B : List Rec) → Ascends rec_cmp A → Ascends rec_cmp B
    → Ascends part_cmp (two_parts A B)
two_ascend A B a b = ascends_append (map (part_for 0) A) (map (part_for 1) B) (child_ascends 0 A a)
    (child_ascends 1 B b) (λ p q h k.
    let x = from_map (part_for 0) p A h in
    let y = from_map (part_for 1) q B k in
    (λ i. ordering_then (nat_cmp (x.2 i).child (y.2 i).child) (values_cmp p.rec.key q.rec.key))
    ∙ ap (λ o. ordering_then o (values_cmp p.rec.key q.rec.key)) (cmp_less 0 1 (omega arith)))

in_first : (A B : List Rec) (r : Rec) → In r A → In r (parts_for 0 (two_parts A B))
in_first A B r h = in_parts_for 0 (two_parts A B) (part_for 0 r)
    (in_left (part_for 0 r) (map (part_for 0) A) (map (part_for 1) B) (in_map (part_for 0) r A h))
    refl

in_second : (A B : List Rec) (r : Rec) → In r B → In r (parts_for 1 (two_parts A B))
in_second A B r h = in_parts_for 1 (two_parts A B) (part_for 1 r)
    (in_right (part_for 1 r) (map (part_for 0) A) (map (part_for 1) B) (in_map (part_for 1) r B h))
    refl

zero_one : (n : ℕ) → n ≡ 0 → n ≡ 1 → ⊥
zero_one n a b = omega (arith, a, b)

-- which node a part is of
pub part_cases : (A B : List Rec) (p : Part) → In p (two_parts A B)
    → ((p.child ≡ 0) × In p.rec A) ⊎ ((p.child ≡ 1) × In p.rec B)
part_cases A B p h = elim (in_cases p (map (part_for 0) A) (map (part_for 1) B) h) [
  | inl k ↦ (let x = from_map (part_for 0) p A k in
      inl (
        ap (λ (q : Part). q.child) x.2,
        subst (λ r. In r A)
            (ap (λ (q : Part). q.rec) (sym x.2)) x.1,
      ))
  | inr k ↦ (let x = from_map (part_for 1) p B k in
      inr (
        ap (λ (q : Part). q.child) x.2,
        subst (λ r. In r B)
            (ap (λ (q : Part). q.rec) (sym x.2)) x.1,
      ))
]

pub two_internal : {M : Type 0} (rule : M → Rule) (first second : Tree M) (A B : List Rec)
    (maps : List LeafMap) → IsValid rule first → IsValid rule second → IsInternal rule first A maps
    → IsInternal rule second B maps
    → AreInternal rule (kid first (kid second no_kids)) (λ c. parts_for c (two_parts A B))
    maps
two_internal rule first second A B maps v w a b = (
  internal_of_members rule first A (parts_for 0 (two_parts A B)) maps v (in_first A B)
      (λ r h.
      let p = from_parts_for 0 (two_parts A B) r h in
      elim (part_cases A B p.0 p.1) [
        | inl x ↦ subst (λ y. In y A) p.3 x.1
        | inr x ↦ absurd (zero_one p.0.child p.2 x.0)
      ]) a,
  (
    internal_of_members rule second B (parts_for 1 (two_parts A B)) maps w (in_second A B)
        (λ r h.
        let p = from_parts_for 1 (two_parts A B) r h in
        elim (part_cases A B p.0 p.1) [
          | inl x ↦ absurd (zero_one p.0.child x.0 p.2)
          | inr x ↦ subst (λ y. In y B) p.3 x.1
        ]) b,
    tt,
  ),
)

pub first_ascends : (A B : List Rec) → Ascends part_cmp (two_parts A B) → Ascends rec_cmp A
first_ascends [] B up = tt
first_ascends (r ∷ A) B up = (
  all_of (λ s. rec_cmp r s ≡ Less) A (λ s h.
      ap (λ o. ordering_then o (values_cmp r.key s.key)) (sym (tied_itself nat_cmp_total 0))
      ∙ all_in (λ q. part_cmp (part_for 0 r) q ≡ Less) (two_parts A B) (part_for 0 s) up.0
      (in_left (part_for 0 s) (map (part_for 0) A) (map (part_for 1) B)
      (in_map (part_for 0) s A h))),
  first_ascends A B up.1,
)

pub second_ascends : (A B : List Rec) → Ascends part_cmp (two_parts A B) → Ascends rec_cmp B
second_ascends (r ∷ A) B up = second_ascends A B up.1
second_ascends [] [] up = tt
second_ascends [] (r ∷ B) up = (
  all_of (λ s. rec_cmp r s ≡ Less) B (λ s h.
      ap (λ o. ordering_then o (values_cmp r.key s.key)) (sym (tied_itself nat_cmp_total 1))
      ∙ all_in (λ q. part_cmp (part_for 1 r) q ≡ Less) (map (part_for 1) B) (part_for 1 s) up.0
      (in_map (part_for 1) s B h)),
  second_ascends [] B up.1,
)

pub two_first : (A B : List Rec) (r : Rec) → In (part_for 0 r) (two_parts A B) → In r A
two_first A B r h = elim (part_cases A B (part_for 0 r) h)
    [ inl x ↦ x.1 | inr x ↦ absurd (zero_one 0 refl x.0) ]

pub two_second : (A B : List Rec) (r : Rec) → In (part_for 1 r) (two_parts A B) → In r B
two_second A B r h = elim (part_cases A B (part_for 1 r) h)
    [ inl x ↦ absurd (zero_one 1 x.0 refl) | inr x ↦ x.1 ]

pub in_two_first : (A B : List Rec) (r : Rec) → In r A → In (part_for 0 r) (two_parts A B)
in_two_first A B r h = in_left (part_for 0 r) (map (part_for 0) A) (map (part_for 1) B)
    (in_map (part_for 0) r A h)

pub in_two_second : (A B : List Rec) (r : Rec) → In r B → In (part_for 1 r) (two_parts A B)
in_two_second A B r h =
    in_right (part_for 1 r) (map (part_for 0) A) (map (part_for 1) B) (in_map (part_for 1) r B h)

-- each part is of one of the two nodes, and fits its form
pub two_fit : (first second : Form) (A B : List Rec) → ((r : Rec) → In r A → IsOf first r)
    → ((r : Rec) → In r B → IsOf second r) → (p : Part) → In p (two_parts A B)
    → (p.child < 2) × IsOf (two_forms first second p.child) p.rec
two_fit first second A B a b p h = elim (part_cases A B p h) [
  | inl x ↦ (
    omega (arith, x.0),
    subst (λ n. IsOf (two_forms first second n) p.rec) (sym x.0)
        (a p.rec x.1),
  )
  | inr x ↦ (
    omega (arith, x.0),
    subst (λ n. IsOf (two_forms first second n) p.rec) (sym x.0)
        (b p.rec x.1),
  )
]

-- keys of one value stand in the order of the values
pub one_value : (r s : Rec) (k l : Value) → r.key ≡ k ∷ [] → s.key ≡ l ∷ [] → rec_cmp r s ≡ Less
    → value_cmp k l ≡ Less
one_value r s k l a b e = go (value_cmp k l) refl ((λ i. values_cmp (sym a i) (sym b i)) ∙ e)
  where
    go : (o : Ordering) → value_cmp k l ≡ o → ordering_then (value_cmp k l) Equal ≡ Less
        → value_cmp k l ≡ Less
    go Less is f = is
    go Equal is f = absurd (let x : Equal ≡ Less = ap (λ o. ordering_then o Equal) (sym is) ∙ f in
        cc)
    go Greater is f = absurd (let x : Greater ≡ Less = ap (λ o. ordering_then o Equal) (sym is)
        ∙ f in cc)

pub values_ascend : (f : Rec → Value × Value) (rs : List Rec)
    → ((r : Rec) → In r rs → r.key ≡ (f r).0 ∷ []) → Ascends rec_cmp rs
    → Ascends member_cmp (map f rs)
values_ascend f [] keys up = tt
values_ascend f (r ∷ rs) keys up = (
  all_of (λ q. member_cmp (f r) q ≡ Less) (map f rs) (λ q h.
      let s = from_map f q rs h in
      subst (λ x. member_cmp (f r) x ≡ Less) (sym s.2)
      (one_value r s.0 (f r).0 (f s.0).0 (keys r (inl refl)) (keys s.0 (inr s.1))
      (all_in (λ y. rec_cmp r y ≡ Less) rs s.0 up.0 s.1))),
  values_ascend f rs (λ s h. keys s (inr h)) up.1,
)

-- ---- pairs that were read of the rows

-- Where the parts stand in order: the pairs are ascending, and are those of each link whose rows
-- the parts are.
pub record AreRead (owner member : Kind) (rows : Value → List Value → List Part) (parts : List Part)
    (pairs : List (Value × Value)) : Type 0 where
  pub fit : (p : Value × Value) → In p pairs → Fits member p.0 × Fits owner p.1
  pub up : Ascends part_cmp parts → Ascends member_cmp pairs
  pub those : Ascends part_cmp parts → (link : Link) → AreRows owner member rows parts link
      → pairs ≡ fin.entries link

-- pairs that have the same members as those of a link, once they ascend
pub same_pairs : (link : Link) (pairs : List (Value × Value)) → Ascends member_cmp pairs
    → ((m o : Value) → In (m, o) pairs → fin.get link m ≡ Some o)
    → ((m o : Value) → fin.get link m ≡ Some o → In (m, o) pairs) → pairs ≡ fin.entries link
same_pairs link pairs up to from =
    ascends_unique member_total pairs (fin.entries link) up
    (pairs_ascend (fin.entries link) (fin.entries_sorted link))
    (λ q h. pair_in link q.0 q.1 (to q.0 q.1 h))
    (λ q h. from q.0 q.1 (in_pair link q h))

module _ {owner member : Kind} {forms : ℕ → Form} {nodes : ℕ}
    {rows : Value → List Value → List Part} (laws : RowLaws owner member forms nodes rows)
    (apart : RowsApart rows) (parts : List Part) (pairs : List (Value × Value))
    (read : AreRead owner member rows parts pairs) (gs : List Owned) (are : (link : Link)
    → fin.entries link ≡ pairs → AreOwners link gs) where
  -- an owner has too many members
  told_many : (g : Owned) → In g gs → most_members < length g.members
      → IsTold owner member rows parts None
  told_many g h many = λ order link of_link.
      let own = are link (sym (read.those (ascends part_cmp parts order) link of_link)) in
      let few = of_link.is_link.few g.owner in
      let same = ap (λ (ms : List Value). length ms) (own.each g h) in
      omega (arith, many, few, same)

  -- the rows of the pairs aren't what was found
  told_other : (IsStrictlySortedBy part_cmp parts
      → IsDistinct (eq_by_cmp part_cmp) (rows_of rows gs)
      → ((p : Part) → (In p parts → In p (rows_of rows gs)) × (In p (rows_of rows gs) → In p parts))
      → ⊥) → IsTold owner member rows parts None
  told_other differ = λ order link of_link.
      let own = are link (sym (read.those (ascends part_cmp parts order) link of_link)) in
      differ order (rows_distinct laws link gs own apart of_link.is_link)
      (λ p. (
        λ h. in_rows laws link gs own p (of_link.to p h),
        λ h. of_link.from p (from_rows laws link gs own p h),
      ))

  pub told_pairs : ((g : Owned) → In g gs → length g.members ≤ most_members)
      → ((p : Part) → (In p parts → In p (rows_of rows gs)) × (In p (rows_of rows gs) → In p parts))
      → IsTold owner member rows parts (Some pairs)
  told_pairs few same = λ order.
      let up = ascends part_cmp parts order in
      let is = fin.entries-from_sorted value_cmp pairs (pairs_sorted pairs (read.up up)) in
      let link = fin.from_sorted {R = value_cmp} pairs in
      let own = are link is in (
        link,
        record {
          is_link = few_link laws link gs own
              (λ m o e. read.fit (m, o) (subst (In (m, o)) is (pair_in link m o e))) few;
          to = λ p h. from_rows laws link gs own p ((same p).0 h);
          from = λ p h. (same p).1 (in_rows laws link gs own p h);
        },
        sym is,
      )

  -- what the comparison of the rows of the pairs says
  pub told_of : (made : List Part) → made ≡ rows_of rows gs → (told : Option (List (Value × Value)))
      → ArePairsOfRows pairs gs made parts told → IsTold owner member rows parts told
  told_of made is None (inl many) = told_many many.0 many.1 many.2
  told_of made is None (inr differ) = told_other (λ order distinct same. differ order
      (subst (IsDistinct (eq_by_cmp part_cmp)) (sym is) distinct)
      (λ p. (λ h. subst (In p) (sym is) ((same p).0 h), λ h. (same p).1 (subst (In p) is h))))
  told_of made is (Some told) (those, few, same) = subst
      (λ (ps : List (Value × Value)). IsTold owner member rows parts (Some ps)) (sym those)
      (told_pairs few (λ p. (
        λ h. subst (In p) is ((same p).0 h),
        λ h. (same p).1
            (subst (In p) (sym is) h),
      )))
