-- The pairs of a ring.
use Rattle.std.proofs.Common.{◌≡◌, ◌<◌, suc, true, List, [], ◌∷◌, inl, inr, length, map, Option, Some, refl, sym, ap, subst, ◌∙◌, get_or, arith}
use Rattle.std.specs.List.{IsDistinct}
use Rattle.std.specs.Ordering.{eq_by_cmp}
use Rattle.std.specs.declared.cmp.Ordering.TheVariants.{Less}
use Rattle.std.specs.FinMap as fin
use Rattle.gx_values.specs.declared.values.Kind.{Kind}
use Rattle.gx_values.specs.declared.values.Value.{Value}
use Rattle.gx_values.specs.declared.records.Rec.{Rec}
use Rattle.gx_values.specs.Values.{value_cmp, Fits, no_value}
use Rattle.gx_values.proofs.OrderLemmas.{value_cmp_total}
use Rattle.gx_ports.specs.LeafMaps.{LeafMap}
use Rattle.gx_mapping.specs.declared.parts.Part.{Part}
use Rattle.gx_mapping.specs.Rule.{Rule, In, IsOf, part_cmp}
use Rattle.gx_mapping.specs.Laws.{MappingLaws}
use Rattle.gx_mapping.proofs.RuleLemmas.{all_in}
use Rattle.gx_gather.specs.Gather.{rec_cmp, part_for}
use Rattle.gx_gather.proofs.Lists.{in_map, from_map, all_of}
use Rattle.gx_gather.proofs.Orders.{Ascends, ascends, not_before_itself}
use Rattle.gx_stack.specs.Tree.{Tree, tree_form}
use Rattle.gx_stack.specs.Held.{AreHeld}
use Rattle.gx_links.specs.Links.{Link, members_of}
use Rattle.gx_links.specs.Rows.{RowsApart, RowLaws, IsHeldLink, two_forms, two_nodes, owner_kind, member_kind}
use Rattle.gx_links.specs.Pairs.{AreRows, ArePairs, IsTold, two_parts}
use Rattle.gx_links.proofs.KindLemmas.{fit_kinds, one_kind}
use Rattle.gx_links.proofs.MemberLemmas.{in_members}
use Rattle.gx_links.proofs.PairLemmas.{AreRead, not_tied, second_ascends, values_ascend, same_pairs, two_second, in_two_second, two_fit, two_ascend, two_internal, pairs_held}
use Rattle.gx_ring.specs.Ring.{first, head_rec, chain_rec, chain, ring_rows, IsRing, ring_rule, key_value, chain_pair}
use Rattle.gx_ring.specs.RingLaws.{IsHead, in_chain, tells, owner_in_chain, owned_in_chain, chain_of, chain_row, row_cases, row_of, of_row, zero_one, ring_row_laws}
use Rattle.gx_ring.proofs.FoundLemmas.{owner_field}
use Rattle.gx_ring.proofs.HeldLemmas.{heads_valid, nexts_valid}

-- ---- rows are apart

chain_distinct : (o : Value) (ms : List Value) → Ascends value_cmp ms
    → IsDistinct (eq_by_cmp part_cmp) (map (part_for 1) (chain o ms))
unfolding IsDistinct
chain_distinct o [] up = tt
chain_distinct o (m ∷ ms) up = (
  all_of _ (map (part_for 1) (chain o ms)) (λ q h.
      let r = from_map (part_for 1) q (chain o ms) h in
      not_tied (part_for 1 (chain_rec o m (first ms))) q (λ child key.
      let same : key_value r.0 ≡ m = sym (ap (λ (p : Part). key_value p.rec) r.2)
      ∙ sym (ap (λ ks. get_or ks 0 no_value) key) ∙ tells o m (first ms) in
      not_before_itself value_cmp_total m
      (subst (λ v. value_cmp m v ≡ Less) same
      (all_in (λ y. value_cmp m y ≡ Less) ms (key_value r.0) up.0
      (in_chain o ms r.0 r.1))))),
  chain_distinct o ms up.1,
)

rows_once : (o : Value) (ms : List Value) → Ascends value_cmp ms
    → IsDistinct (eq_by_cmp part_cmp) (ring_rows o ms)
unfolding IsDistinct
rows_once o [] up = tt
rows_once o (m ∷ ms) up = (
  all_of _ (map (part_for 1) (chain o (m ∷ ms))) (λ q h.
      let r = from_map (part_for 1) q (chain o (m ∷ ms)) h in
      not_tied (part_for 0 (head_rec o m)) q
      (λ child key. zero_one 0 q.child refl (ap (λ (p : Part). p.child) r.2) child)),
  chain_distinct o (m ∷ ms) up,
)

pub ring_apart : RowsApart ring_rows
ring_apart = record {
  once = λ o ms up. rows_once o ms (ascends value_cmp ms up);
  whose = λ o x ms ys p h k.
      elim (row_cases o ms p h) [
        | inl a ↦ elim (row_cases x ys p k) [
          | inl b ↦ sym (owner_of o ms p.rec a.1) ∙ owner_of x ys p.rec b.1
          | inr b ↦ absurd (zero_one p.child p.child a.0 b.0 refl)
        ]
        | inr a ↦ elim (row_cases x ys p k) [
          | inl b ↦ absurd (zero_one p.child p.child b.0 a.0 refl)
          | inr b ↦ sym (owner_in_chain o ms p.rec a.1) ∙ owner_in_chain x ys p.rec b.1
        ]
      ];
}
  where
    owner_of : (o : Value) (ms : List Value) (h : Rec) → IsHead o ms h → key_value h ≡ o
    owner_of o ms h is = ap key_value is.is

-- ---- pairs read of the chain

-- a record of a member has one value as key, and the owner is its third field
pub record IsChained (owner member : Kind) (r : Rec) : Type 0 where
  pub key : r.key ≡ (chain_pair r).0 ∷ []
  pub fields : 2 < length r.fields
  pub member_fits : Fits member (chain_pair r).0
  pub owner_fits : Fits owner (chain_pair r).1

module _ {M : Type 0} (rule : M → Rule) (heads nexts : Tree M) (valid : IsRing rule heads nexts)
  where
    pub chained_of : (r : Rec) → IsOf (tree_form rule nexts) r
        → IsChained (owner_kind rule heads) (member_kind rule nexts) r
    chained_of r fits =
        let k = one_kind (member_kind rule nexts) r.key
        (fit_kinds (tree_form rule nexts).keys (member_kind rule nexts ∷ []) r.key
        valid.chain_keys fits.key) in
        let f = owner_field rule heads nexts valid r fits in
        record { key = k.0; fields = f.0; member_fits = k.1; owner_fits = f.1 }

    pub key_ready : (r : Rec) → IsOf (tree_form rule nexts) r
        → 0 < length r.key
    key_ready r fits =
        subst (λ (vs : List Value). 0 < length vs) (sym (chained_of r fits).key) (omega arith)

    pub fields_ready : (r : Rec) → IsOf (tree_form rule nexts) r
        → 2 < length r.fields
    fields_ready r fits = (chained_of r fits).fields

    module _ (A B : List Rec) (fits : (r : Rec) → In r B → IsOf (tree_form rule nexts) r) where
      rise : Ascends part_cmp (two_parts A B)
          → Ascends (λ (p q : Value × Value). value_cmp p.0 q.0) (map chain_pair B)
      rise order = values_ascend chain_pair B (λ r h. (chained_of r (fits r h)).key)
          (second_ascends A B order)

      module _ (link : Link) (are : AreRows (owner_kind rule heads) (member_kind rule nexts)
          ring_rows
          (two_parts A B) link) where
        pair_owned : (m o : Value) → In (m, o) (map chain_pair B) → fin.get link m ≡ Some o
        pair_owned m o h =
            let r = from_map chain_pair (m, o) B h in
            let row = row_of link (part_for 1 r.0)
            (are.to (part_for 1 r.0) (in_two_second A B r.0 r.1)) in
            elim (row_cases row.0 (members_of link row.0) (part_for 1 r.0) row.1) [
              | inl x ↦ absurd (zero_one 1 1 x.0 refl refl)
              | inr x ↦ ap (λ (q : Value × Value). fin.get link q.0) r.2
                  ∙ owned_in_chain link row.0 r.0 x.1
                  ∙ ap Some (sym (owner_in_chain row.0 (members_of link row.0) r.0 x.1)
                  ∙ ap (λ (q : Value × Value). q.1) (sym r.2))
            ]

        owned_pair : (m o : Value) → fin.get link m ≡ Some o → In (m, o) (map chain_pair B)
        owned_pair m o e =
            let ms = members_of link o in
            let r = chain_of o m ms (in_members link o m e) in
            let there = two_second A B r.0
            (are.from (part_for 1 r.0) (of_row link o (part_for 1 r.0) (chain_row o ms r.0 r.1)))
            in
            let one : key_value r.0 ≡ m = ap (λ ks. get_or ks 0 no_value) r.2 in
            let two : (chain_pair r.0).1 ≡ o = owner_in_chain o ms r.0 r.1 in
            subst (λ (q : Value × Value). In q (map chain_pair B)) (λ i. (one i, two i))
            (in_map chain_pair r.0 B there)

      pub ring_read : AreRead (owner_kind rule heads) (member_kind rule nexts) ring_rows
          (two_parts A B) (map chain_pair B)
      ring_read = record {
        fit = λ p h.
            let r = from_map chain_pair p B h in
            let own = chained_of r.0 (fits r.0 r.1) in
            subst (λ (q : Value × Value). Fits (member_kind rule nexts) q.0
            × Fits (owner_kind rule heads) q.1) (sym r.2) (own.member_fits, own.owner_fits);
        up = rise;
        those = λ order link are. same_pairs link (map chain_pair B) (rise order)
            (pair_owned link are) (owned_pair link are);
      }

    -- ---- what nodes hold

    pub ring_rows_lawful : RowLaws (owner_kind rule heads) (member_kind rule nexts)
        (two_forms (tree_form rule heads) (tree_form rule nexts)) 2 ring_rows
    ring_rows_lawful = ring_row_laws (owner_kind rule heads) (member_kind rule nexts)
        (tree_form rule heads) (tree_form rule nexts) valid.head_keys valid.head_fields
        valid.chain_keys valid.chain_fields

    -- the records of both nodes, the second of which were read later
    pub ring_pairs : ((m : M) → MappingLaws (rule m)) → (whole : Type 0) (maps : List LeafMap)
        (A B : List Rec) → AreHeld rule heads whole maps A → AreHeld rule nexts whole maps B
        → (found : Option (List (Value × Value)))
        → IsTold (owner_kind rule heads) (member_kind rule nexts) ring_rows (two_parts A B) found
        → ArePairs (ring_rule rule heads nexts) (IsHeldLink rule (two_nodes heads nexts) ring_rows)
        whole maps found
    ring_pairs laws whole maps A B a b found told = pairs_held ring_rows_lawful rule laws
        (two_nodes heads nexts) valid.nodes refl (two_parts A B) maps
        (two_fit (tree_form rule heads) (tree_form rule nexts) A B a.fit b.fit) suc true whole found
        told
        (λ w. two_ascend A B (ascends rec_cmp A (a.in_order w)) (ascends rec_cmp B (b.in_order w)))
        (λ w. two_internal rule heads nexts A B maps (heads_valid rule heads nexts valid)
        (nexts_valid rule heads nexts valid) (a.held w) (b.held w))
