-- The pairs of an inverted list.
use Rattle.std.proofs.Common.{◌≡◌, ◌≢◌, ◌<◌, true, false, List, [], ◌∷◌, inl, inr, length, map, Option, Some, refl, sym, ap, subst, ◌∙◌, get_or, arith}
use Rattle.std.specs.List.{IsDistinct}
use Rattle.std.specs.Ordering.{eq_by_cmp}
use Rattle.std.specs.declared.cmp.Ordering.TheVariants.{Less}
use Rattle.std.specs.FinMap as fin
use Rattle.gx_values.specs.declared.values.Kind.{Kind}
use Rattle.gx_values.specs.declared.values.Value.{Value}
use Rattle.gx_values.specs.declared.records.Rec.{Rec}
use Rattle.gx_values.specs.Values.{value_cmp, Fits, no_value}
use Rattle.gx_values.proofs.OrderLemmas.{value_cmp_total}
use Rattle.gx_mapping.specs.declared.parts.Part.{Part}
use Rattle.gx_mapping.specs.Rule.{Rule, In, IsOf, part_cmp}
use Rattle.gx_gather.specs.Gather.{rec_cmp, part_for}
use Rattle.gx_gather.proofs.Lists.{from_each, in_map, from_map, all_of}
use Rattle.gx_gather.proofs.Orders.{Ascends, ascends, not_before_itself}
use Rattle.gx_stack.specs.Tree.{Tree, tree_form}
use Rattle.gx_stack.specs.Held.{AreHeld}
use Rattle.gx_ports.specs.LeafMaps.{LeafMap}
use Rattle.gx_mapping.specs.Laws.{MappingLaws}
use Rattle.gx_mapping.proofs.RuleLemmas.{all_in}
use Rattle.gx_links.specs.Links.{Link}
use Rattle.gx_links.specs.Rows.{RowsApart, IsHeldLink, two_nodes, owner_kind, member_kind}
use Rattle.gx_links.specs.Pairs.{IsTold, ArePairs, two_parts}
use Rattle.gx_links.proofs.KindLemmas.{fit_kinds, one_kind}
use Rattle.gx_links.proofs.PairLemmas.{AreRead, pairs_held, two_fit, two_ascend, two_internal, not_tied, second_ascends, values_ascend, same_pairs, two_second, in_two_second}
use Rattle.gx_lists.specs.Inverted.{pair_rec, owned_rec, owned_pair, pair_rows, inverted_rows, IsInverted, inverted_rule}
use Rattle.gx_lists.specs.InvertedLaws.{inverted_row_laws, IsRow, row_of, of_row, zero_one}

-- ---- rows are apart

first_is : (p q : Part) (r s : Rec) → p ≡ part_for 0 r → q ≡ part_for 0 s → p.rec.key ≡ q.rec.key
    → r.key ≡ s.key
first_is p q r s a b e = ap (λ (x : Part). x.rec.key) (sym a) ∙ e ∙ ap (λ (x : Part). x.rec.key) b

second_is : (p q : Part) (r s : Rec) → p ≡ part_for 1 r → q ≡ part_for 1 s → p.rec.key ≡ q.rec.key
    → r.key ≡ s.key
second_is p q r s a b e = ap (λ (x : Part). x.rec.key) (sym a) ∙ e ∙ ap (λ (x : Part). x.rec.key) b

-- rows of two members
two_members : (o x m n : Value) (p q : Part) → m ≢ n → In p (pair_rows o m) → In q (pair_rows x n)
    → eq_by_cmp part_cmp p q ≡ false
two_members o x m n p q ne h k = not_tied p q (λ child key. go h k child key)
  where
    go : In p (pair_rows o m) → In q (pair_rows x n) → p.child ≡ q.child → p.rec.key ≡ q.rec.key → ⊥
    go (inl a) (inl b) child key =
        ne (ap (λ ks. get_or ks 1 no_value) (first_is p q (pair_rec o m) (pair_rec x n) a b key))
    go (inr (inl a)) (inr (inl b)) child key =
        ne (ap (λ ks. get_or ks 0 no_value) (second_is p q (owned_rec o m) (owned_rec x n) a b key))
    go (inl a) (inr (inl b)) child key = zero_one p q (pair_rec o m) (owned_rec x n) a b child
    go (inr (inl a)) (inl b) child key = zero_one q p (pair_rec x n) (owned_rec o m) b a (sym child)
    go (inr (inr j)) k child key = j
    go (inl a) (inr (inr j)) child key = j
    go (inr (inl a)) (inr (inr j)) child key = j

rows_once : (o : Value) (ms : List Value) → Ascends value_cmp ms
    → IsDistinct (eq_by_cmp part_cmp) (inverted_rows o ms)
unfolding IsDistinct
rows_once o [] up = tt
rows_once o (m ∷ ms) up = (
  all_of _ (part_for 1 (owned_rec o m) ∷ inverted_rows o ms) (λ q h. first q h),
  (
    all_of _ (inverted_rows o ms) (λ q h. later (part_for 1 (owned_rec o m)) (inr (inl refl)) q h),
    rows_once o ms up.1,
  ),
)
  where
    later : (p : Part) → In p (pair_rows o m) → (q : Part) → In q (inverted_rows o ms)
        → eq_by_cmp part_cmp p q ≡ false
    later p i q h =
        let n = from_each (pair_rows o) q ms h in
        two_members o o m n.0 p q
        (λ e. not_before_itself value_cmp_total n.0
        (subst (λ v. value_cmp v n.0 ≡ Less) e
        (all_in (λ y. value_cmp m y ≡ Less) ms n.0 up.0 n.1))) i n.2

    first : (q : Part) → In q (part_for 1 (owned_rec o m) ∷ inverted_rows o ms)
        → eq_by_cmp part_cmp (part_for 0 (pair_rec o m)) q ≡ false
    first q (inl e) = not_tied (part_for 0 (pair_rec o m)) q
        (λ child key. zero_one (part_for 0 (pair_rec o m)) q (pair_rec o m)
        (owned_rec o m) refl e child)
    first q (inr h) = later (part_for 0 (pair_rec o m)) (inl refl) q h

pub inverted_apart : RowsApart inverted_rows
inverted_apart = record {
  once = λ o ms up. rows_once o ms (ascends value_cmp ms up);
  whose = λ o x ms ys p h k.
      let m = from_each (pair_rows o) p ms h in
      let n = from_each (pair_rows x) p ys k in
      same o x m.0 n.0 p m.2 n.2;
}
  where
    same : (o x m n : Value) (p : Part) → In p (pair_rows o m) → In p (pair_rows x n) → o ≡ x
    same o x m n p (inl a) (inl b) = ap (λ (q : Part). get_or q.rec.key 0 no_value) (sym a ∙ b)
    same o x m n p (inr (inl a)) (inr (inl b)) =
        ap (λ (q : Part). get_or q.rec.fields 0 no_value) (sym a ∙ b)
    same o x m n p (inl a) (inr (inl b)) =
        absurd (zero_one p p (pair_rec o m) (owned_rec x n) a b refl)
    same o x m n p (inr (inl a)) (inl b) =
        absurd (zero_one p p (pair_rec x n) (owned_rec o m) b a refl)
    same o x m n p (inr (inr j)) k = absurd j
    same o x m n p (inl a) (inr (inr j)) = absurd j
    same o x m n p (inr (inl a)) (inr (inr j)) = absurd j

-- ---- pairs read of the second node

-- a record of a member has one value as key and one field
pub record IsOwnedRec (owner member : Kind) (r : Rec) : Type 0 where
  pub key : r.key ≡ (owned_pair r).0 ∷ []
  pub fields : r.fields ≡ (owned_pair r).1 ∷ []
  pub member_fits : Fits member (owned_pair r).0
  pub owner_fits : Fits owner (owned_pair r).1

module _ {M : Type 0} (rule : M → Rule) (down up : Tree M) (valid : IsInverted rule down up) where
  pub owned_of : (r : Rec) → IsOf (tree_form rule up) r
      → IsOwnedRec (owner_kind rule down) (member_kind rule up) r
  owned_of r fits =
      let k = one_kind (member_kind rule up) r.key
      (fit_kinds (tree_form rule up).keys (member_kind rule up ∷ []) r.key valid.up_keys fits.key)
      in
      let f = one_kind (owner_kind rule down) r.fields
      (fit_kinds (tree_form rule up).fields (owner_kind rule down ∷ []) r.fields valid.up_fields
      fits.fields) in
      record { key = k.0; fields = f.0; member_fits = k.1; owner_fits = f.1 }

  pub key_ready : (r : Rec) → IsOf (tree_form rule up) r
      → 0 < length r.key
  key_ready r fits =
      subst (λ (vs : List Value). 0 < length vs) (sym (owned_of r fits).key) (omega arith)

  pub fields_ready : (r : Rec) → IsOf (tree_form rule up) r
      → 0 < length r.fields
  fields_ready r fits =
      subst (λ (vs : List Value). 0 < length vs) (sym (owned_of r fits).fields) (omega arith)

  module _ (A B : List Rec) (fits : (r : Rec) → In r B → IsOf (tree_form rule up) r) where
    pub inverted_read : AreRead (owner_kind rule down) (member_kind rule up) inverted_rows
        (two_parts A B) (map owned_pair B)
    inverted_read = record {
      fit = λ p h.
          let r = from_map owned_pair p B h in
          let own = owned_of r.0 (fits r.0 r.1) in
          subst (λ (q : Value × Value). Fits (member_kind rule up) q.0
          × Fits (owner_kind rule down) q.1) (sym r.2)
          (own.member_fits, own.owner_fits);
      up = λ order. rise order;
      those = λ order link are. same_pairs link (map owned_pair B) (rise order)
          (λ m o h.
          let r = from_map owned_pair (m, o) B h in
          let row = row_of link (part_for 1 r.0)
          (are.to (part_for 1 r.0) (in_two_second A B r.0 r.1)) in
          at link m o r.0 r.2 row row.there)
          (λ m o e. in_map owned_pair (owned_rec o m) B
          (two_second A B (owned_rec o m)
          (are.from (part_for 1 (owned_rec o m))
          (of_row link o m (part_for 1 (owned_rec o m)) e (inr (inl refl))))));
    }
      where
        rise : Ascends part_cmp (two_parts A B)
            → Ascends (λ (p q : Value × Value). value_cmp p.0 q.0) (map owned_pair B)
        rise order = values_ascend owned_pair B (λ r h. (owned_of r (fits r h)).key)
            (second_ascends A B order)

        at : (link : Link) (m o : Value) (r : Rec) → (m, o) ≡ owned_pair r
            → (row : IsRow link (part_for 1 r))
            → In (part_for 1 r) (pair_rows row.owner row.member) → fin.get link m ≡ Some o
        at link m o r is row (inl e) =
            absurd (zero_one (part_for 1 r) (part_for 1 r) (pair_rec row.owner row.member) r e refl
            refl)
        at link m o r is row (inr (inl e)) =
            let pair : (m, o) ≡ (row.member, row.owner) = is ∙ ap (λ (p : Part). owned_pair p.rec) e
            in
            ap (λ (q : Value × Value). fin.get link q.0) pair ∙ row.owned
            ∙ ap (λ (q : Value × Value). Some q.1) (sym pair)
        at link m o r is row (inr (inr j)) = absurd j

pub inverted_held : {M : Type 0} (rule : M → Rule) → ((m : M) → MappingLaws (rule m))
    → (down up : Tree M) (valid : IsInverted rule down up) (whole : Type 0) (maps : List LeafMap)
    (A B : List Rec)
    (found : Option (List (Value × Value))) → AreHeld rule down whole maps A
    → AreHeld rule up whole maps B
    → IsTold (owner_kind rule down) (member_kind rule up) inverted_rows (two_parts A B) found
    → ArePairs (inverted_rule rule down up) (IsHeldLink rule (two_nodes down up) inverted_rows)
    whole maps found
inverted_held rule laws down up valid whole maps A B found a b told =
    pairs_held (inverted_row_laws (owner_kind rule down) (member_kind rule up) (tree_form rule down)
    (tree_form rule up) valid.down_keys
    valid.down_fields valid.up_keys valid.up_fields) rule laws (two_nodes down up) valid.nodes refl
    (two_parts A B) maps
    (two_fit (tree_form rule down) (tree_form rule up) A B a.fit b.fit) (λ _. 1) true whole found
    told
    (λ w. two_ascend A B (ascends rec_cmp A (a.in_order w)) (ascends rec_cmp B (b.in_order w)))
    (λ w. two_internal rule down up A B maps valid.nodes.1 valid.nodes.3.1 (a.held w) (b.held w))
