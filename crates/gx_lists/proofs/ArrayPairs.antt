-- The pairs of a pointer array.
use Rattle.std.proofs.Common.{◌≡◌, ◌<◌, ℕ, false, List, [], ◌∷◌, ◌++◌, inl, inr, length, map, None, Some, Option, refl, sym, ap, subst, ◌∙◌, get_or, arith, append-nil}
use Rattle.std.specs.List.{IsDistinct}
use Rattle.std.specs.List.Sorted.{IsPermutation, IsSortedBy, IsStrictlySortedBy}
use Rattle.std.specs.Ordering.{is_lt, eq_by_cmp}
use Rattle.std.specs.declared.cmp.Ordering.TheVariants.{Less}
use Rattle.std.specs.Cmp.{Equal-is, eq_by_cmp_equiv}
use Rattle.std.specs.FinMap as fin
use Rattle.std.proofs.lemmas.Map.Keys.{IsDistinct-from_sorted, IsDistinct-IsPermutation}
use Rattle.std.proofs.lemmas.Option.{same_Some}
use Rattle.gx_values.specs.declared.values.Kind.{Kind}
use Rattle.gx_values.specs.declared.values.Kind.TheVariants as kind
use Rattle.gx_values.specs.declared.values.Value.{Value}
use Rattle.gx_values.specs.declared.values.Value.TheVariants as value
use Rattle.gx_values.specs.declared.records.Rec.{Rec}
use Rattle.gx_values.specs.Values.{value_cmp, Fits, no_value}
use Rattle.gx_values.specs.Keys.{key_of, IsKeyKind}
use Rattle.gx_values.proofs.OrderLemmas.{value_cmp_total, value_cmp_same}
use Rattle.gx_ports.specs.LeafMaps.{LeafMap}
use Rattle.gx_mapping.specs.declared.parts.Part.{Part}
use Rattle.gx_mapping.specs.Rule.{Rule, In, IsOf, part_cmp}
use Rattle.gx_mapping.specs.Laws.{MappingLaws}
use Rattle.gx_mapping.proofs.RuleLemmas.{all_in}
use Rattle.gx_gather.specs.Gather.{rec_cmp, part_for}
use Rattle.gx_gather.proofs.Lists.{in_each, from_each, in_map, from_map, all_of, bool_cases}
use Rattle.gx_gather.proofs.Orders.{Ascends, ascends, sorted, rises, rises_ascends, not_before_itself}
use Rattle.gx_gather.proofs.Made.{permuted_in, permuted_back}
use Rattle.gx_stack.specs.Tree.{Tree, tree_form, leaf_body}
use Rattle.gx_stack.specs.Internal.{IsInternal, AreInternal, parts_for}
use Rattle.gx_stack.specs.Held.{AreHeld}
use Rattle.gx_stack.proofs.Children.{in_parts_for, from_parts_for}
use Rattle.gx_stack.proofs.Same.{internal_of_members}
use Rattle.gx_links.specs.declared.pairs.Owned.{Owned}
use Rattle.gx_links.specs.Kinds.{AreOfKinds}
use Rattle.gx_links.specs.Links.{Link, members_of, IsLink}
use Rattle.gx_links.specs.Rows.{RowsApart, RowLaws, IsHeldLink, owner_kind}
use Rattle.gx_links.specs.Owners.{member_cmp, pair_with, pairs_under, pairs_of, AreOwners}
use Rattle.gx_links.specs.Pairs.{AreRows, IsTold, ArePairs, rows_of, two_parts}
use Rattle.gx_links.proofs.KindLemmas.{fit_kinds, one_kind}
use Rattle.gx_links.proofs.MemberLemmas.{pair_in, in_pair, in_members, from_members, members_ascend, members_are}
use Rattle.gx_links.proofs.OwnerLemmas.{member_total, one_group}
use Rattle.gx_links.proofs.PairLemmas.{AreRead, first_ascends, one_value, same_pairs, two_first, in_two_first, part_cases, two_ascend, pairs_held, told_pairs}
use Rattle.gx_stack.proofs.WholeLayer.{distinct_append}
use Rattle.gx_lists.specs.Arrays.{array_rec, array_rows, one_node, array_rule, IsArray, AreCut, AreOfOneOwner, IsCutOf, IsOfNoOwner, AreCutOf}
use Rattle.gx_lists.specs.ArrayLaws.{key_kind, members_fit, array_row_laws, IsArrayRow, array_row_of, of_array_row}
use Rattle.gx_lists.specs.Joined.{same_joined}

-- ---- rows are apart

pub array_apart : RowsApart array_rows
unfolding IsDistinct
array_apart = record { once = once; whose = whose }
  where
    once : (o : Value) (ms : List Value) → IsStrictlySortedBy value_cmp ms
        → IsDistinct (eq_by_cmp part_cmp) (array_rows o ms)
    once o [] up = tt
    once o (m ∷ ms) up = (tt, tt)

    whose : (o x : Value) (ms ys : List Value) (p : Part) → In p (array_rows o ms)
        → In p (array_rows x ys) → o ≡ x
    whose o x [] ys p h k = absurd h
    whose o x (m ∷ ms) [] p h k = absurd k
    whose o x (m ∷ ms) (n ∷ ys) p (inl a) (inl b) =
        ap (λ (q : Part). get_or q.rec.key 0 no_value) (sym a ∙ b)
    whose o x (m ∷ ms) (n ∷ ys) p (inr j) k = absurd j
    whose o x (m ∷ ms) (n ∷ ys) p (inl a) (inr j) = absurd j

-- ---- owners that were cut out of records

pub cut_at : (kind : Kind) (rs : List Rec) (gs : List Owned) (g : Owned) → AreCutOf kind rs gs
    → In g gs
    → (r : Rec) × In r rs × IsCutOf kind r g
cut_at kind [] [] g cut h = absurd h
cut_at kind [] (x ∷ gs) g cut h = absurd cut
cut_at kind (r ∷ rs) [] g cut h = absurd cut
cut_at kind (r ∷ rs) (x ∷ gs) g cut (inl e) = (r, inl refl, subst (IsCutOf kind r) (sym e) cut.0)
cut_at kind (r ∷ rs) (x ∷ gs) g cut (inr h) =
    (let q = cut_at kind rs gs g cut.1 h in (q.0, inr q.1, q.2))

pub cut_of : (kind : Kind) (rs : List Rec) (gs : List Owned) (r : Rec) → AreCutOf kind rs gs
    → In r rs → (g : Owned) × In g gs
    × IsCutOf kind r g
cut_of kind [] [] r cut h = absurd h
cut_of kind [] (x ∷ gs) r cut h = absurd cut
cut_of kind (s ∷ rs) [] r cut h = absurd cut
cut_of kind (s ∷ rs) (x ∷ gs) r cut (inl e) =
    (x, inl refl, subst (λ q. IsCutOf kind q x) (sym e) cut.0)
cut_of kind (s ∷ rs) (x ∷ gs) r cut (inr h) =
    (let q = cut_of kind rs gs r cut.1 h in (q.0, inr q.1, q.2))

-- one record more
pub cut_more : (kind : Kind) (rs : List Rec) (gs : List Owned) (r : Rec) (g : Owned)
    → AreCutOf kind rs gs → IsCutOf kind r g
    → AreCutOf kind (rs ++ r ∷ []) (gs ++ g ∷ [])
cut_more kind [] [] r g cut one = (one, tt)
cut_more kind [] (x ∷ gs) r g cut one = absurd cut
cut_more kind (s ∷ rs) [] r g cut one = absurd cut
cut_more kind (s ∷ rs) (x ∷ gs) r g cut one = (cut.0, cut_more kind rs gs r g cut.1 one)

pub from_pairs : (gs : List Owned) (p : Value × Value) → In p (pairs_of gs)
    → (g : Owned) × (In g gs × In p.0 g.members × (p.1 ≡ g.owner))
from_pairs gs p h =
    let g = from_each pairs_under p gs h in
    let m = from_map (pair_with g.0.owner) p g.0.members g.2 in (
      g.0,
      (
        g.1,
        subst (λ x. In x g.0.members) (ap (λ (q : Value × Value). q.0) (sym m.2)) m.1,
        ap (λ (q : Value × Value). q.1) m.2,
      ),
    )

pub in_pairs : (gs : List Owned) (g : Owned) (m : Value) → In g gs → In m g.members
    → In (m, g.owner) (pairs_of gs)
in_pairs gs g m h k = in_each pairs_under g (m, g.owner) gs h
    (in_map (pair_with g.owner) m g.members k)

one_row : (o : Value) (ms : List Value) → 0 < length ms
    → array_rows o ms ≡ part_for 0 (array_rec o ms) ∷ []
one_row o [] some = absurd (omega arith)
one_row o (m ∷ ms) some = refl

-- their rows are the records
cut_rows : (kind : Kind) (rs : List Rec) (gs : List Owned) → AreCutOf kind rs gs
    → ((r : Rec) (g : Owned) → In r rs → IsCutOf kind r g → array_rec g.owner g.members ≡ r)
    → rows_of array_rows gs ≡ map (part_for 0) rs
cut_rows kind [] [] cut is = refl
cut_rows kind [] (x ∷ gs) cut is = absurd cut
cut_rows kind (r ∷ rs) [] cut is = absurd cut
cut_rows kind (r ∷ rs) (g ∷ gs) cut is =
    ap (λ ps. ps ++ rows_of array_rows gs) (one_row g.owner g.members cut.0.members.some)
    ∙ (λ i. part_for 0 (is r g (inl refl) cut.0 i) ∷ cut_rows kind rs gs cut.1
    (λ s h k. is s h (inr k)) i)

-- a record with members that no owner can have
pub cut_other : (kind : Kind) (r : Rec) (body : List ℕ) (before now : List Value) → IsKeyKind kind
    → body ≡ leaf_body r.fields
    → before ≡ [] → AreCut kind body before now → (AreOfOneOwner now → ⊥) → IsOfNoOwner kind r
cut_other kind r body before now key is none cut other = λ ms fit one same.
    let found : now ≡ cut.found = cut.appended ∙ ap (λ zs. zs ++ cut.found) none in
    other (subst AreOfOneOwner
    (same_joined kind ms cut.found key fit cut.fit (same ∙ sym (cut.joined ∙ is)) ∙ sym found)
    one)

one_bytes : (most : ℕ) (vs : List Value) → AreOfKinds (kind.Bytes most ∷ []) vs
    → vs ≡ value.Bytes (leaf_body vs) ∷ []
one_bytes most [] fit = absurd fit
one_bytes most (value.Int n ∷ vs) fit = absurd fit.0
one_bytes most (value.Text t ∷ vs) fit = absurd fit.0
one_bytes most (value.Bytes b ∷ []) fit = refl
one_bytes most (value.Bytes b ∷ v ∷ vs) fit = absurd fit.1

some_in : (m : Value) (ms : List Value) → In m ms → 0 < length ms
some_in m [] h = absurd h
some_in m (x ∷ ms) h = omega arith

-- members of a link are those of one owner
of_one : (owner member : Kind) (link : Link) (o m : Value) → IsLink owner member link
    → fin.get link m ≡ Some o
    → AreOfOneOwner (members_of link o)
of_one owner member link o m is owned = record {
  some = some_in m (members_of link o) (in_members link o m owned);
  few = is.few o;
  in_order = sorted value_cmp (members_of link o) (members_ascend link o);
}

-- ---- what the records tell

module _ {M : Type 0} (rule : M → Rule) (tree : Tree M) (member : Kind)
    (valid : IsArray rule tree member) where
  -- a record has one value as key
  array_key : (r : Rec) → IsOf (tree_form rule tree) r → (r.key ≡ get_or r.key 0 no_value ∷ [])
      × Fits (owner_kind rule tree) (get_or r.key 0 no_value)
  array_key r fits = one_kind (owner_kind rule tree) r.key
      (fit_kinds (tree_form rule tree).keys (owner_kind rule tree ∷ []) r.key valid.keys fits.key)

  array_field : (r : Rec) → IsOf (tree_form rule tree) r
      → r.fields ≡ value.Bytes (leaf_body r.fields) ∷ []
  array_field r fits = one_bytes valid.most r.fields
      (fit_kinds (tree_form rule tree).fields (kind.Bytes valid.most ∷ []) r.fields valid.fields
      fits.fields)

  rec_again : (r : Rec) (g : Owned) → IsOf (tree_form rule tree) r → IsCutOf member r g
      → array_rec g.owner g.members ≡ r
  rec_again r g fits one =
      let keys : g.owner ∷ [] ≡ r.key = ap (λ (o : Value). o ∷ []) one.owner
      ∙ sym (array_key r fits).0 in
      let fields : value.Bytes (key_of g.members) ∷ [] ≡ r.fields =
      ap (λ (bytes : List ℕ). value.Bytes bytes ∷ []) one.joined
      ∙ sym (array_field r fits) in
      λ i. record { key = keys i; fields = fields i }

  laws : RowLaws (owner_kind rule tree) member (λ c. tree_form rule tree) 1 array_rows
  laws = array_row_laws (owner_kind rule tree) member (tree_form rule tree) valid.most
      (key_kind member valid.member_kind) valid.keys
      valid.fields valid.room

  module _ (found : List Rec) (fits : (r : Rec) → In r found → IsOf (tree_form rule tree) r) where
    row_at : (link : Link) → AreRows (owner_kind rule tree) member array_rows
        (two_parts found []) link → (r : Rec) → In r found
        → IsArrayRow link (part_for 0 r)
    row_at link are r h = array_row_of link (part_for 0 r)
        (are.to (part_for 0 r) (in_two_first found [] r h))

    -- a record of no owner
    pub told_uncut : (r : Rec) → In r found → IsOfNoOwner member r
        → IsTold (owner_kind rule tree) member array_rows (two_parts found []) None
    told_uncut r h none = λ order link are.
        let row = row_at link are r h in
        none (members_of link row.owner)
        (members_fit (owner_kind rule tree) member link row.owner are.is_link)
        (of_one (owner_kind rule tree) member link row.owner row.member are.is_link row.owned)
        (ap (λ (p : Part). leaf_body p.rec.fields) (sym row.is))

    module _ (gs : List Owned) (cut : AreCutOf member found gs) where
      -- what was cut out of a row of a link
      own_members : (link : Link)
          → AreRows (owner_kind rule tree) member array_rows (two_parts found []) link
          → (r : Rec) (g : Owned)
          → In r found → IsCutOf member r g → g.members ≡ members_of link g.owner
      own_members link are r g h one =
          let row = row_at link are r h in
          let body : leaf_body r.fields ≡ key_of (members_of link row.owner) =
          ap (λ (p : Part). leaf_body p.rec.fields) row.is in
          let owner : g.owner ≡ row.owner =
          one.owner ∙ ap (λ (p : Part). get_or p.rec.key 0 no_value) row.is in
          same_joined member g.members (members_of link row.owner)
          (key_kind member valid.member_kind) one.fit
          (members_fit (owner_kind rule tree) member link row.owner are.is_link) (one.joined ∙ body)
          ∙ ap (members_of link) (sym owner)

      each_owner : (link : Link)
          → AreRows (owner_kind rule tree) member array_rows (two_parts found []) link → (g : Owned)
          → In g gs
          → g.members ≡ members_of link g.owner
      each_owner link are g h =
          (let r = cut_at member found gs g cut h in own_members link are r.0 g r.1 r.2)

      pair_owned : (link : Link)
          → AreRows (owner_kind rule tree) member array_rows (two_parts found []) link
          → (m o : Value)
          → In (m, o) (pairs_of gs) → fin.get link m ≡ Some o
      pair_owned link are m o h =
          let g = from_pairs gs (m, o) h in
          from_members link g.0.owner m (subst (In m) (each_owner link are g.0 g.1.0) g.1.1)
          ∙ ap Some (sym g.1.2)

      owned_pair_in : (link : Link)
          → AreRows (owner_kind rule tree) member array_rows (two_parts found []) link
          → (m o : Value)
          → fin.get link m ≡ Some o → In (m, o) (pairs_of gs)
      owned_pair_in link are m o e =
          let rec = array_rec o (members_of link o) in
          let there = two_first found [] rec (are.from (part_for 0 rec) (of_array_row link o m e))
          in
          let g = cut_of member found gs rec cut there in
          let owner : g.0.owner ≡ o = g.2.owner in
          let members : g.0.members ≡ members_of link o = each_owner link are g.0 g.1
          ∙ ap (members_of link) owner in
          subst (λ x. In (m, x) (pairs_of gs)) owner
          (in_pairs gs g.0 m g.1 (subst (In m) (sym members) (in_members link o m e)))

      -- the owners ascend, as the keys of the records do
      owners_ascend : IsStrictlySortedBy part_cmp (two_parts found [])
          → Ascends value_cmp (map (λ (g : Owned). g.owner) gs)
      owners_ascend order = rise found gs cut
          (first_ascends found [] (ascends part_cmp (two_parts found []) order)) fits
        where
          rise : (rs : List Rec) (hs : List Owned) → AreCutOf member rs hs → Ascends rec_cmp rs
              → ((r : Rec) → In r rs → IsOf (tree_form rule tree) r)
              → Ascends value_cmp (map (λ (g : Owned). g.owner) hs)
          rise [] [] c up of = tt
          rise [] (h ∷ hs) c up of = absurd c
          rise (r ∷ rs) [] c up of = absurd c
          rise (r ∷ rs) (h ∷ hs) c up of = (
            all_of (λ y. value_cmp h.owner y ≡ Less) (map (λ (g : Owned). g.owner) hs) (λ y i.
                let k = from_map (λ (g : Owned). g.owner) y hs i in
                let s = cut_at member rs hs k.0 c.1 k.1 in
                let less = one_value r s.0 (get_or r.key 0 no_value) (get_or s.0.key 0 no_value)
                (array_key r (of r (inl refl))).0
                (array_key s.0 (of s.0 (inr s.1))).0
                (all_in (λ q. rec_cmp r q ≡ Less) rs s.0 up.0 s.1) in
                (λ j. value_cmp (c.0.owner j) ((k.2 ∙ s.2.owner) j)) ∙ less),
            rise rs hs c.1 up.1 (λ s i. of s (inr i)),
          )

      module _ (pairs : List (Value × Value)) (perm : IsPermutation (pairs_of gs) pairs) where
        array_read : IsStrictlySortedBy member_cmp pairs
            → AreRead (owner_kind rule tree) member array_rows (two_parts found []) pairs
        array_read strict = record {
          fit = λ p h.
              let g = from_pairs gs p (permuted_back (pairs_of gs) pairs p perm h) in
              let r = cut_at member found gs g.0 cut g.1.0 in (
                r.2.fit p.0 g.1.1,
                subst (Fits (owner_kind rule tree)) (sym (g.1.2 ∙ r.2.owner))
                    (array_key r.0 (fits r.0 r.1)).1,
              );
          up = λ order. ascends member_cmp pairs strict;
          those = λ order link are. same_pairs link pairs (ascends member_cmp pairs strict)
              (λ m o h. pair_owned link are m o (permuted_back (pairs_of gs) pairs (m, o) perm h))
              (λ m o e. permuted_in (pairs_of gs) pairs (m, o) perm (owned_pair_in link are m o e));
        }

        -- the owners are those of a link with these pairs
        own_link : IsStrictlySortedBy part_cmp (two_parts found []) → (link : Link)
            → fin.entries link ≡ pairs → AreOwners link gs
        own_link order link is = record {
          in_order = sorted value_cmp (map (λ (g : Owned). g.owner) gs) (owners_ascend order);
          each = λ g h. members_are link g.owner g.members
              (ascends value_cmp g.members (cut_at member found gs g cut h).2.members.in_order)
              (λ m k. in_pair link (m, g.owner)
              (subst (In (m, g.owner)) (sym is)
              (permuted_in (pairs_of gs) pairs (m, g.owner) perm (in_pairs gs g m h k))))
              (λ m e.
              let k = with_member m g.owner e in
              subst (λ (x : Owned). In m x.members)
              (one_group gs k.0 g (owners_ascend order) k.1.0 h (sym k.1.2)) k.1.1);
          all = λ m o e. let k = with_member m o e in (k.0, k.1.0, sym k.1.2);
        }
          where
            with_member : (m o : Value) → fin.get link m ≡ Some o
                → (g : Owned) × (In g gs × In m g.members × (o ≡ g.owner))
            with_member m o e = from_pairs gs (m, o)
                (permuted_back (pairs_of gs) pairs (m, o) perm
                (subst (In (m, o)) is (pair_in link m o e)))

        pub told_each_once : IsStrictlySortedBy member_cmp pairs
            → IsTold (owner_kind rule tree) member array_rows (two_parts found [])
            (Some pairs)
        told_each_once strict =
            λ order. told_pairs laws array_apart (two_parts found []) pairs (array_read strict) gs
            (own_link order)
            (λ g h. (cut_at member found gs g cut h).2.members.few)
            (λ p. (subst (In p) (sym rows), subst (In p) rows))
            order
          where
            rows : rows_of array_rows gs ≡ two_parts found []
            rows = cut_rows member found gs cut (λ r g h one. rec_again r g (fits r h) one)
                ∙ sym (append-nil (map (part_for 0) found))

        -- a member that stands twice
        pub told_twice : IsSortedBy (λ a b. is_lt (member_cmp a b)) pairs
            → (IsStrictlySortedBy member_cmp pairs → ⊥)
            → IsTold (owner_kind rule tree) member array_rows (two_parts found []) None
        unfolding IsDistinct
        told_twice up twice = λ order link are.
            let apart = distinct link are gs (λ g h. h) (owners_ascend order) in
            twice (sorted member_cmp pairs
            (rises_ascends member_total (λ x y e. e) pairs (rises member_total pairs up)
            (IsDistinct-IsPermutation (eq_by_cmp member_cmp)
            (λ x y. (eq_by_cmp_equiv member_total).symm x y)
            (pairs_of gs) pairs perm apart)))
          where
            members_rise : (o : Value) (ms : List Value) → Ascends value_cmp ms
                → Ascends member_cmp (map (pair_with o) ms)
            members_rise o [] rise = tt
            members_rise o (m ∷ ms) rise = (
              all_of (λ q. member_cmp (pair_with o m) q ≡ Less) (map (pair_with o) ms) (λ q i.
                  let x = from_map (pair_with o) q ms i in
                  subst (λ y. member_cmp (pair_with o m) y ≡ Less) (sym x.2)
                  (all_in (λ y. value_cmp m y ≡ Less) ms x.0 rise.0 x.1)),
              members_rise o ms rise.1,
            )

            distinct : (link : Link)
                → AreRows (owner_kind rule tree) member array_rows (two_parts found []) link
                → (hs : List Owned)
                → ((g : Owned) → In g hs → In g gs)
                → Ascends value_cmp (map (λ (g : Owned). g.owner) hs)
                → IsDistinct (eq_by_cmp member_cmp) (pairs_of hs)
            distinct link are [] sub rise = tt
            distinct link are (g ∷ hs) sub rise =
                distinct_append (eq_by_cmp member_cmp) (pairs_under g) (pairs_of hs)
                (IsDistinct-from_sorted member_cmp (pairs_under g)
                (sorted member_cmp (pairs_under g)
                (members_rise g.owner g.members
                (ascends value_cmp g.members
                (cut_at member found gs g cut (sub g (inl refl))).2.members.in_order))))
                (distinct link are hs (λ h i. sub h (inr i)) rise.1)
                (λ x y i k. elim (bool_cases (eq_by_cmp member_cmp x y)) [
                  | inr e ↦ e
                  | inl e ↦ absurd (
                      let m = from_map (pair_with g.owner) x g.members i in
                      let h = from_pairs hs y k in
                      let same : x.0 ≡ y.0 = value_cmp_same x.0 y.0
                      ((Equal-is (member_cmp x y)).0 e) in
                      let a = from_members link g.owner m.0
                      (subst (In m.0) (each_owner link are g (sub g (inl refl))) m.1) in
                      let b = from_members link h.0.owner y.0
                      (subst (In y.0) (each_owner link are h.0 (sub h.0 (inr h.1.0))) h.1.1) in
                      let members : m.0 ≡ y.0 = ap (λ (q : Value × Value). q.0) (sym m.2) ∙ same in
                      let owners : g.owner ≡ h.0.owner =
                      same_Some g.owner h.0.owner (sym a ∙ ap (fin.get link) members ∙ b) in
                      not_before_itself value_cmp_total h.0.owner
                      (subst (λ o. value_cmp o h.0.owner ≡ Less) owners
                      (all_in (λ z. value_cmp g.owner z ≡ Less) (map (λ (q : Owned). q.owner) hs)
                      h.0.owner rise.0
                      (in_map (λ (q : Owned). q.owner) h.0 hs h.1.0))))
                ])

  -- ---- what the node holds

  part_fits : (found : List Rec) → ((r : Rec) → In r found → IsOf (tree_form rule tree) r)
      → (p : Part) → In p (two_parts found [])
      → (p.child < 1) × IsOf (tree_form rule tree) p.rec
  part_fits found fits p h =
      elim (part_cases found [] p h)
      [ inl x ↦ (omega (arith, x.0), fits p.rec x.1) | inr x ↦ absurd x.1 ]

  one_internal : (found : List Rec) (maps : List LeafMap) → IsInternal rule tree found maps
      → AreInternal rule (one_node tree) (λ c. parts_for c (two_parts found [])) maps
  one_internal found maps held = (
    internal_of_members rule tree found (parts_for 0 (two_parts found [])) maps valid.nodes.1
        (λ r h. in_parts_for 0 (two_parts found []) (part_for 0 r) (in_two_first found [] r h) refl)
        (λ r h.
        let p = from_parts_for 0 (two_parts found []) r h in
        elim (part_cases found [] p.0 p.1)
        [ inl x ↦ subst (λ y. In y found) p.3 x.1 | inr x ↦ absurd x.1 ]) held,
    tt,
  )

  pub array_held : ((m : M) → MappingLaws (rule m))
      → (whole : Type 0) (maps : List LeafMap) (found : List Rec)
      (answer : Option (List (Value × Value))) → AreHeld rule tree whole maps found
      → IsTold (owner_kind rule tree) member array_rows
      (two_parts found []) answer
      → ArePairs (array_rule rule tree member) (IsHeldLink rule (one_node tree) array_rows)
      whole maps answer
  array_held mapping_laws whole maps found answer are told =
      pairs_held laws rule mapping_laws (one_node tree) valid.nodes refl (two_parts found []) maps
      (part_fits found are.fit)
      (λ _. 1) false whole answer told
      (λ w. two_ascend found [] (ascends rec_cmp found (are.in_order w)) tt)
      (λ w. one_internal found maps (are.held w))
