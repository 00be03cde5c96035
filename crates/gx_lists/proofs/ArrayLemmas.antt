-- The records of a pointer array: what selections of them find, and what a change of one makes of
-- the link.
use Rattle.std.proofs.Common.{◌≡◌, ◌≢◌, ◌<◌, ◌≤◌, ◌+◌, ◌*◌, ℕ, true, List, [], ◌∷◌, ◌⊎◌, inl, inr, length, Option, Some, None, refl, sym, ap, subst, ◌∙◌, get_or, arith, length-append}
use Rattle.std.specs.Prelude.{IfSome}
use Rattle.std.specs.FinMap as fin
use Rattle.std.proofs.lemmas.List.Sums.{sum_by-cons}
use Rattle.gx_values.specs.declared.values.Kind.{Kind}
use Rattle.gx_values.specs.declared.values.Value.{Value}
use Rattle.gx_values.specs.declared.records.Rec.{Rec}
use Rattle.gx_values.specs.declared.keys.Span.{Span}
use Rattle.gx_values.specs.Values.{Fits, AreFit, no_value}
use Rattle.gx_values.specs.Keys.{key_of, is_inside, IsKeyKind}
use Rattle.gx_values.proofs.OrderLemmas.{same_value, value_itself, value_cases}
use Rattle.gx_ports.specs.LeafMaps.{LeafMap, Limits, IsCrowdedBy}
use Rattle.gx_mapping.specs.declared.parts.Part.{Part}
use Rattle.gx_mapping.specs.Rule.{Rule, In, IsOf}
use Rattle.gx_gather.specs.Gather.{rec_cmp, part_for}
use Rattle.gx_gather.proofs.Lists.{in_left}
use Rattle.gx_gather.proofs.Orders.{Ascends, ascends, ascends_unique, rec_total}
use Rattle.gx_stack.specs.Tree.{Tree, leaves_of, kids_leaves, tree_form, leaf_body, entries_of, entry_total}
use Rattle.gx_stack.specs.Internal.{IsSet, HasSet, IsInternal, IsChange, changed}
use Rattle.gx_stack.specs.Selected.{IsSelection}
use Rattle.gx_stack.proofs.Children.{in_parts_for, from_parts_for}
use Rattle.gx_stack.proofs.Without.{from_without, to_without}
use Rattle.gx_stack.proofs.Same.{internal_of_members}
use Rattle.gx_links.specs.Kinds.{AreOfKinds}
use Rattle.gx_links.specs.Links.{Link, members_of, most_members, IsLink}
use Rattle.gx_links.specs.Linksets.{HasLink}
use Rattle.gx_links.specs.Rows.{link_parts, node_rows, owner_entries, IsHeldLink, RowLaws, owner_kind}
use Rattle.gx_links.proofs.KindLemmas.{fit_kinds}
use Rattle.gx_links.proofs.JoinLemmas.{crowded_more}
use Rattle.gx_links.proofs.MemberLemmas.{in_members, from_members, others_stay, gone_free, gone_comes}
use Rattle.gx_links.proofs.RowLemmas.{node_set}
use Rattle.gx_links.specs.Spans.{begins_with}
use Rattle.gx_lists.specs.Arrays.{array_rec, array_rows, one_node, array_rule, IsArray, AreOfKind, first_body, AreCut, AreOfNone, HasMembers, IsOwnerAmong}
use Rattle.gx_lists.specs.Joined.{same_joined}
use Rattle.gx_lists.specs.ArrayLaws.{key_kind, members_fit, array_row_of, of_array_row, array_row_laws, array_fits}

-- ---- the records

pub in_rows : (link : Link) (o m : Value) → fin.get link m ≡ Some o
    → In (array_rec o (members_of link o)) (node_rows array_rows link 0)
in_rows link o m e = in_parts_for 0 (link_parts array_rows link)
    (part_for 0 (array_rec o (members_of link o)))
    (of_array_row link o m e) refl

pub record IsOfOwner (link : Link) (r : Rec) : Type 0 where
  pub owner : Value
  pub member : Value
  pub owned : fin.get link member ≡ Some owner
  pub is : r ≡ array_rec owner (members_of link owner)

pub from_rows : (link : Link) (r : Rec) → In r (node_rows array_rows link 0) → IsOfOwner link r
from_rows link r h =
    let p = from_parts_for 0 (link_parts array_rows link) r h in
    let row = array_row_of link p.0 p.1 in
    record {
      owner = row.owner;
      member = row.member;
      owned = row.owned;
      is = sym p.3
          ∙ ap (λ (x : Part). x.rec) row.is;
    }

-- the records of one owner
abbrev pub array_recs : Value → List Value → List Rec
array_recs o [] = []
array_recs o (m ∷ ms) = array_rec o (m ∷ ms) ∷ []

recs_ascend : (o : Value) (ms : List Value) → Ascends rec_cmp (array_recs o ms)
recs_ascend o [] = tt
recs_ascend o (m ∷ ms) = (tt, tt)

in_recs : (o m : Value) (ms : List Value) → In m ms → In (array_rec o ms) (array_recs o ms)
in_recs o m [] h = absurd h
in_recs o m (x ∷ ms) h = inl refl

from_recs : (o : Value) (ms : List Value) (r : Rec) → In r (array_recs o ms)
    → (m : Value) × In m ms × (r ≡ array_rec o ms)
from_recs o [] r h = absurd h
from_recs o (m ∷ ms) r (inl e) = (m, inl refl, e)
from_recs o (m ∷ ms) r (inr h) = absurd h

body_again : (o : Value) (ms : List Value) → first_body (array_recs o ms) ≡ key_of ms
body_again o [] = refl
body_again o (m ∷ ms) = refl

abbrev owner_in_key : Rec → Value
owner_in_key r = get_or r.key 0 no_value

none_in : (xs : List Value) (x : Value) → xs ≡ [] → In x xs → ⊥
none_in xs x e h = subst (In x) e h

module _ {M : Type 0} (rule : M → Rule) (tree : Tree M) (member : Kind)
    (valid : IsArray rule tree member) where
  abbrev owner_key : Kind
  owner_key = owner_kind rule tree

  member_key : IsKeyKind member
  member_key = key_kind member valid.member_kind

  laws : RowLaws owner_key member (λ c. tree_form rule tree) 1 array_rows
  laws = array_row_laws owner_key member (tree_form rule tree) valid.most member_key valid.keys
      valid.fields valid.room

  pub rows_set : (link : Link) → IsLink owner_key member link
      → IsSet (tree_form rule tree) (node_rows array_rows link 0)
  rows_set link is = node_set laws link 0 is

  -- leaves that hold a link hold a set of records
  pub array_has_set : (maps : List LeafMap)
      → HasLink (array_rule rule tree member) (IsHeldLink rule (one_node tree) array_rows) maps
      → HasSet rule tree maps
  array_has_set maps has = (node_rows array_rows has.0 0, rows_set has.0 has.1, has.2.0)

  pub of_form : (o : Value) (ms : List Value) → Fits owner_key o → AreOfKind member ms
      → length ms ≤ most_members
      → IsOf (tree_form rule tree) (array_rec o ms)
  of_form o ms fit_o fit_ms few =
      array_fits owner_key member (tree_form rule tree) valid.most member_key valid.keys
      valid.fields
      valid.room o ms fit_o fit_ms few

  pub key_long : (r : Rec) → IsOf (tree_form rule tree) r
      → (0 < length r.key) × Fits owner_key (owner_in_key r)
  key_long r fits = go r.key
      (fit_kinds (tree_form rule tree).keys (owner_key ∷ []) r.key valid.keys fits.key)
    where
      go : (key : List Value) → AreOfKinds (owner_key ∷ []) key
          → (0 < length key) × Fits owner_key (get_or key 0 no_value)
      go [] fit = absurd fit
      go (v ∷ key) fit = (omega arith, fit.0)

  -- ---- what a selection finds

  pub rows_found : (link : Link) (o : Value) (span : Span) (found : List Rec)
      → IsLink owner_key member link
      → ((key : List Value) → AreFit (tree_form rule tree).keys key
      → is_inside span.lo span.hi (key_of key) ≡ begins_with o key)
      → IsSelection (node_rows array_rows link 0) span found
      → found ≡ array_recs o (members_of link o)
  rows_found link o span found is those sel =
      ascends_unique rec_total found (array_recs o (members_of link o))
      (ascends rec_cmp found sel.in_order) (recs_ascend o (members_of link o))
      (λ r h.
      let s = sel.sound r h in
      let row = from_rows link r s.0 in
      let begins : begins_with o r.key ≡ true =
      sym (those r.key ((rows_set link is).fits r s.0).key) ∙ s.1 in
      let same : row.owner ≡ o =
      same_value row.owner o (ap (λ (x : Rec). begins_with o x.key) (sym row.is) ∙ begins) in
      subst (λ x. In x (array_recs o (members_of link o)))
      ((λ i. array_rec (sym same i) (members_of link (sym same i))) ∙ sym row.is)
      (in_recs o row.member (members_of link o)
      (in_members link o row.member (row.owned ∙ ap Some same))))
      (λ r h.
      let m = from_recs o (members_of link o) r h in
      let there : In r (node_rows array_rows link 0) =
      subst (λ x. In x (node_rows array_rows link 0)) (sym m.2)
      (in_rows link o m.0 (from_members link o m.0 m.1)) in
      sel.complete r there (those r.key ((rows_set link is).fits r there).key
      ∙ ap (λ (x : Rec). begins_with o x.key) m.2 ∙ value_itself o))

  pub cut_same : (link : Link) (o : Value) (found : List Rec) (before now : List Value)
      → IsLink owner_key member link
      → found ≡ array_recs o (members_of link o)
      → (cut : AreCut member (first_body found) before now) → cut.found ≡ members_of link o
  cut_same link o found before now is e cut =
      same_joined member cut.found (members_of link o) member_key cut.fit
      (members_fit owner_key member link o is) (cut.joined ∙ ap first_body e
      ∙ body_again o (members_of link o))

  pub cut_some : (link : Link) (o : Value) (found : List Rec) → IsLink owner_key member link
      → found ≡ array_recs o (members_of link o)
      → AreOfNone member (first_body found) → ⊥
  cut_some link o found is e none =
      none (members_of link o) (members_fit owner_key member link o is)
      (sym (ap first_body e ∙ body_again o (members_of link o)))

  -- ---- entries and steps

  entries_are : (o : Value) (ms : List Value) → 0 < length ms
      → length (owner_entries rule (one_node tree) array_rows o ms) ≡ length
      (entries_of rule tree (array_rec o ms))
  entries_are o [] some = absurd (omega arith)
  entries_are o (m ∷ ms) some = length-append (entries_of rule tree (array_rec o (m ∷ ms))) []
      ∙ omega arith

  recs_entries : (o : Value) (ms : List Value)
      → entry_total rule tree (array_recs o ms) ≤ length
      (owner_entries rule (one_node tree) array_rows o ms)
  recs_entries o [] = omega arith
  recs_entries o (m ∷ ms) = omega (
    arith,
    entries_are o (m ∷ ms) (omega arith),
    sum_by-cons (λ (r : Rec). length (entries_of rule tree r))
        (array_rec o (m ∷ ms)) [],
  )

  leaves_sum : length (kids_leaves (one_node tree)) ≡ length (leaves_of tree)
  leaves_sum = length-append (leaves_of tree) [] ∙ omega arith

  pub members_steps : (link : Link) (o : Value) (found : List Rec) (before steps : ℕ)
      → found ≡ array_recs o (members_of link o)
      → steps ≤ before + (length (leaves_of tree) + entry_total rule tree found)
      → steps ≤ before
      + (1 * length (kids_leaves (one_node tree)) + length
      (owner_entries rule (one_node tree) array_rows o (members_of link o)))
  members_steps link o found before steps is few =
      let total : entry_total rule tree found ≤ length
      (owner_entries rule (one_node tree) array_rows o (members_of link o)) =
      subst (λ rs. entry_total rule tree rs ≤ length
      (owner_entries rule (one_node tree) array_rows o (members_of link o))) (sym is)
      (recs_entries o (members_of link o)) in
      omega (arith, few, total, leaves_sum)

  pub in_leaves : (n : ℕ) → In n (leaves_of tree) → In n (kids_leaves (one_node tree))
  in_leaves n h = in_left n (leaves_of tree) [] h

  -- ---- an owner

  same_members : (link : Link) (r : Rec) (row : IsOfOwner link r) → IsLink owner_key member link
      → (has : HasMembers member r)
      → has.members ≡ members_of link row.owner
  same_members link r row is has =
      same_joined member has.members (members_of link row.owner) member_key has.fit
      (members_fit owner_key member link row.owner is) (has.joined
      ∙ ap (λ (x : Rec). leaf_body x.fields) row.is)

  module _ (link : Link) (is : IsLink owner_key member link) (span : Span) (found : List Rec)
      (all : (key : List ℕ) → is_inside span.lo span.hi key ≡ true)
      (sel : IsSelection (node_rows array_rows link 0) span found) where
    pub owner_found : (m : Value) (answer : Option Value) → IsOwnerAmong member m found answer
        → answer ≡ fin.get link m
    owner_found m (Some o) among =
        let row = from_rows link among.0 (sel.sound among.0 among.1).0 in
        let there : In m (members_of link row.owner) =
        subst (In m) (same_members link among.0 row is among.3.0) among.3.1 in
        let same : row.owner ≡ o = sym (ap owner_in_key row.is) ∙ among.2 in
        ap Some (sym same) ∙ sym (from_members link row.owner m there)
    owner_found m None among = go (fin.get link m) refl
      where
        go : (o : Option Value) → fin.get link m ≡ o → None ≡ o
        go None e = refl
        go (Some o) e =
            let r = array_rec o (members_of link o) in
            let there = in_rows link o m e in
            let without = among r (sel.complete r there (all (key_of r.key))) in
            let row : IsOfOwner link r = record { owner = o; member = m; owned = e; is = refl } in
            absurd (without.1 (subst (In m) (sym (same_members link r row is without.0))
            (in_members link o m e)))

    pub none_damaged : (r : Rec) → In r found → AreOfNone member (leaf_body r.fields) → ⊥
    none_damaged r h none =
        let row = from_rows link r (sel.sound r h).0 in
        none (members_of link row.owner) (members_fit owner_key member link row.owner is)
        (sym (ap (λ (x : Rec). leaf_body x.fields) row.is))

  pub owner_fits : (m : Value) (found : List Rec) (answer : Option Value)
      → ((r : Rec) → In r found → IsOf (tree_form rule tree) r)
      → IsOwnerAmong member m found answer → IfSome answer (Fits owner_key)
  owner_fits m found None all among = tt
  owner_fits m found (Some o) all among =
      subst (Fits owner_key) among.2 (key_long among.0 (all among.0 among.1)).1

  -- ---- changes

  other_owner : (link : Link) (o : Value) (r : Rec) (row : IsOfOwner link r) → r.key ≢ o ∷ []
      → row.owner ≢ o
  other_owner link o r row ne e = ne (ap (λ (x : Rec). x.key) row.is ∙ (λ i. e i ∷ []))

  same_owner : (link : Link) (o : Value) (r : Rec) (row : IsOfOwner link r) → r.key ≡ o ∷ []
      → row.owner ≡ o
  same_owner link o r row e = sym (ap owner_in_key row.is)
      ∙ ap (λ (ks : List Value). get_or ks 0 no_value) e

  -- links that differ in one owner's members alone
  module _ (link other : Link) (o : Value) (same : (x : Value) → x ≢ o
      → members_of other x ≡ members_of link x) where
    across : (r : Rec) → In r (node_rows array_rows link 0) → r.key ≢ o ∷ []
        → In r (node_rows array_rows other 0)
    across r h ne =
        let row = from_rows link r h in
        let differs = other_owner link o r row ne in
        let there : fin.get other row.member ≡ Some row.owner =
        from_members other row.owner row.member
        (subst (In row.member) (sym (same row.owner differs))
        (in_members link row.owner row.member row.owned)) in
        subst (λ x. In x (node_rows array_rows other 0))
        (ap (array_rec row.owner) (same row.owner differs) ∙ sym row.is)
        (in_rows other row.owner row.member there)

    back : (r : Rec) → In r (node_rows array_rows other 0) → (r ≡ array_rec o (members_of other o))
        ⊎ (In r (node_rows array_rows link 0) × (r.key ≢ o ∷ []))
    back r h =
        let row = from_rows other r h in
        elim (value_cases row.owner o) [
          | inl e ↦ inl (row.is ∙ (λ i. array_rec (e i) (members_of other (e i))))
          | inr ne ↦ (
              let there : fin.get link row.member ≡ Some row.owner =
              from_members link row.owner row.member
              (subst (In row.member) (same row.owner ne)
              (in_members other row.owner row.member row.owned)) in
              inr (
                subst (λ x. In x (node_rows array_rows link 0))
                    (ap (array_rec row.owner) (sym (same row.owner ne)) ∙ sym row.is)
                    (in_rows link row.owner row.member there),
                λ e. ne (same_owner other o r row e),
              ))
        ]

    -- the owner had no members
    pub first_held : (maps : List LeafMap) → members_of link o ≡ [] → (m : Value)
        → fin.get other m ≡ Some o
        → IsInternal rule tree (changed (node_rows array_rows link 0) None
        (Some (array_rec o (members_of other o)))) maps
        → IsHeldLink rule (one_node tree) array_rows other maps
    first_held maps none m there held = (
      internal_of_members rule tree
          (changed (node_rows array_rows link 0) None (Some (array_rec o (members_of other o))))
          (node_rows array_rows other 0) maps valid.nodes.1
          (λ r h. elim h [
            | inl e ↦ subst (λ x. In x (node_rows array_rows other 0)) (sym e)
                (in_rows other o m there)
            | inr k ↦ across r k (λ e. let row = from_rows link r k in
                none_in (members_of link o) row.member none
                (in_members link o row.member (row.owned ∙ ap Some (same_owner link o r row e))))
          ])
          (λ r h. elim (back r h) [ inl e ↦ inl e | inr both ↦ inr both.0 ])
          held,
      tt,
    )

    -- the owner has others
    pub more_held : (maps : List LeafMap) (m : Value) → fin.get other m ≡ Some o
        → IsInternal rule tree (changed (node_rows array_rows link 0)
        (Some (array_rec o (members_of link o)))
        (Some (array_rec o (members_of other o)))) maps
        → IsHeldLink rule (one_node tree) array_rows other maps
    more_held maps m there held = (
      internal_of_members rule tree
          (changed (node_rows array_rows link 0) (Some (array_rec o (members_of link o)))
          (Some (array_rec o (members_of other o)))) (node_rows array_rows other 0) maps
          valid.nodes.1
          (λ r h. elim h [
            | inl e ↦ subst (λ x. In x (node_rows array_rows other 0)) (sym e)
                (in_rows other o m there)
            | inr k ↦ (let f = from_without (node_rows array_rows link 0)
                (array_rec o (members_of link o)) r k in across r f.0 f.1)
          ])
          (λ r h. elim (back r h) [
            | inl e ↦ inl e
            | inr both ↦ inr (to_without (node_rows array_rows link 0)
                (array_rec o (members_of link o)) r both.0 both.1)
          ])
          held,
      tt,
    )

    -- the owner has none any more
    pub last_held : (maps : List LeafMap) → members_of other o ≡ []
        → IsInternal rule tree (changed (node_rows array_rows link 0)
        (Some (array_rec o (members_of link o))) None) maps
        → IsHeldLink rule (one_node tree) array_rows other maps
    last_held maps none held = (
      internal_of_members rule tree
          (changed (node_rows array_rows link 0) (Some (array_rec o (members_of link o))) None)
          (node_rows array_rows other 0) maps valid.nodes.1
          (λ r h. let f = from_without (node_rows array_rows link 0)
          (array_rec o (members_of link o)) r h in across r f.0 f.1)
          (λ r h. elim (back r h) [
            | inl e ↦ (let row = from_rows other r h in
                absurd (none_in (members_of other o) row.member none
                (in_members other o row.member
                (row.owned ∙ ap Some (same_owner other o r row (ap (λ (x : Rec). x.key) e))))))
            | inr both ↦ to_without (node_rows array_rows link 0) (array_rec o (members_of link o))
                r both.0 both.1
          ])
          held,
      tt,
    )

  pub none_there : (link : Link) (o : Value) (ws : List Value) → members_of link o ≡ []
      → IsChange (node_rows array_rows link 0) None (Some (array_rec o ws))
  none_there link o ws none r h e = let row = from_rows link r h in
      none_in (members_of link o) row.member none
      (in_members link o row.member (row.owned ∙ ap Some (same_owner link o r row e)))

  pub one_there : (link : Link) (o : Value) → 0 < length (members_of link o)
      → In (array_rec o (members_of link o)) (node_rows array_rows link 0)
  one_there link o some = go (members_of link o) refl some
    where
      go : (ms : List Value) → members_of link o ≡ ms → 0 < length ms
          → In (array_rec o (members_of link o)) (node_rows array_rows link 0)
      go [] e some = absurd (omega arith)
      go (m ∷ ms) e some = in_rows link o m
          (from_members link o m (subst (In m) (sym e) (inl refl)))

  pub others_gone : (link : Link) (o m : Value) → fin.get link m ≡ Some o → (x : Value) → x ≢ o
      → members_of (fin.remove link m) x ≡ members_of link x
  others_gone link o m owned x ne =
      sym (others_stay (fin.remove link m) o m (gone_free link m) x ne)
      ∙ ap (λ l. members_of l x) (gone_comes link o m owned)

  -- where the pages may not be enough
  pub rec_crowded : (limit : Option Limits) (before : ℕ) (o : Value) (ms : List Value) (r : Rec)
      → r ≡ array_rec o ms → 0 < length ms
      → IsCrowdedBy limit (before + length (entries_of rule tree r))
      → IsCrowdedBy limit (before + length (owner_entries rule (one_node tree) array_rows o ms))
  rec_crowded limit before o ms r is some crowded =
      let same : length (entries_of rule tree r) ≡ length (entries_of rule tree (array_rec o ms)) =
      ap (λ x. length (entries_of rule tree x)) is in
      crowded_more limit (before + length (entries_of rule tree r))
      (before + length (owner_entries rule (one_node tree) array_rows o ms))
      (omega (arith, same, entries_are o ms some)) crowded
