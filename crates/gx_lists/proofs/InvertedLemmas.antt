-- The records of an inverted list: what selections of them find, and what changes of two of them
-- make of the link.
use Rattle.std.proofs.Common.{◌≡◌, ◌≢◌, ◌<◌, ◌≤◌, ◌+◌, ◌*◌, ℕ, true, List, [], ◌∷◌, ◌++◌, inl, inr, length, map, Option, Some, None, refl, sym, ap, subst, ◌∙◌, get_or, arith, length-append}
use Rattle.std.specs.Prelude.{IfSome}
use Rattle.std.specs.List.{AllByRecursion}
use Rattle.std.specs.Ordering.{ordering_then}
use Rattle.std.specs.declared.cmp.Ordering.TheVariants.{Less, Equal}
use Rattle.std.specs.Cmp.{tied_itself}
use Rattle.std.specs.FinMap as fin
use Rattle.std.proofs.lemmas.List.Sums.{sum_by-cons}
use Rattle.std.proofs.lemmas.Option.{same_Some}
use Rattle.gx_values.specs.declared.values.Kind.{Kind}
use Rattle.gx_values.specs.declared.values.Value.{Value}
use Rattle.gx_values.specs.declared.records.Rec.{Rec}
use Rattle.gx_values.specs.declared.keys.Span.{Span}
use Rattle.gx_values.specs.Values.{value_cmp, Fits, AreFit, no_value}
use Rattle.gx_values.specs.Keys.{key_of, is_inside}
use Rattle.gx_values.proofs.OrderLemmas.{value_cmp_total, same_value, value_itself}
use Rattle.gx_ports.specs.LeafMaps.{LeafMap, Limits, map_at, IsCrowdedBy}
use Rattle.gx_mapping.specs.declared.parts.Part.{Part}
use Rattle.gx_mapping.specs.Rule.{Rule, In, IsOf}
use Rattle.gx_gather.specs.Gather.{rec_cmp, part_for}
use Rattle.gx_gather.proofs.Lists.{in_map, from_map, in_left, in_right, none_some}
use Rattle.gx_gather.proofs.Orders.{Ascends, ascends, ascends_unique, rec_total}
use Rattle.gx_stack.specs.Tree.{Tree, leaves_of, kids_leaves, tree_form, entries_of, entry_total}
use Rattle.gx_stack.specs.Internal.{IsSet, HasSet, IsInternal, IsChange, changed, entries_if as change_entries}
use Rattle.gx_stack.specs.Selected.{IsSelection}
use Rattle.gx_stack.proofs.Children.{in_parts_for, from_parts_for}
use Rattle.gx_stack.proofs.Without.{from_without, to_without}
use Rattle.gx_stack.proofs.Same.{internal_of_members, internal_elsewhere}
use Rattle.gx_links.specs.declared.changes.Change.{Change}
use Rattle.gx_links.specs.Changes.{AreReplaced, coming, reversed}
use Rattle.gx_links.specs.Kinds.{AreOfKinds}
use Rattle.gx_links.specs.Links.{Link, members_of, IsLink}
use Rattle.gx_links.specs.Linksets.{HasLink, entries_if}
use Rattle.gx_links.specs.Rows.{two_forms, link_parts, node_rows, owner_entries, IsHeldLink, RowLaws, two_nodes, owner_kind, member_kind}
use Rattle.gx_links.proofs.KindLemmas.{fit_kinds}
use Rattle.gx_links.proofs.JoinLemmas.{crowded_more}
use Rattle.gx_links.proofs.MemberLemmas.{in_members, from_members, members_ascend, new_here, from_insert, still_there, from_remove, kept_there}
use Rattle.gx_links.proofs.RowLemmas.{node_set}
use Rattle.gx_links.specs.Spans.{begins_with}
use Rattle.gx_lists.specs.Inverted.{pair_rec, owned_rec, inverted_rows, IsInverted, inverted_rule, member_in, owner_in}
use Rattle.gx_lists.specs.InvertedLaws.{row_of, of_row, inverted_row_laws, pair_fits, owned_fits}

-- ---- the records of each node

pub in_down : (link : Link) (o m : Value) → fin.get link m ≡ Some o
    → In (pair_rec o m) (node_rows inverted_rows link 0)
in_down link o m e = in_parts_for 0 (link_parts inverted_rows link) (part_for 0 (pair_rec o m))
    (of_row link o m (part_for 0 (pair_rec o m)) e (inl refl)) refl

pub in_up : (link : Link) (o m : Value) → fin.get link m ≡ Some o
    → In (owned_rec o m) (node_rows inverted_rows link 1)
in_up link o m e = in_parts_for 1 (link_parts inverted_rows link) (part_for 1 (owned_rec o m))
    (of_row link o m (part_for 1 (owned_rec o m)) e (inr (inl refl))) refl

-- a record that stands for a pair
pub record IsOfPair (link : Link) (make : Value → Value → Rec) (r : Rec) : Type 0 where
  pub owner : Value
  pub member : Value
  pub owned : fin.get link member ≡ Some owner
  pub is : r ≡ make owner member

pub from_down : (link : Link) (r : Rec) → In r (node_rows inverted_rows link 0)
    → IsOfPair link pair_rec r
from_down link r h =
    let p = from_parts_for 0 (link_parts inverted_rows link) r h in
    let row = row_of link p.0 p.1 in
    elim row.there [
      | inl e ↦ record {
        owner = row.owner;
        member = row.member;
        owned = row.owned;
        is = sym p.3
            ∙ ap (λ (x : Part). x.rec) e;
      }
      | inr k ↦ elim k [
        | inl e ↦ absurd (let zero : 0 ≡ 1 = sym p.2 ∙ ap (λ (x : Part). x.child) e in
            omega (arith, zero))
        | inr f ↦ absurd f
      ]
    ]

pub from_up : (link : Link) (r : Rec) → In r (node_rows inverted_rows link 1)
    → IsOfPair link owned_rec r
from_up link r h =
    let p = from_parts_for 1 (link_parts inverted_rows link) r h in
    let row = row_of link p.0 p.1 in
    elim row.there [
      | inl e ↦ absurd (let one : 1 ≡ 0 = sym p.2 ∙ ap (λ (x : Part). x.child) e in
          omega (arith, one))
      | inr k ↦ elim k [
        | inl e ↦ record {
          owner = row.owner;
          member = row.member;
          owned = row.owned;
          is = sym p.3
              ∙ ap (λ (x : Part). x.rec) e;
        }
        | inr f ↦ absurd f
      ]
    ]

-- values of keys
abbrev first_of : List Value → Value
first_of ks = get_or ks 0 no_value

abbrev second_of : List Value → Value
second_of ks = get_or ks 1 no_value

-- ---- what a selection finds

pairs_ascend : (o : Value) (ms : List Value) → Ascends value_cmp ms
    → Ascends rec_cmp (map (pair_rec o) ms)
pairs_ascend o [] up = tt
pairs_ascend o (m ∷ ms) up = (below ms up.0, pairs_ascend o ms up.1)
  where
    below : (xs : List Value) → AllByRecursion (λ x. value_cmp m x ≡ Less) xs
        → AllByRecursion (λ r. rec_cmp (pair_rec o m) r ≡ Less) (map (pair_rec o) xs)
    below [] all = tt
    below (x ∷ xs) all = (
      ap (λ c. ordering_then c (ordering_then (value_cmp m x) Equal))
          (tied_itself value_cmp_total o)
          ∙ ap (λ c. ordering_then c Equal) all.0,
      below xs all.1,
    )

members_again : (o : Value) (ms : List Value) → map member_in (map (pair_rec o) ms) ≡ ms
members_again o [] = refl
members_again o (m ∷ ms) = ap (λ zs. m ∷ zs) (members_again o ms)

-- the records of a member's owner
abbrev pub owned_recs : Value → Option Value → List Rec
owned_recs m None = []
owned_recs m (Some o) = owned_rec o m ∷ []

owned_ascends : (m : Value) (o : Option Value) → Ascends rec_cmp (owned_recs m o)
owned_ascends m None = tt
owned_ascends m (Some o) = (tt, tt)

in_owned : (m o : Value) (found : Option Value) → found ≡ Some o
    → In (owned_rec o m) (owned_recs m found)
in_owned m o found e = subst (λ x. In (owned_rec o m) (owned_recs m x)) (sym e) (inl refl)

from_owned : (m : Value) (found : Option Value) (r : Rec) → In r (owned_recs m found)
    → (o : Value) × (found ≡ Some o) × (r ≡ owned_rec o m)
from_owned m None r h = absurd h
from_owned m (Some o) r (inl e) = (o, refl, e)
from_owned m (Some o) r (inr h) = absurd h

pub owner_again : (m : Value) (found : Option Value) → owner_in (owned_recs m found) ≡ found
owner_again m None = refl
owner_again m (Some o) = refl

-- what follows where a call answered Ok
module _ {M : Type 0} (rule : M → Rule) (down up : Tree M) (valid : IsInverted rule down up) where
  abbrev owner_key : Kind
  owner_key = owner_kind rule down

  abbrev member_key : Kind
  member_key = member_kind rule up

  laws : RowLaws owner_key member_key (two_forms (tree_form rule down) (tree_form rule up)) 2
      inverted_rows
  laws = inverted_row_laws owner_key member_key (tree_form rule down)
      (tree_form rule up) valid.down_keys valid.down_fields valid.up_keys
      valid.up_fields

  pub down_set : (link : Link) → IsLink owner_key member_key link
      → IsSet (tree_form rule down) (node_rows inverted_rows link 0)
  down_set link is = node_set laws link 0 is

  pub up_set : (link : Link) → IsLink owner_key member_key link
      → IsSet (tree_form rule up) (node_rows inverted_rows link 1)
  up_set link is = node_set laws link 1 is

  -- leaves that hold a link hold a set of records in each node
  pub down_has_set : (maps : List LeafMap)
      → HasLink (inverted_rule rule down up) (IsHeldLink rule (two_nodes down up) inverted_rows)
      maps
      → HasSet rule down maps
  down_has_set maps has = (node_rows inverted_rows has.0 0, down_set has.0 has.1, has.2.0)

  pub up_has_set : (maps : List LeafMap)
      → HasLink (inverted_rule rule down up) (IsHeldLink rule (two_nodes down up) inverted_rows)
      maps
      → HasSet rule up maps
  up_has_set maps has = (node_rows inverted_rows has.0 1, up_set has.0 has.1, has.2.1.0)

  pub pairs_found : (link : Link) (o : Value) (span : Span) (found : List Rec)
      → IsLink owner_key member_key link
      → ((key : List Value) → AreFit (tree_form rule down).keys key
      → is_inside span.lo span.hi (key_of key) ≡ begins_with o key)
      → IsSelection (node_rows inverted_rows link 0) span found
      → found ≡ map (pair_rec o) (members_of link o)
  pairs_found link o span found is those sel =
      ascends_unique rec_total found (map (pair_rec o) (members_of link o))
      (ascends rec_cmp found sel.in_order)
      (pairs_ascend o (members_of link o) (members_ascend link o))
      (λ r h.
      let s = sel.sound r h in
      let pair = from_down link r s.0 in
      let begins : begins_with o r.key ≡ true =
      sym (those r.key ((down_set link is).fits r s.0).key) ∙ s.1 in
      let same : pair.owner ≡ o =
      same_value pair.owner o (ap (λ (x : Rec). begins_with o x.key) (sym pair.is) ∙ begins) in
      let there = in_members link o pair.member (pair.owned ∙ ap Some same) in
      subst (λ x. In x (map (pair_rec o) (members_of link o)))
      ((λ i. pair_rec (sym same i) pair.member) ∙ sym pair.is)
      (in_map (pair_rec o) pair.member (members_of link o) there))
      (λ r h.
      let m = from_map (pair_rec o) r (members_of link o) h in
      let there : In r (node_rows inverted_rows link 0) =
      subst (λ x. In x (node_rows inverted_rows link 0)) (sym m.2)
      (in_down link o m.0 (from_members link o m.0 m.1)) in
      sel.complete r there (those r.key ((down_set link is).fits r there).key
      ∙ ap (λ (x : Rec). begins_with o x.key) m.2 ∙ value_itself o))

  pub members_found : (link : Link) (o : Value) (span : Span) (found : List Rec)
      → IsLink owner_key member_key link
      → ((key : List Value) → AreFit (tree_form rule down).keys key
      → is_inside span.lo span.hi (key_of key) ≡ begins_with o key)
      → IsSelection (node_rows inverted_rows link 0) span found
      → map member_in found ≡ members_of link o
  members_found link o span found is those sel =
      ap (map member_in) (pairs_found link o span found is those sel)
      ∙ members_again o (members_of link o)

  pub owned_found : (link : Link) (m : Value) (span : Span) (found : List Rec)
      → IsLink owner_key member_key link
      → ((key : List Value) → AreFit (tree_form rule up).keys key
      → is_inside span.lo span.hi (key_of key) ≡ begins_with m key)
      → IsSelection (node_rows inverted_rows link 1) span found
      → found ≡ owned_recs m (fin.get link m)
  owned_found link m span found is those sel =
      ascends_unique rec_total found (owned_recs m (fin.get link m))
      (ascends rec_cmp found sel.in_order) (owned_ascends m (fin.get link m))
      (λ r h.
      let s = sel.sound r h in
      let pair = from_up link r s.0 in
      let begins : begins_with m r.key ≡ true = sym (those r.key ((up_set link is).fits r s.0).key)
      ∙ s.1 in
      let same : pair.member ≡ m =
      same_value pair.member m (ap (λ (x : Rec). begins_with m x.key) (sym pair.is) ∙ begins) in
      subst (λ x. In x (owned_recs m (fin.get link m))) ((λ i. owned_rec pair.owner (sym same i))
      ∙ sym pair.is)
      (in_owned m pair.owner (fin.get link m) (ap (fin.get link) (sym same) ∙ pair.owned)))
      (λ r h.
      let o = from_owned m (fin.get link m) r h in
      let there : In r (node_rows inverted_rows link 1) =
      subst (λ x. In x (node_rows inverted_rows link 1)) (sym o.2)
      (in_up link o.0 m o.1) in
      sel.complete r there (those r.key ((up_set link is).fits r there).key
      ∙ ap (λ (x : Rec). begins_with m x.key) o.2 ∙ value_itself m))

  -- ---- entries and steps

  -- the leaf entries of a pair are among those of its owner
  pub pair_entries : (o m : Value) (ms : List Value) → In m ms
      → length (entries_of rule down (pair_rec o m)) + length
      (entries_of rule up (owned_rec o m)) ≤ length
      (owner_entries rule (two_nodes down up) inverted_rows o ms)
  pair_entries o m [] h = absurd h
  pair_entries o m (x ∷ ms) h =
      let a = entries_of rule down (pair_rec o x) in
      let b = entries_of rule up (owned_rec o x) in
      let rest = owner_entries rule (two_nodes down up) inverted_rows o ms in
      let sum : length (a ++ (b ++ rest)) ≡ length a + (length b + length rest) =
      length-append a (b ++ rest)
      ∙ ap (λ n. length a + n) (length-append b rest) in
      elim h [
        | inl e ↦ subst (λ y. length (entries_of rule down (pair_rec o y)) + length
            (entries_of rule up (owned_rec o y)) ≤ length
            (a ++ (b ++ rest))) (sym e) (omega (arith, sum))
        | inr k ↦ (let more = pair_entries o m ms k in omega (arith, sum, more))
      ]

  -- as are those of all records in the first node
  pub down_entries : (o : Value) (ms : List Value)
      → entry_total rule down (map (pair_rec o) ms) ≤ length
      (owner_entries rule (two_nodes down up) inverted_rows o ms)
  down_entries o [] = omega arith
  down_entries o (m ∷ ms) =
      let a = entries_of rule down (pair_rec o m) in
      let b = entries_of rule up (owned_rec o m) in
      let rest = owner_entries rule (two_nodes down up) inverted_rows o ms in
      let sum : length (a ++ (b ++ rest)) ≡ length a + (length b + length rest) =
      length-append a (b ++ rest)
      ∙ ap (λ n. length a + n) (length-append b rest) in
      let more = down_entries o ms in
      omega (
        arith,
        sum,
        more,
        sum_by-cons (λ (r : Rec). length (entries_of rule down r))
            (pair_rec o m) (map (pair_rec o) ms),
      )

  pub up_entries : (link : Link) (m : Value) (found : Option Value) → fin.get link m ≡ found
      → entry_total rule up (owned_recs m found) ≤ length
      (entries_if (inverted_rule rule down up) link found)
  up_entries link m None e = omega arith
  up_entries link m (Some o) e =
      let there = pair_entries o m (members_of link o) (in_members link o m e) in
      omega (
        arith,
        there,
        sum_by-cons (λ (r : Rec). length (entries_of rule up r))
            (owned_rec o m) [],
      )

  leaves_sum : length (kids_leaves (two_nodes down up)) ≡ length (leaves_of down) + length
      (leaves_of up)
  leaves_sum = length-append (leaves_of down) (leaves_of up ++ [])
      ∙ ap (λ n. length (leaves_of down) + n) (length-append (leaves_of up) [] ∙ omega arith)

  pub members_steps : (link : Link) (o : Value) (found : List Rec) (before steps : ℕ) (count : ℕ)
      → found ≡ map (pair_rec o) (members_of link o)
      → steps ≤ before + (length (leaves_of down) + entry_total rule down found)
      → steps ≤ before
      + (1 * length (kids_leaves (two_nodes down up)) + length
      (owner_entries rule (two_nodes down up) inverted_rows o (members_of link o)))
  members_steps link o found before steps count is few =
      let total : entry_total rule down found ≤ length
      (owner_entries rule (two_nodes down up) inverted_rows o (members_of link o)) =
      subst (λ rs. entry_total rule down rs ≤ length
      (owner_entries rule (two_nodes down up) inverted_rows o (members_of link o))) (sym is)
      (down_entries o (members_of link o)) in
      omega (arith, few, total, leaves_sum)

  pub owner_steps : (link : Link) (m : Value) (found : List Rec) (answer : Option Value)
      (before steps : ℕ)
      → found ≡ owned_recs m (fin.get link m) → answer ≡ owner_in found
      → steps ≤ before + (length (leaves_of up) + entry_total rule up found)
      → steps ≤ before + (length (kids_leaves (two_nodes down up)) + length
      (entries_if (inverted_rule rule down up) link answer))
  owner_steps link m found answer before steps is answer_is few =
      let same : answer ≡ fin.get link m = answer_is ∙ ap owner_in is
      ∙ owner_again m (fin.get link m) in
      let total : entry_total rule up found ≤ length
      (entries_if (inverted_rule rule down up) link answer) =
      subst (λ x. entry_total rule up found ≤ length
      (entries_if (inverted_rule rule down up) link x)) (sym same)
      (subst (λ rs. entry_total rule up rs ≤ length
      (entries_if (inverted_rule rule down up) link (fin.get link m))) (sym is)
      (up_entries link m (fin.get link m) refl)) in
      omega (arith, few, total, leaves_sum)

  -- ---- what fits

  pub pair_long : (r : Rec) → IsOf (tree_form rule down) r
      → (1 < length r.key) × Fits member_key (member_in r)
  pair_long r fits = go r.key
      (fit_kinds (tree_form rule down).keys (owner_key ∷ member_key ∷ []) r.key valid.down_keys
      fits.key)
    where
      go : (key : List Value) → AreOfKinds (owner_key ∷ member_key ∷ []) key
          → (1 < length key) × Fits member_key (get_or key 1 no_value)
      go [] fit = absurd fit
      go (v ∷ []) fit = absurd fit.1
      go (v ∷ w ∷ key) fit = (omega arith, fit.1.0)

  pub owned_long : (r : Rec) → IsOf (tree_form rule up) r
      → (0 < length r.fields) × Fits owner_key (get_or r.fields 0 no_value)
  owned_long r fits = go r.fields
      (fit_kinds (tree_form rule up).fields (owner_key ∷ []) r.fields valid.up_fields fits.fields)
    where
      go : (values : List Value) → AreOfKinds (owner_key ∷ []) values
          → (0 < length values) × Fits owner_key (get_or values 0 no_value)
      go [] fit = absurd fit
      go (v ∷ values) fit = (omega arith, fit.0)

  pub owner_fits : (found : List Rec) → ((r : Rec) → In r found → IsOf (tree_form rule up) r)
      → IfSome (owner_in found) (Fits owner_key)
  owner_fits [] all = tt
  owner_fits (r ∷ rs) all = (owned_long r (all r (inl refl))).1

  pub pair_of_form : (o m : Value) → Fits owner_key o → Fits member_key m
      → IsOf (tree_form rule down) (pair_rec o m)
  pair_of_form o m fit_o fit_m =
      pair_fits owner_key member_key (tree_form rule down) (tree_form rule up) valid.down_keys
      valid.down_fields
      valid.up_keys valid.up_fields o m fit_o fit_m

  pub owned_of_form : (o m : Value) → Fits owner_key o → Fits member_key m
      → IsOf (tree_form rule up) (owned_rec o m)
  owned_of_form o m fit_o fit_m =
      owned_fits owner_key member_key (tree_form rule down) (tree_form rule up) valid.down_keys
      valid.down_fields valid.up_keys valid.up_fields o m fit_o fit_m

  -- ---- where the pages may not be enough

  pub crowded_by : (link : Link) (o m : Value) (pair owned : Change) (limit : Option Limits)
      (before : ℕ) → pair ≡ coming (pair_rec o m) → owned ≡ coming (owned_rec o m)
      → IsCrowdedBy limit (before + (length (change_entries rule down pair.new) + length
      (change_entries rule up owned.new)))
      → IsCrowdedBy limit (before + length
      (owner_entries rule (two_nodes down up) inverted_rows o
      (members_of (fin.insert link m o) o)))
  crowded_by link o m pair owned limit before pair_is owned_is crowded =
      let both = pair_entries o m (members_of (fin.insert link m o) o)
      (in_members (fin.insert link m o) o m (new_here link o m)) in
      let one : length (change_entries rule down pair.new) ≡ length
      (entries_of rule down (pair_rec o m)) = ap (λ (c : Change). length
      (change_entries rule down c.new)) pair_is in
      let two : length (change_entries rule up owned.new) ≡ length
      (entries_of rule up (owned_rec o m)) = ap (λ (c : Change). length
      (change_entries rule up c.new)) owned_is in
      crowded_more limit _ _ (omega (arith, both, one, two)) crowded

  -- ---- leaves

  pub down_leaf : (n : ℕ) → In n (leaves_of down) → In n (kids_leaves (two_nodes down up))
  down_leaf n h = in_left n (leaves_of down) (leaves_of up ++ []) h

  pub up_leaf : (n : ℕ) → In n (leaves_of up) → In n (kids_leaves (two_nodes down up))
  up_leaf n h = in_right n (leaves_of down) (leaves_of up ++ []) (in_left n (leaves_of up) [] h)

  apart : (n : ℕ) → In n (leaves_of down) → In n (leaves_of up) → ⊥
  apart n h k = valid.nodes.2 n h (in_left n (leaves_of up) [] k)

  -- ---- a pair more

  module _ (link : Link) (o m : Value) (is : IsLink owner_key member_key link)
      (maps between new : List LeafMap) where
    -- the second node's leaves stay while the first one's change, and the other way round
    up_stays : (R : List Rec) → IsInternal rule up R maps
        → ((n : ℕ) → ¬ In n (leaves_of down) → map_at between n ≡ map_at maps n)
        → IsInternal rule up R between
    up_stays R held others =
        internal_elsewhere rule up R maps between valid.nodes.3.1
        (λ n h. others n (λ k. apart n k h)) held

    down_stays : (R : List Rec) → IsInternal rule down R between
        → ((n : ℕ) → ¬ In n (leaves_of up) → map_at new n ≡ map_at between n)
        → IsInternal rule down R new
    down_stays R held others =
        internal_elsewhere rule down R between new valid.nodes.1
        (λ n h. others n (λ k. apart n h k)) held

    module _ (free : fin.get link m ≡ None) where
      down_free : IsChange (node_rows inverted_rows link 0) None (Some (pair_rec o m))
      down_free r h e =
          let pair = from_down link r h in
          let keys : pair.owner ∷ pair.member ∷ [] ≡ o ∷ m ∷ [] =
          ap (λ (x : Rec). x.key) (sym pair.is) ∙ e in
          none_some pair.owner (sym free ∙ ap (fin.get link) (sym (ap second_of keys)) ∙ pair.owned)

      up_free : IsChange (node_rows inverted_rows link 1) None (Some (owned_rec o m))
      up_free r h e =
          let pair = from_up link r h in
          let keys : pair.member ∷ [] ≡ m ∷ [] = ap (λ (x : Rec). x.key) (sym pair.is) ∙ e in
          none_some pair.owner (sym free ∙ ap (fin.get link) (sym (ap first_of keys)) ∙ pair.owned)

      connected : IsInternal rule down (changed (node_rows inverted_rows link 0) None
          (Some (pair_rec o m))) new → IsInternal rule up
          (changed (node_rows inverted_rows link 1) None (Some (owned_rec o m))) new
          → IsHeldLink rule (two_nodes down up) inverted_rows (fin.insert link m o) new
      connected in_first in_second = (
        internal_of_members rule down
            (changed (node_rows inverted_rows link 0) None (Some (pair_rec o m)))
            (node_rows inverted_rows (fin.insert link m o) 0) new valid.nodes.1
            (λ r h. elim h [
              | inl e ↦ subst (λ x. In x (node_rows inverted_rows (fin.insert link m o) 0)) (sym e)
                  (in_down (fin.insert link m o) o m (new_here link o m))
              | inr k ↦ (let pair = from_down link r k in
                  subst (λ x. In x (node_rows inverted_rows (fin.insert link m o) 0)) (sym pair.is)
                  (in_down (fin.insert link m o) pair.owner pair.member
                  (still_there link o m free pair.member pair.owner pair.owned)))
            ])
            (λ r h.
            let pair = from_down (fin.insert link m o) r h in
            elim (from_insert link o m pair.member pair.owner pair.owned) [
              | inl both ↦ inl (pair.is ∙ (λ i. pair_rec (both.1 i) (both.0 i)))
              | inr both ↦
                  inr (subst (λ x. In x (node_rows inverted_rows link 0)) (sym pair.is)
                  (in_down link pair.owner pair.member both.1))
            ])
            in_first,
        (
          internal_of_members rule up
              (changed (node_rows inverted_rows link 1) None (Some (owned_rec o m)))
              (node_rows inverted_rows (fin.insert link m o) 1) new valid.nodes.3.1
              (λ r h. elim h [
                | inl e ↦ subst (λ x. In x (node_rows inverted_rows (fin.insert link m o) 1))
                    (sym e)
                    (in_up (fin.insert link m o) o m (new_here link o m))
                | inr k ↦ (let pair = from_up link r k in
                    subst (λ x. In x (node_rows inverted_rows (fin.insert link m o) 1))
                    (sym pair.is)
                    (in_up (fin.insert link m o) pair.owner pair.member
                    (still_there link o m free pair.member pair.owner pair.owned)))
              ])
              (λ r h.
              let pair = from_up (fin.insert link m o) r h in
              elim (from_insert link o m pair.member pair.owner pair.owned) [
                | inl both ↦ inl (pair.is ∙ (λ i. owned_rec (both.1 i) (both.0 i)))
                | inr both ↦
                    inr (subst (λ x. In x (node_rows inverted_rows link 1)) (sym pair.is)
                    (in_up link pair.owner pair.member both.1))
              ])
              in_second,
          tt,
        ),
      )

    -- ---- a pair less

    module _ (owned : fin.get link m ≡ Some o) where
      disconnected : IsInternal rule down (changed (node_rows inverted_rows link 0)
          (Some (pair_rec o m)) None) new → IsInternal rule up
          (changed (node_rows inverted_rows link 1) (Some (owned_rec o m)) None) new
          → IsHeldLink rule (two_nodes down up) inverted_rows (fin.remove link m) new
      disconnected in_first in_second = (
        internal_of_members rule down
            (changed (node_rows inverted_rows link 0) (Some (pair_rec o m)) None)
            (node_rows inverted_rows (fin.remove link m) 0) new valid.nodes.1
            (λ r h.
            let f = from_without (node_rows inverted_rows link 0) (pair_rec o m) r h in
            let pair = from_down link r f.0 in
            let other : pair.member ≢ m = λ e. f.1 (ap (λ (x : Rec). x.key) pair.is
            ∙ (λ i. same_Some pair.owner o (sym pair.owned ∙ ap (fin.get link) e ∙ owned) i ∷ e i
            ∷ [])) in
            subst (λ x. In x (node_rows inverted_rows (fin.remove link m) 0)) (sym pair.is)
            (in_down (fin.remove link m) pair.owner pair.member (kept_there link m pair.member other
            ∙ pair.owned)))
            (λ r h.
            let pair = from_down (fin.remove link m) r h in
            let both = from_remove link m pair.member pair.owner pair.owned in
            let there : In r (node_rows inverted_rows link 0) =
            subst (λ x. In x (node_rows inverted_rows link 0)) (sym pair.is)
            (in_down link pair.owner pair.member both.1) in
            to_without (node_rows inverted_rows link 0) (pair_rec o m) r there
            (λ e. both.0 (ap second_of (ap (λ (x : Rec). x.key) (sym pair.is) ∙ e))))
            in_first,
        (
          internal_of_members rule up
              (changed (node_rows inverted_rows link 1) (Some (owned_rec o m)) None)
              (node_rows inverted_rows (fin.remove link m) 1) new valid.nodes.3.1
              (λ r h.
              let f = from_without (node_rows inverted_rows link 1) (owned_rec o m) r h in
              let pair = from_up link r f.0 in
              let other : pair.member ≢ m =
              λ e. f.1 (ap (λ (x : Rec). x.key) pair.is ∙ (λ i. e i ∷ [])) in
              subst (λ x. In x (node_rows inverted_rows (fin.remove link m) 1)) (sym pair.is)
              (in_up (fin.remove link m) pair.owner pair.member (kept_there link m pair.member other
              ∙ pair.owned)))
              (λ r h.
              let pair = from_up (fin.remove link m) r h in
              let both = from_remove link m pair.member pair.owner pair.owned in
              let there : In r (node_rows inverted_rows link 1) =
              subst (λ x. In x (node_rows inverted_rows link 1)) (sym pair.is)
              (in_up link pair.owner pair.member both.1) in
              to_without (node_rows inverted_rows link 1) (owned_rec o m) r there
              (λ e. both.0 (ap first_of (ap (λ (x : Rec). x.key) (sym pair.is) ∙ e))))
              in_second,
          tt,
        ),
      )

  -- ---- what two changes make of the link

  pub pair_comes : (link : Link) (o m : Value) → IsLink owner_key member_key link
      → (maps new : List LeafMap) → fin.get link m ≡ None
      → IsHeldLink rule (two_nodes down up) inverted_rows link maps
      → (pair owned : Change) → pair ≡ coming (pair_rec o m) → owned ≡ coming (owned_rec o m)
      → AreReplaced rule down up pair owned maps new
      → IsHeldLink rule (two_nodes down up) inverted_rows (fin.insert link m o) new
  pair_comes link o m is maps new free held pair owned pair_is owned_is are =
      let a = subst (λ (c : Change). AreReplaced rule down up c (coming (owned_rec o m)) maps new)
      pair_is (subst (λ (c : Change). AreReplaced rule down up pair c maps new) owned_is are) in
      let first = a.one.internal (node_rows inverted_rows link 0) (down_set link is)
      (down_free link o m is maps a.half new free) held.0 in
      let second = a.two.internal (node_rows inverted_rows link 1) (up_set link is)
      (up_free link o m is maps a.half new free) (up_stays link o m is maps a.half new
      (node_rows inverted_rows link 1) held.1.0 a.one.others) in
      connected link o m is maps a.half new free (down_stays link o m is maps a.half new
      (changed (node_rows inverted_rows link 0) None (Some (pair_rec o m))) first a.two.others)
      second

  pub pair_goes : (link : Link) (o m : Value) → IsLink owner_key member_key link
      → (maps new : List LeafMap) → fin.get link m ≡ Some o
      → IsHeldLink rule (two_nodes down up) inverted_rows link maps
      → (pair owned : Change) → pair ≡ reversed (coming (pair_rec o m))
      → owned ≡ reversed (coming (owned_rec o m)) → AreReplaced rule down up pair owned maps new
      → IsHeldLink rule (two_nodes down up) inverted_rows (fin.remove link m) new
  pair_goes link o m is maps new there held pair owned pair_is owned_is are =
      let a = subst (λ (c : Change). AreReplaced rule down up c (reversed (coming (owned_rec o m)))
      maps new) pair_is (subst (λ (c : Change). AreReplaced rule down up pair c maps new)
      owned_is are) in
      let first = a.one.internal (node_rows inverted_rows link 0) (down_set link is)
      (in_down link o m there) held.0 in
      let second = a.two.internal (node_rows inverted_rows link 1) (up_set link is)
      (in_up link o m there) (up_stays link o m is maps a.half new
      (node_rows inverted_rows link 1) held.1.0 a.one.others) in
      disconnected link o m is maps a.half new there (down_stays link o m is maps a.half new
      (changed (node_rows inverted_rows link 0) (Some (pair_rec o m)) None) first a.two.others)
      second
