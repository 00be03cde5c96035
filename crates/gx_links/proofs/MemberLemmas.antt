-- The members of the owners of a link, and what one pair more or less makes of them.
use Rattle.std.proofs.Common.{◌≡◌, ◌<◌, ◌≤◌, suc, List, [], ◌∷◌, ◌⊎◌, length, cond, Bool, true, false, Option, Some, None, inl, inr, refl, sym, ap, subst, ◌∙◌, arith}
use Rattle.std.specs.Prelude.{T, ◌≢◌, not, map, filter}
use Rattle.std.specs.Ordering.{is_lt, ordering_reverse}
use Rattle.std.specs.declared.cmp.Ordering.{Ordering}
use Rattle.std.specs.declared.cmp.Ordering.TheVariants.{Less, Equal, Greater}
use Rattle.std.specs.FinMap as fin
use Rattle.std.proofs.lemmas.Bool.{true≢false, not-true, not_from_false}
use Rattle.std.proofs.lemmas.Option.{same_Some}
use Rattle.gx_laws.proofs.BoolLemmas.{first_of_both, second_of_both}
use Rattle.gx_laws.proofs.OrderingLemmas.{is_less}
use Rattle.gx_values.specs.declared.values.Kind.{Kind}
use Rattle.gx_values.specs.declared.values.Value.{Value}
use Rattle.gx_values.specs.Values.{value_cmp, Fits}
use Rattle.gx_values.proofs.OrderLemmas.{value_cmp_total, value_cmp_same, same_value, value_itself, other_value, value_cases}
use Rattle.gx_mapping.specs.Rule.{In}
use Rattle.gx_mapping.proofs.RuleLemmas.{all_in}
use Rattle.gx_gather.proofs.Lists.{in_map, from_map, in_filter, filter_in, all_of, none_some}
use Rattle.gx_gather.proofs.Orders.{Ascends, ascends_filter, ascends_unique}
use Rattle.gx_gather.proofs.Entries.{below_in, find_in, in_find}
use Rattle.gx_links.specs.Links.{Link, is_same, members_of, distinct, owners_of, most_members, IsLink, with_member, without_member}

-- ---- orders

-- ---- pairs and look-ups

pub pair_in : (link : Link) (m o : Value) → fin.get link m ≡ Some o → In (m, o) (fin.entries link)
pair_in link m o e = find_in value_cmp_same m o (fin.entries link) (sym (fin.get-entries link m)
    ∙ e)

pub in_pair : (link : Link) (pair : Value × Value) → In pair (fin.entries link)
    → fin.get link pair.0 ≡ Some pair.1
in_pair link pair h = fin.get-entries link pair.0
    ∙ in_find value_cmp_total pair (fin.entries link) (fin.entries_sorted link) h

-- ---- the members of an owner

pub in_members : (link : Link) (o x : Value) → fin.get link x ≡ Some o → In x (members_of link o)
in_members link o x e =
    in_map (λ (pair : Value × Value). pair.0) (x, o)
    (filter (λ pair. is_same pair.1 o) (fin.entries link))
    (filter_in (λ pair. is_same pair.1 o) (x, o) (fin.entries link) (pair_in link x o e)
    (value_itself o))

pub from_members : (link : Link) (o x : Value) → In x (members_of link o) → fin.get link x ≡ Some o
from_members link o x h =
    let q = from_map (λ (pair : Value × Value). pair.0) x
    (filter (λ pair. is_same pair.1 o) (fin.entries link)) h in
    let f = in_filter (λ (pair : Value × Value). is_same pair.1 o) q.0 (fin.entries link) q.1 in
    ap (fin.get link) q.2 ∙ in_pair link q.0 f.0 ∙ ap Some (same_value q.0.1 o f.1)

ascend_list : (test : Value × Value → Bool) (es : List (Value × Value))
    → T (fin.is_sorted value_cmp es) → Ascends value_cmp (map (λ pair. pair.0) (filter test es))
ascend_list test [] h = tt
ascend_list test (e ∷ es) h = go (test e) (ascend_list test es (second_of_both _ _ h))
  where
    go : (b : Bool) → Ascends value_cmp (map (λ pair. pair.0) (filter test es))
        → Ascends value_cmp (map (λ pair. pair.0) (cond b (e ∷ filter test es) (filter test es)))
    go true more = (
      all_of _ (map (λ pair. pair.0) (filter test es)) (λ y k.
          let q = from_map (λ (pair : Value × Value). pair.0) y (filter test es) k in
          subst (λ z. value_cmp e.0 z ≡ Less) (sym q.2)
          (below_in value_cmp e.0 es q.0 (first_of_both _ _ h) (in_filter test q.0 es q.1).0)),
      more,
    )
    go false more = more

pub members_ascend : (link : Link) (o : Value) → Ascends value_cmp (members_of link o)
members_ascend link o =
    ascend_list (λ pair. is_same pair.1 o) (fin.entries link) (fin.entries_sorted link)

-- ascending values that are just the members are the list of them
pub members_are : (link : Link) (o : Value) (zs : List Value) → Ascends value_cmp zs
    → ((z : Value) → In z zs → fin.get link z ≡ Some o)
    → ((z : Value) → fin.get link z ≡ Some o → In z zs) → zs ≡ members_of link o
members_are link o zs up sound complete =
    ascends_unique value_cmp_total zs (members_of link o) up (members_ascend link o)
    (λ z h. in_members link o z (sound z h)) (λ z h. complete z (from_members link o z h))

in_distinct : (xs : List Value) (y : Value) → In y xs → In y (distinct xs)
in_distinct [] y h = absurd h
in_distinct (x ∷ xs) y (inl e) = inl e
in_distinct (x ∷ xs) y (inr h) = elim (value_cases y x) [
  | inl e ↦ inl e
  | inr ne ↦ inr (filter_in (λ z. not (is_same z x)) y (distinct xs) (in_distinct xs y h)
      (not_from_false _ (other_value y x ne)))
]

pub owner_there : (link : Link) (o x : Value) → fin.get link x ≡ Some o → In o (owners_of link)
owner_there link o x e =
    in_distinct (map (λ pair. pair.1) (fin.entries link)) o
    (in_map (λ (pair : Value × Value). pair.1) (x, o) (fin.entries link) (pair_in link x o e))

-- links with the same pairs are one
pub same_link : (link other : Link)
    → ((x o : Value) → fin.get link x ≡ Some o → fin.get other x ≡ Some o)
    → ((x o : Value) → fin.get other x ≡ Some o → fin.get link x ≡ Some o) → link ≡ other
same_link link other to from =
    fin.same_map value_cmp_total value_cmp_same link other
    (λ x. go x (fin.get link x) (fin.get other x) refl refl)
  where
    go : (x : Value) (a b : Option Value) → fin.get link x ≡ a → fin.get other x ≡ b → a ≡ b
    go x None None e f = refl
    go x None (Some o) e f = sym e ∙ from x o f
    go x (Some o) b e f = sym (to x o e) ∙ f

-- ---- one member more or less, among ascending ones

pub in_with : (m : Value) (xs : List Value) (y : Value) → (y ≡ m) ⊎ In y xs
    → In y (with_member m xs)
in_with m [] y (inl e) = inl e
in_with m [] y (inr h) = absurd h
in_with m (x ∷ xs) y h = go (is_lt (value_cmp m x)) h (λ k. in_with m xs y k)
  where
    go : (b : Bool) → (y ≡ m) ⊎ In y (x ∷ xs) → ((y ≡ m) ⊎ In y xs → In y (with_member m xs))
        → In y (cond b (m ∷ x ∷ xs) (x ∷ with_member m xs))
    go true (inl e) more = inl e
    go true (inr k) more = inr k
    go false (inl e) more = inr (more (inl e))
    go false (inr (inl e)) more = inl e
    go false (inr (inr k)) more = inr (more (inr k))

pub from_with : (m : Value) (xs : List Value) (y : Value) → In y (with_member m xs)
    → (y ≡ m) ⊎ In y xs
from_with m [] y (inl e) = inl e
from_with m [] y (inr h) = absurd h
from_with m (x ∷ xs) y h = go (is_lt (value_cmp m x)) h (λ k. from_with m xs y k)
  where
    go : (b : Bool) → In y (cond b (m ∷ x ∷ xs) (x ∷ with_member m xs))
        → (In y (with_member m xs) → (y ≡ m) ⊎ In y xs) → (y ≡ m) ⊎ In y (x ∷ xs)
    go true (inl e) more = inl e
    go true (inr k) more = inr k
    go false (inl e) more = inr (inl e)
    go false (inr k) more = elim (more k) [ inl e ↦ inl e | inr i ↦ inr (inr i) ]

not_less : (m x : Value) → is_lt (value_cmp m x) ≡ false → m ≢ x → value_cmp x m ≡ Less
not_less m x e ne = go (value_cmp m x) refl
  where
    go : (r : Ordering) → value_cmp m x ≡ r → value_cmp x m ≡ Less
    go Less is = absurd (true≢false (sym (ap is_lt is) ∙ e))
    go Equal is = absurd (ne (value_cmp_same m x is))
    go Greater is = value_cmp_total.antisymm x m ∙ ap ordering_reverse is

pub with_ascends : (m : Value) (xs : List Value) → Ascends value_cmp xs → (In m xs → ⊥)
    → Ascends value_cmp (with_member m xs)
with_ascends m [] up new = (tt, tt)
with_ascends m (x ∷ xs) up new =
    go (is_lt (value_cmp m x)) refl (with_ascends m xs up.1 (λ h. new (inr h)))
  where
    go : (b : Bool) → is_lt (value_cmp m x) ≡ b → Ascends value_cmp (with_member m xs)
        → Ascends value_cmp (cond b (m ∷ x ∷ xs) (x ∷ with_member m xs))
    go true e more =
        let less : value_cmp m x ≡ Less = is_less _ (subst T (sym e) tt) in
        ((less, all_of _ xs (λ y h. value_cmp_total.trans m x y less (all_in _ xs y up.0 h))), up)
    go false e more = (
      all_of _ (with_member m xs) (λ y h. elim (from_with m xs y h) [
        | inl is ↦ subst (λ z. value_cmp x z ≡ Less) (sym is)
            (not_less m x e (λ same. new (inl same)))
        | inr k ↦ all_in _ xs y up.0 k
      ]),
      more,
    )

pub with_length : (m : Value) (xs : List Value) → length (with_member m xs) ≡ suc (length xs)
with_length m [] = refl
with_length m (x ∷ xs) = go (is_lt (value_cmp m x)) (with_length m xs)
  where
    go : (b : Bool) → length (with_member m xs) ≡ suc (length xs)
        → length (cond b (m ∷ x ∷ xs) (x ∷ with_member m xs)) ≡ suc (suc (length xs))
    go true e = refl
    go false e = ap suc e

pub without_length : (m : Value) (xs : List Value) → length (without_member m xs) ≤ length xs
without_length m [] = omega arith
without_length m (x ∷ xs) = go (not (is_same x m)) (without_length m xs)
  where
    go : (b : Bool) → length (without_member m xs) ≤ length xs
        → length (cond b (x ∷ without_member m xs) (without_member m xs)) ≤ suc (length xs)
    go true l = omega (arith, l)
    go false l = omega (arith, l)

pub in_without : (m : Value) (xs : List Value) (y : Value) → In y xs → y ≢ m
    → In y (without_member m xs)
in_without m xs y h ne =
    filter_in (λ x. not (is_same x m)) y xs h (not_from_false _ (other_value y m ne))

pub from_without : (m : Value) (xs : List Value) (y : Value) → In y (without_member m xs)
    → In y xs × (y ≢ m)
from_without m xs y h =
    let f = in_filter (λ x. not (is_same x m)) y xs h in
    (f.0, λ e. true≢false (sym (value_itself m) ∙ ap (λ x. is_same x m) (sym e) ∙ not-true _ f.1))

-- ---- a member comes

module _ (link : Link) (o m : Value) where
  pub new_here : fin.get (fin.insert link m o) m ≡ Some o
  new_here = fin.get-insert value_cmp_total link m o m
      ∙ ap (λ b. cond b (Some o) (fin.get link m)) (value_itself m)

  pub old_there : (x : Value) → x ≢ m → fin.get (fin.insert link m o) x ≡ fin.get link x
  old_there x ne = fin.get-insert value_cmp_total link m o x
      ∙ ap (λ b. cond b (Some o) (fin.get link x)) (other_value x m ne)

  -- whose owner is which
  pub from_insert : (x y : Value) → fin.get (fin.insert link m o) x ≡ Some y
      → ((x ≡ m) × (y ≡ o)) ⊎ ((x ≢ m) × (fin.get link x ≡ Some y))
  from_insert x y e = elim (value_cases x m) [
    | inl is ↦ inl (is, same_Some y o (sym e ∙ ap (fin.get (fin.insert link m o)) is ∙ new_here))
    | inr ne ↦ inr (ne, sym (old_there x ne) ∙ e)
  ]

  module _ (free : fin.get link m ≡ None) where
    not_new : (x y : Value) → fin.get link x ≡ Some y → x ≢ m
    not_new x y e is = none_some y (sym free ∙ ap (fin.get link) (sym is) ∙ e)

    pub still_there : (x y : Value) → fin.get link x ≡ Some y
        → fin.get (fin.insert link m o) x ≡ Some y
    still_there x y e = old_there x (not_new x y e) ∙ e

    pub members_with : members_of (fin.insert link m o) o ≡ with_member m (members_of link o)
    members_with = sym (members_are (fin.insert link m o) o (with_member m (members_of link o))
        (with_ascends m (members_of link o) (members_ascend link o)
        (λ h. none_some o (sym free ∙ from_members link o m h)))
        (λ z h. elim (from_with m (members_of link o) z h) [
          | inl is ↦ ap (fin.get (fin.insert link m o)) is ∙ new_here
          | inr k ↦ still_there z o (from_members link o z k)
        ])
        (λ z e. elim (from_insert z o e) [
          | inl both ↦ in_with m (members_of link o) z (inl both.0)
          | inr both ↦ in_with m (members_of link o) z (inr (in_members link o z both.1))
        ]))

    pub others_stay : (x : Value) → x ≢ o → members_of (fin.insert link m o) x ≡ members_of link x
    others_stay x ne = members_are link x (members_of (fin.insert link m o) x)
        (members_ascend (fin.insert link m o) x)
        (λ z h. elim (from_insert z x (from_members (fin.insert link m o) x z h)) [
          | inl both ↦ absurd (ne both.1)
          | inr both ↦ both.1
        ])
        (λ z e. in_members (fin.insert link m o) x z (still_there z x e))

    -- the link with it is one that nodes can hold
    pub insert_link : (owner member : Kind) → IsLink owner member link → Fits owner o
        → Fits member m → length (members_of link o) < most_members
        → IsLink owner member (fin.insert link m o)
    insert_link owner member is fit_o fit_m room = record {
      fit = λ x y e. elim (from_insert x y e) [
        | inl both ↦ (subst (Fits member) (sym both.0) fit_m, subst (Fits owner) (sym both.1) fit_o)
        | inr both ↦ is.fit x y both.1
      ];
      few = λ x. elim (value_cases x o) [
        | inl e ↦ subst (λ z. length (members_of (fin.insert link m o) z) ≤ most_members) (sym e)
            (subst (λ zs. length zs ≤ most_members) (sym members_with)
            (omega (arith, with_length m (members_of link o), room)))
        | inr ne ↦ subst (λ zs. length zs ≤ most_members) (sym (others_stay x ne)) (is.few x)
      ];
    }

-- ---- a member goes

module _ (link : Link) (m : Value) where
  pub gone_free : fin.get (fin.remove link m) m ≡ None
  gone_free = fin.get-remove value_cmp_total link m m
      ∙ ap (λ b. cond b None (fin.get link m)) (value_itself m)

  pub kept_there : (x : Value) → x ≢ m → fin.get (fin.remove link m) x ≡ fin.get link x
  kept_there x ne = fin.get-remove value_cmp_total link m x
      ∙ ap (λ b. cond b None (fin.get link x)) (other_value x m ne)

  pub from_remove : (x y : Value) → fin.get (fin.remove link m) x ≡ Some y
      → (x ≢ m) × (fin.get link x ≡ Some y)
  from_remove x y e =
      let ne : x ≢ m = λ is. none_some y (sym gone_free ∙ ap (fin.get (fin.remove link m)) (sym is)
      ∙ e) in
      (ne, sym (kept_there x ne) ∙ e)

  pub members_gone : (o : Value)
      → members_of (fin.remove link m) o ≡ without_member m (members_of link o)
  members_gone o = sym (members_are (fin.remove link m) o (without_member m (members_of link o))
      (ascends_filter value_cmp (λ x. not (is_same x m)) (members_of link o)
      (members_ascend link o))
      (λ z h. let f = from_without m (members_of link o) z h in kept_there z f.1
      ∙ from_members link o z f.0)
      (λ z e. let f = from_remove z o e in
      in_without m (members_of link o) z (in_members link o z f.1) f.0))

  pub remove_link : (owner member : Kind) → IsLink owner member link
      → IsLink owner member (fin.remove link m)
  remove_link owner member is = record {
    fit = λ x y e. is.fit x y (from_remove x y e).1;
    few = λ x. subst (λ zs. length zs ≤ most_members) (sym (members_gone x))
        (omega (arith, without_length m (members_of link x), is.few x));
  }

-- the member that goes is one that came
pub gone_comes : (link : Link) (o m : Value) → fin.get link m ≡ Some o
    → fin.insert (fin.remove link m) m o ≡ link
gone_comes link o m e = same_link (fin.insert (fin.remove link m) m o) link
    (λ x y f. elim (from_insert (fin.remove link m) o m x y f) [
      | inl both ↦ ap (fin.get link) both.0 ∙ e ∙ ap Some (sym both.1)
      | inr both ↦ (from_remove link m x y both.1).1
    ])
    (λ x y f. elim (value_cases x m) [
      | inl is ↦ ap (fin.get (fin.insert (fin.remove link m) m o)) is
          ∙ new_here (fin.remove link m) o m ∙ sym e ∙ ap (fin.get link) (sym is) ∙ f
      | inr ne ↦ old_there (fin.remove link m) o m x ne ∙ kept_there link m x ne ∙ f
    ])
