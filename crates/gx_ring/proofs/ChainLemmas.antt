-- The chains of a link's owners, and what one member more makes of them.
use Rattle.std.proofs.Common.{◌≡◌, ◌≢◌, ◌≤◌, ◌+◌, ℕ, List, [], ◌∷◌, ◌++◌, ◌⊎◌, Some, None, inl, inr, refl, sym, ap, subst, ◌∙◌, arith}
use Rattle.std.specs.FinMap as fin
use Rattle.std.specs.List.{sum_by}
use Rattle.std.proofs.lemmas.List.Sums.{sum_by-cons}
use Rattle.std.specs.declared.cmp.Ordering.TheVariants.{Less}
use Rattle.std.proofs.lemmas.Option.{same_Some}
use Rattle.gx_values.specs.declared.values.Value.{Value}
use Rattle.gx_values.specs.declared.records.Rec.{Rec}
use Rattle.gx_values.specs.Values.{value_cmp}
use Rattle.gx_values.proofs.OrderLemmas.{value_cmp_total, value_cases}
use Rattle.gx_mapping.specs.Rule.{In}
use Rattle.gx_mapping.proofs.RuleLemmas.{all_in}
use Rattle.gx_gather.proofs.Lists.{in_left, in_right, in_cases, all_of}
use Rattle.gx_gather.proofs.Orders.{Ascends, not_before_itself, ascends_append}
use Rattle.gx_links.specs.Links.{Link, members_of}
use Rattle.gx_links.proofs.MemberLemmas.{in_members, from_members, members_ascend, members_are, new_here, still_there, from_insert, others_stay}
use Rattle.gx_ring.specs.Ring.{first, chain_rec, chain, key_value}
use Rattle.gx_ring.specs.RingLaws.{tells, in_chain, owned_in_chain}

-- ---- the chain of one owner

abbrev lead : List Value → Value → Value
lead [] p = p
lead (u ∷ us) p = u

-- the records of the members before p
abbrev linked : Value → List Value → Value → List Rec
linked o [] p = []
linked o (u ∷ us) p = chain_rec o u (Some (lead us p)) ∷ linked o us p

first_lead : (us : List Value) (p : Value) (ys : List Value)
    → first (us ++ p ∷ ys) ≡ Some (lead us p)
first_lead [] p ys = refl
first_lead (u ∷ us) p ys = refl

split : (o : Value) (us : List Value) (p : Value) (ys : List Value)
    → chain o (us ++ p ∷ ys) ≡ linked o us p ++ chain_rec o p (first ys) ∷ chain o ys
split o [] p ys = refl
split o (u ∷ us) p ys = λ i. chain_rec o u (first_lead us p ys i) ∷ split o us p ys i

pub row_there : (o : Value) (us : List Value) (p : Value) (ys : List Value)
    → In (chain_rec o p (first ys)) (chain o (us ++ p ∷ ys))
row_there o us p ys = subst (In (chain_rec o p (first ys))) (sym (split o us p ys))
    (in_right _ (linked o us p) _ (inl refl))

in_linked : (o : Value) (us : List Value) (p : Value) (r : Rec) → In r (linked o us p)
    → In (key_value r) us
in_linked o [] p r h = absurd h
in_linked o (u ∷ us) p r (inl e) = inl (ap key_value e ∙ tells o u (Some (lead us p)))
in_linked o (u ∷ us) p r (inr h) = inr (in_linked o us p r h)

-- what stands from a member on weighs no more than all
pub chain_rest : (weight : Rec → ℕ) (o : Value) (us ys : List Value)
    → sum_by weight (chain o ys) ≤ sum_by weight (chain o (us ++ ys))
chain_rest weight o [] ys = omega arith
chain_rest weight o (u ∷ us) ys =
    let all : sum_by weight (chain o ((u ∷ us) ++ ys)) ≡ weight (chain_rec o u (first (us ++ ys)))
    + sum_by weight (chain o (us ++ ys)) =
    sum_by-cons weight (chain_rec o u (first (us ++ ys))) (chain o (us ++ ys)) in
    omega (arith, all, chain_rest weight o us ys)

-- ---- ascending members

-- no other member is p
apart_before : (us : List Value) (p : Value) (ys : List Value) → Ascends value_cmp (us ++ p ∷ ys)
    → (x : Value) → In x us → x ≢ p
apart_before [] p ys up x k e = k
apart_before (u ∷ us) p ys up x (inl is) e =
    not_before_itself value_cmp_total u
    (subst (λ z. value_cmp u z ≡ Less) (sym e ∙ is)
    (all_in _ (us ++ p ∷ ys) p up.0 (in_right p us (p ∷ ys) (inl refl))))
apart_before (u ∷ us) p ys up x (inr k) e = apart_before us p ys up.1 x k e

apart_behind : (us : List Value) (p : Value) (ys : List Value) → Ascends value_cmp (us ++ p ∷ ys)
    → (x : Value) → In x ys → x ≢ p
apart_behind [] p ys up x k e =
    not_before_itself value_cmp_total p (subst (λ z. value_cmp p z ≡ Less) e (all_in _ ys x up.0 k))
apart_behind (u ∷ us) p ys up x k e = apart_behind us p ys up.1 x k e

front_ascends : (us ys : List Value) → Ascends value_cmp (us ++ ys) → Ascends value_cmp us
front_ascends [] ys up = tt
front_ascends (u ∷ us) ys up =
    (all_of _ us (λ y h. all_in _ (us ++ ys) y up.0 (in_left y us ys h)), front_ascends us ys up.1)

rest_ascends : (us ys : List Value) → Ascends value_cmp (us ++ ys) → Ascends value_cmp ys
rest_ascends [] ys up = up
rest_ascends (u ∷ us) ys up = rest_ascends us ys up.1

-- ---- a member comes between some and others

-- a record of the chain of some owner
abbrev pub IsChained : Link → Rec → Type 0
IsChained link r = (o : Value) × In r (chain o (members_of link o))

module _ (link : Link) (o m : Value) (free : fin.get link m ≡ None) where
  module _ (fs ys : List Value) (members : members_of link o ≡ fs ++ ys) (lower : (x : Value)
      → In x fs → value_cmp x m ≡ Less) (upper : (x : Value) → In x ys → value_cmp m x ≡ Less) where
    up : Ascends value_cmp (fs ++ ys)
    up = subst (Ascends value_cmp) members (members_ascend link o)

    pub members_between : members_of (fin.insert link m o) o ≡ fs ++ m ∷ ys
    members_between = sym (members_are (fin.insert link m o) o (fs ++ m ∷ ys)
        (ascends_append fs (m ∷ ys) (front_ascends fs ys up)
        (all_of _ ys upper, rest_ascends fs ys up) (λ x y h k. between x y h k))
        (λ x h. elim (in_cases x fs (m ∷ ys) h) [
          | inl k ↦ still_there link o m free x o
              (from_members link o x (subst (In x) (sym members) (in_left x fs ys k)))
          | inr k ↦ elim k [
            | inl e ↦ ap (fin.get (fin.insert link m o)) e ∙ new_here link o m
            | inr j ↦ still_there link o m free x o
                (from_members link o x (subst (In x) (sym members) (in_right x fs ys j)))
          ]
        ])
        (λ x e. elim (from_insert link o m x o e) [
          | inl both ↦ in_right x fs (m ∷ ys) (inl both.0)
          | inr both ↦ elim (in_cases x fs ys (subst (In x) members (in_members link o x both.1))) [
            | inl k ↦ in_left x fs (m ∷ ys) k
            | inr k ↦ in_right x fs (m ∷ ys) (inr k)
          ]
        ]))
      where
        across : (us : List Value) → Ascends value_cmp (us ++ ys) → (x y : Value) → In x us
            → In y ys → value_cmp x y ≡ Less
        across [] a x y h k = absurd h
        across (u ∷ us) a x y (inl e) k = ap (λ z. value_cmp z y) e
            ∙ all_in _ (us ++ ys) y a.0 (in_right y us ys k)
        across (u ∷ us) a x y (inr h) k = across us a.1 x y h k

        between : (x y : Value) → In x fs → In y (m ∷ ys) → value_cmp x y ≡ Less
        between x y h (inl e) = ap (value_cmp x) e ∙ lower x h
        between x y h (inr k) = across fs up x y h k

  -- behind another one
  module _ (us : List Value) (p : Value) (ys : List Value)
      (members : members_of link o ≡ us ++ p ∷ ys)
      (now : members_of (fin.insert link m o) o ≡ us ++ p ∷ m ∷ ys) where
    ascending : Ascends value_cmp (us ++ p ∷ ys)
    ascending = subst (Ascends value_cmp) members (members_ascend link o)

    owner_of_p : fin.get link p ≡ Some o
    owner_of_p = from_members link o p
        (subst (In p) (sym members) (in_right p us (p ∷ ys) (inl refl)))

    pub there_behind : IsChained link (chain_rec o p (first ys))
    there_behind = (
      o,
      subst (λ ms. In (chain_rec o p (first ys)) (chain o ms)) (sym members)
          (row_there o us p ys),
    )

    pub chain_behind : (r : Rec) → IsChained (fin.insert link m o) r
        → (r ≡ chain_rec o m (first ys)) ⊎ (r ≡ chain_rec o p (Some m))
        ⊎ (IsChained link r × (key_value r ≢ p))
    chain_behind r (x, h) = elim (value_cases x o) [
      | inl is ↦ here (in_cases r (linked o us p)
          (chain_rec o p (Some m) ∷ chain_rec o m (first ys) ∷ chain o ys)
          (subst (In r) (split o us p (m ∷ ys))
          (subst (λ ms. In r (chain o ms)) now
          (subst (λ z. In r (chain z (members_of (fin.insert link m o) z))) is h))))
      | inr ne ↦ (
          let old : In r (chain x (members_of link x)) =
          subst (λ ms. In r (chain x ms)) (others_stay link o m free x ne) h in
          inr
          (inr (
            (x, old),
            λ e. ne (same_Some x o (sym (owned_in_chain link x r old) ∙ ap (fin.get link) e
                ∙ owner_of_p)),
          )))
    ]
      where
        at : In r (linked o us p ++ chain_rec o p (first ys) ∷ chain o ys) → IsChained link r
        at k = (
          o,
          subst (λ ms. In r (chain o ms)) (sym members)
              (subst (In r) (sym (split o us p ys)) k),
        )

        here : In r (linked o us p)
            ⊎ In r (chain_rec o p (Some m) ∷ chain_rec o m (first ys) ∷ chain o ys)
            → (r ≡ chain_rec o m (first ys)) ⊎ (r ≡ chain_rec o p (Some m))
            ⊎ (IsChained link r × (key_value r ≢ p))
        here (inl k) = inr (inr (
          at (in_left r (linked o us p) (chain_rec o p (first ys) ∷ chain o ys) k),
          apart_before us p ys ascending (key_value r) (in_linked o us p r k),
        ))
        here (inr (inl e)) = inr (inl e)
        here (inr (inr (inl e))) = inl e
        here (inr (inr (inr k))) =
            inr
            (inr (
              at (in_right r (linked o us p) (chain_rec o p (first ys) ∷ chain o ys) (inr k)),
              apart_behind us p ys ascending (key_value r) (in_chain o ys r k),
            ))

    pub behind_chain : (r : Rec) → (r ≡ chain_rec o m (first ys)) ⊎ (r ≡ chain_rec o p (Some m))
        ⊎ (IsChained link r × (key_value r ≢ p)) → IsChained (fin.insert link m o) r
    behind_chain r h = go h
      where
        at : In r (linked o us p ++ chain_rec o p (Some m) ∷ chain_rec o m (first ys) ∷ chain o ys)
            → IsChained (fin.insert link m o) r
        at k = (
          o,
          subst (λ ms. In r (chain o ms)) (sym now)
              (subst (In r) (sym (split o us p (m ∷ ys))) k),
        )

        old : key_value r ≢ p → In r (linked o us p) ⊎ In r (chain_rec o p (first ys) ∷ chain o ys)
            → IsChained (fin.insert link m o) r
        old ne (inl k) = at (in_left r (linked o us p)
            (chain_rec o p (Some m) ∷ chain_rec o m (first ys) ∷ chain o ys) k)
        old ne (inr (inl e)) = absurd (ne (ap key_value e ∙ tells o p (first ys)))
        old ne (inr (inr k)) = at
            (in_right r (linked o us p)
            (chain_rec o p (Some m) ∷ chain_rec o m (first ys) ∷ chain o ys) (inr (inr k)))

        go : (r ≡ chain_rec o m (first ys)) ⊎ (r ≡ chain_rec o p (Some m))
            ⊎ (IsChained link r × (key_value r ≢ p)) → IsChained (fin.insert link m o) r
        go (inl e) = at (in_right r (linked o us p)
            (chain_rec o p (Some m) ∷ chain_rec o m (first ys) ∷ chain o ys) (inr (inl e)))
        go (inr (inl e)) = at (in_right r (linked o us p)
            (chain_rec o p (Some m) ∷ chain_rec o m (first ys) ∷ chain o ys) (inl e))
        go (inr (inr ((x, k), ne))) = elim (value_cases x o) [
          | inl is ↦ old ne (in_cases r (linked o us p) (chain_rec o p (first ys) ∷ chain o ys)
              (subst (In r) (split o us p ys)
              (subst (λ ms. In r (chain o ms)) members
              (subst (λ z. In r (chain z (members_of link z))) is k))))
          | inr other ↦ (
            x,
            subst (λ ms. In r (chain x ms))
                (sym (others_stay link o m free x other)) k,
          )
        ]

    pub heads_behind : (x : Value)
        → first (members_of (fin.insert link m o) x) ≡ first (members_of link x)
    heads_behind x = elim (value_cases x o) [
      | inl is ↦ ap (λ z. first (members_of (fin.insert link m o) z)) is ∙ ap first now
          ∙ first_lead us p (m ∷ ys) ∙ sym (first_lead us p ys) ∙ ap first (sym members)
          ∙ ap (λ z. first (members_of link z)) (sym is)
      | inr ne ↦ ap first (others_stay link o m free x ne)
    ]

  -- before all others
  module _ (ys : List Value) (members : members_of link o ≡ ys)
      (now : members_of (fin.insert link m o) o ≡ m ∷ ys) where
    pub chain_front : (r : Rec) → IsChained (fin.insert link m o) r
        → (r ≡ chain_rec o m (first ys)) ⊎ IsChained link r
    chain_front r (x, h) = elim (value_cases x o) [
      | inl is ↦ here (subst (λ ms. In r (chain o ms)) now
          (subst (λ z. In r (chain z (members_of (fin.insert link m o) z))) is h))
      | inr ne ↦ inr (x, subst (λ ms. In r (chain x ms)) (others_stay link o m free x ne) h)
    ]
      where
        here : In r (chain_rec o m (first ys) ∷ chain o ys)
            → (r ≡ chain_rec o m (first ys)) ⊎ IsChained link r
        here (inl e) = inl e
        here (inr k) = inr (o, subst (λ ms. In r (chain o ms)) (sym members) k)

    pub front_chain : (r : Rec) → (r ≡ chain_rec o m (first ys)) ⊎ IsChained link r
        → IsChained (fin.insert link m o) r
    front_chain r (inl e) = (o, subst (λ ms. In r (chain o ms)) (sym now) (inl e))
    front_chain r (inr (x, k)) = elim (value_cases x o) [
      | inl is ↦ (
        o,
        subst (λ ms. In r (chain o ms)) (sym now)
            (inr (subst (λ ms. In r (chain o ms)) members
            (subst (λ z. In r (chain z (members_of link z))) is k))),
      )
      | inr ne ↦ (x, subst (λ ms. In r (chain x ms)) (sym (others_stay link o m free x ne)) k)
    ]
