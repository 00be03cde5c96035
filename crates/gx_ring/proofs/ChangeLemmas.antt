-- The records of the two nodes as sets, and what a member that comes or goes makes of them.
use Rattle.std.proofs.Common.{◌≡◌, ◌≢◌, ℕ, List, [], ◌∷◌, ◌++◌, ◌⊎◌, Option, Some, None, inl, inr, refl, sym, ap, subst, ◌∙◌, get_or}
use Rattle.std.specs.FinMap as fin
use Rattle.std.proofs.lemmas.Option.{same_Some}
use Rattle.gx_values.specs.declared.values.Value.{Value}
use Rattle.gx_values.specs.declared.records.Form.{Form}
use Rattle.gx_values.specs.declared.records.Rec.{Rec}
use Rattle.gx_values.proofs.OrderLemmas.{value_cases}
use Rattle.gx_values.specs.Values.{no_value}
use Rattle.gx_mapping.specs.Rule.{Rule, In, IsOf}
use Rattle.gx_gather.specs.Gather.{part_for}
use Rattle.gx_gather.proofs.Lists.{none_some}
use Rattle.gx_stack.specs.Tree.{Tree, tree_form}
use Rattle.gx_stack.specs.Internal.{IsSet, IsChange, changed}
use Rattle.gx_stack.proofs.Without.{from_without, to_without}
use Rattle.gx_links.specs.Links.{Link, members_of, IsLink}
use Rattle.gx_links.specs.Rows.{node_rows, two_forms, RowLaws, owner_kind, member_kind}
use Rattle.gx_links.proofs.MemberLemmas.{others_stay}
use Rattle.gx_links.proofs.RowLemmas.{in_node_rows, from_node_rows, node_set}
use Rattle.gx_ring.specs.Ring.{first, head_rec, chain_rec, head_if, chain, ring_rows, IsRing, key_value}
use Rattle.gx_ring.specs.RingLaws.{IsHead, head_row, chain_row, row_cases, tells_key, key_in_chain, owned_in_chain, ring_row_laws}
use Rattle.gx_ring.proofs.ChainLemmas.{IsChained, there_behind, chain_behind, behind_chain, heads_behind, chain_front, front_chain}

-- ---- changes

pub from_changed : (R : List Rec) (o n r : Rec) → In r (changed R (Some o) (Some n))
    → (r ≡ n) ⊎ (In r R × (r.key ≢ o.key))
from_changed R o n r (inl e) = inl e
from_changed R o n r (inr h) = inr (from_without R o r h)

changed_set : (form : Form) (R : List Rec) (o n : Rec) → IsSet form R → IsOf form n → o.key ≡ n.key
    → IsSet form (changed R (Some o) (Some n))
changed_set form R o n set fits key = record {
  fits = λ r h. elim (from_changed R o n r h)
      [ inl e ↦ subst (IsOf form) (sym e) fits | inr b ↦ set.fits r b.0 ];
  one = λ r s h k e. go r s (from_changed R o n r h) (from_changed R o n s k) e;
}
  where
    go : (r s : Rec) → (r ≡ n) ⊎ (In r R × (r.key ≢ o.key)) → (s ≡ n) ⊎ (In s R × (s.key ≢ o.key))
        → r.key ≡ s.key → r ≡ s
    go r s (inl a) (inl b) e = a ∙ sym b
    go r s (inl a) (inr b) e = absurd (b.1 (sym e ∙ ap (λ (q : Rec). q.key) a ∙ sym key))
    go r s (inr a) (inl b) e = absurd (a.1 (e ∙ ap (λ (q : Rec). q.key) b ∙ sym key))
    go r s (inr a) (inr b) e = set.one r s a.0 b.0 e

without_set : (form : Form) (R : List Rec) (o : Rec) → IsSet form R
    → IsSet form (changed R (Some o) None)
without_set form R o set = record {
  fits = λ r h. set.fits r (from_without R o r h).0;
  one = λ r s h k e. set.one r s (from_without R o r h).0 (from_without R o s k).0 e;
}

key_cases : (r : Rec) (o : Value) (r_key : r.key ≡ key_value r ∷ [])
    → (r.key ≡ o ∷ []) ⊎ (r.key ≢ o ∷ [])
key_cases r o is = elim (value_cases (key_value r) o) [
  | inl e ↦ inl (is ∙ ap (λ z. z ∷ []) e)
  | inr ne ↦ inr (λ e. ne (ap (λ ks. get_or ks 0 no_value) e))
]

pub head_key : (o : Value) (ms : List Value) (h : Rec) → IsHead o ms h → h.key ≡ o ∷ []
head_key o ms h is = ap (λ (q : Rec). q.key) is.is

module _ {M : Type 0} (rule : M → Rule) (heads nexts : Tree M) (valid : IsRing rule heads nexts)
  where
    laws : RowLaws (owner_kind rule heads) (member_kind rule nexts)
        (two_forms (tree_form rule heads) (tree_form rule nexts)) 2 ring_rows
    laws = ring_row_laws (owner_kind rule heads) (member_kind rule nexts) (tree_form rule heads)
        (tree_form rule nexts) valid.head_keys valid.head_fields valid.chain_keys valid.chain_fields

    abbrev pub head_rows : Link → List Rec
    head_rows link = node_rows ring_rows link 0

    abbrev pub chain_rows : Link → List Rec
    chain_rows link = node_rows ring_rows link 1

    pub head_set : (link : Link) → IsLink (owner_kind rule heads) (member_kind rule nexts) link
        → IsSet (tree_form rule heads) (head_rows link)
    head_set link is = node_set laws link 0 is

    pub chain_set : (link : Link) → IsLink (owner_kind rule heads) (member_kind rule nexts) link
        → IsSet (tree_form rule nexts) (chain_rows link)
    chain_set link is = node_set laws link 1 is

    pub head_in : (link : Link) (o : Value) (h : Rec) → IsHead o (members_of link o) h
        → In h (head_rows link)
    head_in link o h is = in_node_rows laws link o (part_for 0 h)
        (head_row o (members_of link o) h is)

    pub in_heads : (link : Link) (h : Rec) → In h (head_rows link)
        → (o : Value) × IsHead o (members_of link o) h
    in_heads link h k =
        let q = from_node_rows laws link 0 h k in
        elim (row_cases q.0 (members_of link q.0) q.1.0 q.1.1) [
          | inl x ↦ (q.0, subst (IsHead q.0 (members_of link q.0)) q.1.3 x.1)
          | inr x ↦ absurd (zero_one (sym q.1.2 ∙ x.0))
        ]
      where
        zero_one : ◌≡◌ {A = ℕ} 0 1 → ⊥
        zero_one e = cc

    pub chain_in : (link : Link) (r : Rec) → IsChained link r → In r (chain_rows link)
    chain_in link r (o, h) =
        in_node_rows laws link o (part_for 1 r) (chain_row o (members_of link o) r h)

    pub in_chains : (link : Link) (r : Rec) → In r (chain_rows link) → IsChained link r
    in_chains link r k =
        let q = from_node_rows laws link 1 r k in
        elim (row_cases q.0 (members_of link q.0) q.1.0 q.1.1) [
          | inl x ↦ absurd (one_zero (sym q.1.2 ∙ x.0))
          | inr x ↦ (q.0, subst (λ z. In z (chain q.0 (members_of link q.0))) q.1.3 x.1)
        ]
      where
        one_zero : ◌≡◌ {A = ℕ} 1 0 → ⊥
        one_zero e = cc

    -- links with the same first members have the same heads
    pub heads_same : (link other : Link)
        → ((x : Value) → first (members_of link x) ≡ first (members_of other x)) → (h : Rec)
        → In h (head_rows link) → In h (head_rows other)
    heads_same link other same h k =
        let q = in_heads link h k in
        head_in other q.0 h (go (members_of other q.0) (sym (ap first q.1.members) ∙ same q.0)
        q.1.is)
      where
        go : {o n : Value} (ms : List Value) → Some n ≡ first ms → h ≡ head_rec o n → IsHead o ms h
        go [] e is = absurd (none_some _ (sym e))
        go {o} {n} (x ∷ ms) e is =
            record {
              member = x;
              others = ms;
              members = refl;
              is = is
                  ∙ ap (head_rec o) (same_Some n x e);
            }

    chained_key : (link : Link) (r : Rec) → IsChained link r → r.key ≡ key_value r ∷ []
    chained_key link r (o, h) = key_in_chain o (members_of link o) r h

    -- a record has not the key of a member without an owner
    free_key : (link : Link) (m : Value) → fin.get link m ≡ None → (r : Rec)
        → In r (chain_rows link)
        → r.key ≢ m ∷ []
    free_key link m free r h e =
        let q = in_chains link r h in
        none_some q.0 (sym free ∙ ap (λ ks. fin.get link (get_or ks 0 no_value)) (sym e)
        ∙ owned_in_chain link q.0 r q.1)

    module _ (link : Link) (o m : Value)
        (is_link : IsLink (owner_kind rule heads) (member_kind rule nexts) link)
        (is_more : IsLink (owner_kind rule heads) (member_kind rule nexts) (fin.insert link m o))
        (free : fin.get link m ≡ None) where
      -- ---- behind another one

      module _ (us : List Value) (p : Value) (ys : List Value)
          (members : members_of link o ≡ us ++ p ∷ ys)
          (now : members_of (fin.insert link m o) o ≡ us ++ p ∷ m ∷ ys) (other : p ≢ m) where
        other_key : p ∷ [] ≢ m ∷ []
        other_key e = other (ap (λ ks. get_or ks 0 no_value) e)

        not_p : (r : Rec) → r.key ≢ p ∷ [] → IsChained link r → key_value r ≢ p
        not_p r ne h e = ne (chained_key link r h ∙ ap (λ z. z ∷ []) e)

        to_new : (r : Rec) → (r ≡ chain_rec o m (first ys)) ⊎ (r ≡ chain_rec o p (Some m))
            ⊎ (IsChained link r × (key_value r ≢ p)) → In r (chain_rows (fin.insert link m o))
        to_new r h = chain_in (fin.insert link m o) r
            (behind_chain link o m free us p ys members now r h)

        from_new : (r : Rec) → In r (chain_rows (fin.insert link m o))
            → (r ≡ chain_rec o m (first ys)) ⊎ (r ≡ chain_rec o p (Some m))
            ⊎ (IsChained link r × (key_value r ≢ p))
        from_new r h = chain_behind link o m free us p ys members now r
            (in_chains (fin.insert link m o) r h)

        old_there : In (chain_rec o p (first ys)) (chain_rows link)
        old_there = chain_in link (chain_rec o p (first ys))
            (there_behind link o m free us p ys members now)

        pub first_stays : (x : Value)
            → first (members_of (fin.insert link m o) x) ≡ first (members_of link x)
        first_stays x = heads_behind link o m free us p ys members now x

        -- it comes: p's record changes, and then its own is added
        abbrev pub half : List Rec
        half = changed (chain_rows link) (Some (chain_rec o p (first ys)))
            (Some (chain_rec o p (Some m)))

        pub half_change : IsChange (chain_rows link) (Some (chain_rec o p (first ys)))
            (Some (chain_rec o p (Some m)))
        half_change = (old_there, tells_key o p (first ys))

        pub half_set : IsSet (tree_form rule nexts) half
        half_set = changed_set (tree_form rule nexts) (chain_rows link) (chain_rec o p (first ys))
            (chain_rec o p (Some m)) (chain_set link is_link)
            ((chain_set (fin.insert link m o) is_more).fits (chain_rec o p (Some m))
            (to_new (chain_rec o p (Some m)) (inr (inl refl)))) (tells_key o p (first ys))

        pub half_free : IsChange half None (Some (chain_rec o m (first ys)))
        half_free r h e = elim (from_changed (chain_rows link) (chain_rec o p (first ys))
            (chain_rec o p (Some m)) r h) [
              | inl a ↦ other_key (ap (λ (q : Rec). q.key) (sym a) ∙ e ∙ tells_key o m (first ys))
              | inr b ↦ free_key link m free r b.0 (e ∙ tells_key o m (first ys))
            ]

        pub half_to : (r : Rec) → In r (changed half None (Some (chain_rec o m (first ys))))
            → In r (chain_rows (fin.insert link m o))
        half_to r (inl e) = to_new r (inl e)
        half_to r (inr h) = elim (from_changed (chain_rows link) (chain_rec o p (first ys))
            (chain_rec o p (Some m)) r h) [
              | inl e ↦ to_new r (inr (inl e))
              | inr b ↦ (let c = in_chains link r b.0 in
                  to_new r
                  (inr (inr (c, not_p r (λ e. b.1 (e ∙ sym (tells_key o p (first ys)))) c))))
            ]

        pub half_from : (r : Rec) → In r (chain_rows (fin.insert link m o))
            → In r (changed half None (Some (chain_rec o m (first ys))))
        half_from r h = elim (from_new r h) [
          | inl e ↦ inl e
          | inr q ↦ inr (elim q [
            | inl e ↦ inl e
            | inr b ↦ inr (to_without (chain_rows link) (chain_rec o p (first ys)) r
                (chain_in link r b.0) (λ e. b.1
                (ap (λ ks. get_or ks 0 no_value) (e ∙ tells_key o p (first ys)))))
          ])
        ]

        -- it goes: its own record goes, and then p's changes back
        abbrev pub less : List Rec
        less = changed (chain_rows (fin.insert link m o)) (Some (chain_rec o m (first ys))) None

        pub less_change : IsChange (chain_rows (fin.insert link m o))
            (Some (chain_rec o m (first ys))) None
        less_change = to_new (chain_rec o m (first ys)) (inl refl)

        pub less_set : IsSet (tree_form rule nexts) less
        less_set = without_set (tree_form rule nexts) (chain_rows (fin.insert link m o))
            (chain_rec o m (first ys)) (chain_set (fin.insert link m o) is_more)

        pub back_change : IsChange less (Some (chain_rec o p (Some m)))
            (Some (chain_rec o p (first ys)))
        back_change = (
          to_without (chain_rows (fin.insert link m o)) (chain_rec o m (first ys))
              (chain_rec o p (Some m)) (to_new (chain_rec o p (Some m)) (inr (inl refl)))
              (λ e. other_key (e ∙ tells_key o m (first ys))),
          sym (tells_key o p (first ys)),
        )

        pub back_to : (r : Rec)
            → In r (changed less (Some (chain_rec o p (Some m))) (Some (chain_rec o p (first ys))))
            → In r (chain_rows link)
        back_to r h = go (from_changed less (chain_rec o p (Some m)) (chain_rec o p (first ys)) r h)
          where
            old : In r less → r.key ≢ p ∷ [] → In r (chain_rows link)
            old k ne = (let f = from_without (chain_rows (fin.insert link m o))
                (chain_rec o m (first ys)) r k in elim (from_new r f.0) [
                  | inl e ↦ absurd (f.1 (ap (λ (q : Rec). q.key) e))
                  | inr q ↦ elim q [
                    | inl e ↦ absurd (ne (ap (λ (q : Rec). q.key) e))
                    | inr b ↦ chain_in link r b.0
                  ]
                ])

            go : (r ≡ chain_rec o p (first ys)) ⊎ (In r less × (r.key ≢ p ∷ []))
                → In r (chain_rows link)
            go (inl e) = subst (λ q. In q (chain_rows link)) (sym e) old_there
            go (inr b) = old b.0 b.1

        pub back_from : (r : Rec) → In r (chain_rows link)
            → In r (changed less (Some (chain_rec o p (Some m))) (Some (chain_rec o p (first ys))))
        back_from r h = elim (key_cases r p (chained_key link r (in_chains link r h))) [
          | inl e ↦ inl ((chain_set link is_link).one r (chain_rec o p (first ys)) h old_there
              (e ∙ sym (tells_key o p (first ys))))
          | inr ne ↦ inr (to_without less (chain_rec o p (Some m)) r
              (to_without (chain_rows (fin.insert link m o)) (chain_rec o m (first ys)) r
              (to_new r (inr (inr (in_chains link r h, not_p r ne (in_chains link r h)))))
              (λ e. free_key link m free r h (e ∙ tells_key o m (first ys))))
              ne)
        ]

      -- ---- before all others

      module _ (ys : List Value) (members : members_of link o ≡ ys)
          (now : members_of (fin.insert link m o) o ≡ m ∷ ys) where
        lead_to : (r : Rec) → (r ≡ chain_rec o m (first ys)) ⊎ IsChained link r
            → In r (chain_rows (fin.insert link m o))
        lead_to r h = chain_in (fin.insert link m o) r
            (front_chain link o m free ys members now r h)

        lead_from : (r : Rec) → In r (chain_rows (fin.insert link m o))
            → (r ≡ chain_rec o m (first ys)) ⊎ IsChained link r
        lead_from r h = chain_front link o m free ys members now r
            (in_chains (fin.insert link m o) r h)

        new_head : In (head_rec o m) (head_rows (fin.insert link m o))
        new_head = head_in (fin.insert link m o) o (head_rec o m)
            (record { member = m; others = ys; members = now; is = refl })

        apart : (q : Value) (h : Rec) (ms : List Value) → IsHead q ms h → h.key ≢ o ∷ [] → q ≢ o
        apart q h ms is ne e = ne (head_key q ms h is ∙ ap (λ z. z ∷ []) e)

        -- the head of another owner
        other_to : (h : Rec) → In h (head_rows link) → h.key ≢ o ∷ []
            → In h (head_rows (fin.insert link m o))
        other_to h k ne =
            let q = in_heads link h k in
            head_in (fin.insert link m o) q.0 h
            (subst (λ ms. IsHead q.0 ms h)
            (sym (others_stay link o m free q.0 (apart q.0 h (members_of link q.0) q.1 ne)))
            q.1)

        other_from : (h : Rec) → In h (head_rows (fin.insert link m o)) → h.key ≢ o ∷ []
            → In h (head_rows link)
        other_from h k ne =
            let q = in_heads (fin.insert link m o) h k in
            head_in link q.0 h (subst (λ ms. IsHead q.0 ms h)
            (others_stay link o m free q.0
            (apart q.0 h (members_of (fin.insert link m o) q.0) q.1 ne)) q.1)

        head_at : (other : Link) (h : Rec) → In h (head_rows other)
            → (h.key ≡ o ∷ []) ⊎ (h.key ≢ o ∷ [])
        head_at other h k =
            let q = in_heads other h k in
            elim (value_cases q.0 o) [
              | inl e ↦ inl (head_key q.0 (members_of other q.0) h q.1 ∙ ap (λ z. z ∷ []) e)
              | inr ne ↦ inr (λ e. ne
                  (ap (λ ks. get_or ks 0 no_value) (sym (head_key q.0 (members_of other q.0) h q.1)
                  ∙ e)))
            ]

        head_cases : (h : Rec) → In h (head_rows (fin.insert link m o))
            → (h ≡ head_rec o m) ⊎ (In h (head_rows link) × (h.key ≢ o ∷ []))
        head_cases h k = elim (head_at (fin.insert link m o) h k) [
          | inl e ↦ inl ((head_set (fin.insert link m o) is_more).one h (head_rec o m) k new_head e)
          | inr ne ↦ inr (other_from h k ne, ne)
        ]

        old_head : (n : Value) → first ys ≡ Some n → In (head_rec o n) (head_rows link)
        old_head n e = head_in link o (head_rec o n)
            (subst (λ ms. IsHead o ms (head_rec o n)) (sym members) (go ys e))
          where
            go : (zs : List Value) → first zs ≡ Some n → IsHead o zs (head_rec o n)
            go [] f = absurd (none_some n f)
            go (z ∷ zs) f = record {
              member = z;
              others = zs;
              members = refl;
              is = ap (head_rec o) (sym (same_Some z n f));
            }

        none_before : first ys ≡ None → (h : Rec) → In h (head_rows link) → h.key ≢ o ∷ []
        none_before e h k is =
            let q = in_heads link h k in
            let one : q.0 ≡ o = ap (λ ks. get_or ks 0 no_value)
            (sym (head_key q.0 (members_of link q.0) h q.1) ∙ is) in
            none_some q.1.member (sym e
            ∙ ap first (sym members ∙ ap (members_of link) (sym one) ∙ q.1.members))

        -- it comes
        pub lead_changes : (next : Option Value) → next ≡ first ys
            → IsChange (head_rows link) (head_if o next) (Some (head_rec o m))
        lead_changes None e = λ h k. none_before (sym e) h k
        lead_changes (Some n) e = (old_head n (sym e), refl)

        pub lead_head_to : (next : Option Value) → next ≡ first ys → (h : Rec)
            → In h (changed (head_rows link) (head_if o next) (Some (head_rec o m)))
            → In h (head_rows (fin.insert link m o))
        lead_head_to None e h (inl is) =
            subst (λ q. In q (head_rows (fin.insert link m o))) (sym is) new_head
        lead_head_to None e h (inr k) = other_to h k (none_before (sym e) h k)
        lead_head_to (Some n) e h (inl is) =
            subst (λ q. In q (head_rows (fin.insert link m o))) (sym is) new_head
        lead_head_to (Some n) e h (inr k) =
            (let f = from_without (head_rows link) (head_rec o n) h k in other_to h f.0 f.1)

        pub lead_head_from : (next : Option Value) → next ≡ first ys → (h : Rec)
            → In h (head_rows (fin.insert link m o))
            → In h (changed (head_rows link) (head_if o next) (Some (head_rec o m)))
        lead_head_from None e h k = elim (head_cases h k) [ inl is ↦ inl is | inr q ↦ inr q.0 ]
        lead_head_from (Some n) e h k =
            elim (head_cases h k) [
              | inl is ↦ inl is
              | inr q ↦ inr (to_without (head_rows link) (head_rec o n) h q.0 q.1)
            ]

        pub lead_chain_change : IsChange (chain_rows link) None (Some (chain_rec o m (first ys)))
        lead_chain_change r h e = free_key link m free r h (e ∙ tells_key o m (first ys))

        pub lead_chain_to : (r : Rec)
            → In r (changed (chain_rows link) None (Some (chain_rec o m (first ys))))
            → In r (chain_rows (fin.insert link m o))
        lead_chain_to r (inl e) = lead_to r (inl e)
        lead_chain_to r (inr h) = lead_to r (inr (in_chains link r h))

        pub lead_chain_from : (r : Rec) → In r (chain_rows (fin.insert link m o))
            → In r (changed (chain_rows link) None (Some (chain_rec o m (first ys))))
        lead_chain_from r h = elim (lead_from r h)
            [ inl e ↦ inl e | inr q ↦ inr (chain_in link r q) ]

        -- it goes
        pub unlead_changes : (next : Option Value)
            → IsChange (head_rows (fin.insert link m o)) (Some (head_rec o m)) (head_if o next)
        unlead_changes None = new_head
        unlead_changes (Some n) = (new_head, refl)

        pub unlead_head_to : (next : Option Value) → next ≡ first ys → (h : Rec)
            → In h (changed (head_rows (fin.insert link m o)) (Some (head_rec o m))
            (head_if o next))
            → In h (head_rows link)
        unlead_head_to None e h k =
            (let f = from_without (head_rows (fin.insert link m o)) (head_rec o m) h k in
            other_from h f.0 f.1)
        unlead_head_to (Some n) e h (inl is) =
            subst (λ q. In q (head_rows link)) (sym is) (old_head n (sym e))
        unlead_head_to (Some n) e h (inr k) =
            (let f = from_without (head_rows (fin.insert link m o)) (head_rec o m) h k in
            other_from h f.0 f.1)

        pub unlead_head_from : (next : Option Value) → next ≡ first ys → (h : Rec)
            → In h (head_rows link)
            → In h (changed (head_rows (fin.insert link m o)) (Some (head_rec o m))
            (head_if o next))
        unlead_head_from None e h k =
            (let ne = none_before (sym e) h k in
            to_without (head_rows (fin.insert link m o)) (head_rec o m) h (other_to h k ne) ne)
        unlead_head_from (Some n) e h k = elim (head_at link h k) [
          | inl is ↦ inl ((head_set link is_link).one h (head_rec o n) k (old_head n (sym e)) is)
          | inr ne ↦ inr (to_without (head_rows (fin.insert link m o)) (head_rec o m) h
              (other_to h k ne) ne)
        ]

        pub unlead_chain_change : IsChange (chain_rows (fin.insert link m o))
            (Some (chain_rec o m (first ys))) None
        unlead_chain_change = lead_to (chain_rec o m (first ys)) (inl refl)

        pub unlead_chain_to : (r : Rec)
            → In r (changed (chain_rows (fin.insert link m o)) (Some (chain_rec o m (first ys)))
            None)
            → In r (chain_rows link)
        unlead_chain_to r h = (let f =
            from_without (chain_rows (fin.insert link m o)) (chain_rec o m (first ys)) r h in
            elim (lead_from r f.0) [
              | inl e ↦ absurd (f.1 (ap (λ (q : Rec). q.key) e))
              | inr q ↦ chain_in link r q
            ])

        pub unlead_chain_from : (r : Rec) → In r (chain_rows link)
            → In r (changed (chain_rows (fin.insert link m o)) (Some (chain_rec o m (first ys)))
            None)
        unlead_chain_from r h =
            to_without (chain_rows (fin.insert link m o)) (chain_rec o m (first ys)) r
            (lead_to r (inr (in_chains link r h)))
            (λ e. free_key link m free r h (e ∙ tells_key o m (first ys)))
