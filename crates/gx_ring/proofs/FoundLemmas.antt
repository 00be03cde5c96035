-- The owner of a member and the members of an owner, as the nodes' records tell them.
use Rattle.std.proofs.Common.{◌≡◌, ◌≤◌, ◌<◌, ◌+◌, ◌*◌, ℕ, suc, List, [], ◌∷◌, ◌++◌, length, Option, Some, None, inl, inr, refl, sym, ap, subst, ◌∙◌, get_or, length-append, arith}
use Rattle.std.proofs.Math.Nat.{suc-mul, mul-le-mul_left}
use Rattle.std.specs.List.{sum_by}
use Rattle.std.proofs.lemmas.List.Sums.{sum_by-cons}
use Rattle.std.specs.FinMap as fin
use Rattle.gx_values.specs.declared.values.Kind.{Kind}
use Rattle.gx_values.specs.declared.values.Kind.TheVariants as kind
use Rattle.gx_values.specs.declared.values.Value.{Value}
use Rattle.gx_values.specs.declared.records.Rec.{Rec}
use Rattle.gx_values.specs.Values.{Fits, no_value}
use Rattle.gx_ports.specs.LeafMaps.{LeafMap}
use Rattle.gx_mapping.specs.Rule.{Rule, In, IsOf}
use Rattle.gx_gather.proofs.Lists.{in_left, in_right}
use Rattle.gx_stack.specs.Tree.{Tree, leaves_of, tree_form, entries_of, entry_total}
use Rattle.gx_stack.specs.Internal.{HasSet}
use Rattle.gx_links.specs.Kinds.{AreOfKinds}
use Rattle.gx_links.specs.Links.{Link, members_of, IsLink}
use Rattle.gx_links.specs.Linksets.{HasLink, AreMembers, IsOwner}
use Rattle.gx_links.specs.Rows.{IsHeldLink, owner_entries, two_nodes, owner_kind, member_kind}
use Rattle.gx_links.proofs.KindLemmas.{fit_kinds}
use Rattle.gx_links.proofs.MemberLemmas.{in_members}
use Rattle.gx_ring.specs.Ring.{head_rec, chain, ring_rows, next_kind, IsRing, ring_rule}
use Rattle.gx_ring.specs.RingLaws.{owner_in_chain, owned_in_chain, chain_of}
use Rattle.gx_ring.specs.Reads.{IsFoundAt, IsRecordAt}
use Rattle.gx_ring.specs.Walks.{HasChain, AreWalked}
use Rattle.gx_ring.proofs.ChangeLemmas.{head_rows, chain_rows, head_set, chain_set, head_in, chain_in, in_heads, in_chains, head_key}
use Rattle.gx_ring.proofs.HeldLemmas.{entries_length, chain_within}

one_item : (k : Kind) (vs : List Value) → AreOfKinds (k ∷ []) vs
    → (0 < length vs) × Fits k (get_or vs 0 no_value)
one_item k [] fit = absurd fit
one_item k (x ∷ vs) fit = (omega arith, fit.0)

third_item : (a b k : Kind) (vs : List Value) → AreOfKinds (a ∷ b ∷ k ∷ []) vs
    → (2 < length vs) × Fits k (get_or vs 2 no_value)
third_item a b k [] fit = absurd fit
third_item a b k (x ∷ []) fit = absurd fit.1
third_item a b k (x ∷ y ∷ []) fit = (let rest = fit.1 in absurd rest.1)
third_item a b k (x ∷ y ∷ z ∷ vs) fit =
    (omega arith, let rest = fit.1 in let last = rest.1 in last.0)

one_of_sum : (weight : Rec → ℕ) (r : Rec) (rs : List Rec) → In r rs → weight r ≤ sum_by weight rs
one_of_sum weight r [] h = absurd h
one_of_sum weight r (s ∷ rs) (inl e) =
    (let same : weight r ≡ weight s = ap weight e in omega (arith, same, sum_by-cons weight s rs))
one_of_sum weight r (s ∷ rs) (inr h) =
    (let more = one_of_sum weight r rs h in omega (arith, more, sum_by-cons weight s rs))

module _ {M : Type 0} (rule : M → Rule) (heads nexts : Tree M) (valid : IsRing rule heads nexts)
  where
    abbrev Held : Link → List LeafMap → Type 0
    Held = IsHeldLink rule (two_nodes heads nexts) ring_rows

    abbrev Sound : Link → Type 0
    Sound link = IsLink (owner_kind rule heads) (member_kind rule nexts) link

    -- ---- the fields of a record

    pub head_field : (r : Rec) → IsOf (tree_form rule heads) r
        → (0 < length r.fields) × Fits (member_kind rule nexts) (get_or r.fields 0 no_value)
    head_field r is = one_item (member_kind rule nexts) r.fields
        (fit_kinds (tree_form rule heads).fields (member_kind rule nexts ∷ []) r.fields
        valid.head_fields is.fields)

    pub owner_field : (r : Rec) → IsOf (tree_form rule nexts) r
        → (2 < length r.fields) × Fits (owner_kind rule heads) (get_or r.fields 2 no_value)
    owner_field r is = third_item kind.Int
        (next_kind (owner_kind rule heads) (member_kind rule nexts)) (owner_kind rule heads)
        r.fields
        (fit_kinds (tree_form rule nexts).fields
        (kind.Int ∷ next_kind (owner_kind rule heads) (member_kind rule nexts) ∷ owner_kind
        rule heads ∷ []) r.fields valid.chain_fields is.fields)

    -- ---- the leaves

    pub heads_below : (n : ℕ) → In n (leaves_of heads) → In n (ring_rule rule heads nexts).leaves
    heads_below n h = in_left n (leaves_of heads) (leaves_of nexts ++ []) h

    pub nexts_below : (n : ℕ) → In n (leaves_of nexts) → In n (ring_rule rule heads nexts).leaves
    nexts_below n h = in_right n (leaves_of heads) (leaves_of nexts ++ [])
        (in_left n (leaves_of nexts) [] h)

    leaf_count : length (ring_rule rule heads nexts).leaves ≡ length (leaves_of heads) + length
        (leaves_of nexts)
    leaf_count = length-append (leaves_of heads) (leaves_of nexts ++ [])
        ∙ ap (λ n. length (leaves_of heads) + n)
        (let e : length (leaves_of nexts ++ []) ≡ length (leaves_of nexts) =
        omega (arith, length-append (leaves_of nexts) []) in e)

    pub heads_held : (maps : List LeafMap)
        → HasLink (ring_rule rule heads nexts) (IsHeldLink rule (two_nodes heads nexts) ring_rows)
        maps → HasSet rule heads maps
    heads_held maps has = (
      head_rows rule heads nexts valid has.0,
      head_set rule heads nexts valid has.0 has.1,
      has.2.0,
    )

    pub nexts_held : (maps : List LeafMap)
        → HasLink (ring_rule rule heads nexts) (IsHeldLink rule (two_nodes heads nexts) ring_rows)
        maps → HasSet rule nexts maps
    nexts_held maps has = (let held = has.2 in (
      chain_rows rule heads nexts valid has.0,
      chain_set rule heads nexts valid has.0 has.1,
      held.1.0,
    ))

    -- ---- the owner of a member

    pub owner_none : (whole : Type 0) (maps : List LeafMap) (member : Value) (before steps : ℕ)
        → IsRecordAt rule nexts whole maps member before steps None
        → IsOwner (ring_rule rule heads nexts) (IsHeldLink rule (two_nodes heads nexts) ring_rows)
        whole maps member before steps None
    owner_none whole maps member before steps at = record {
      fit = tt;
      that = λ w link is held. go link (fin.get link member) refl
          (at.that w (chain_rows rule heads nexts valid link)
          (chain_set rule heads nexts valid link is) held.1.0);
      few_steps = λ finds w link is held. omega (
        arith,
        at.few_steps w (
          chain_rows rule heads nexts valid link,
          chain_set rule heads nexts valid link is,
          held.1.0,
        ),
        leaf_count,
      );
    }
      where
        go : (link : Link) (o : Option Value) → fin.get link member ≡ o
            → IsFoundAt (chain_rows rule heads nexts valid link) member None
            → ◌≡◌ {A = Option Value} None (fin.get link member)
        go link None e none = sym e
        go link (Some o) e none =
            let r = chain_of o member (members_of link o) (in_members link o member e) in
            absurd (none r.0 (chain_in rule heads nexts valid link r.0 (o, r.1)) r.2)

    pub owner_some : (whole : Type 0) (maps : List LeafMap) (member : Value) (before steps : ℕ)
        (r : Rec) (o : Value) → o ≡ get_or r.fields 2 no_value
        → IsRecordAt rule nexts whole maps member before steps (Some r)
        → IsOwner (ring_rule rule heads nexts)
        (IsHeldLink rule (two_nodes heads nexts) ring_rows) whole maps member before steps
        (Some o)
    owner_some whole maps member before steps r o is_owner at = record {
      fit = subst (Fits (owner_kind rule heads)) (sym is_owner) (owner_field r at.fit).1;
      that = λ w link is held. that link
          (at.that w (chain_rows rule heads nexts valid link)
          (chain_set rule heads nexts valid link is) held.1.0);
      few_steps = λ finds w link is held.
          let few = at.few_steps w (
            chain_rows rule heads nexts valid link,
            chain_set rule heads nexts valid link is,
            held.1.0,
          ) in
          let more = weight link (at.that w (chain_rows rule heads nexts valid link)
          (chain_set rule heads nexts valid link is) held.1.0) in
          omega (arith, few, more, leaf_count);
    }
      where
        that : (link : Link) → IsFoundAt (chain_rows rule heads nexts valid link) member (Some r)
            → Some o ≡ fin.get link member
        that link (h, key) =
            let q = in_chains rule heads nexts valid link r h in
            ap Some (is_owner ∙ owner_in_chain q.0 (members_of link q.0) r q.1)
            ∙ sym (owned_in_chain link q.0 r q.1)
            ∙ ap (λ ks. fin.get link (get_or ks 0 no_value)) key

        weight : (link : Link) → IsFoundAt (chain_rows rule heads nexts valid link) member (Some r)
            → length (entries_of rule nexts r) ≤ length
            (owner_entries rule (two_nodes heads nexts) ring_rows o (members_of link o))
        weight link (h, key) =
            let q = in_chains rule heads nexts valid link r h in
            let same : q.0 ≡ o = sym (owner_in_chain q.0 (members_of link q.0) r q.1) ∙ sym is_owner
            in
            let there = subst (λ x. In r (chain x (members_of link x))) same q.1 in
            let one = one_of_sum (λ s. length (entries_of rule nexts s)) r
            (chain o (members_of link o)) there in
            omega (arith, one, chain_within rule heads nexts o (members_of link o))

    -- ---- the members of an owner

    pub members_none : (whole : Type 0) (maps : List LeafMap) (owner : Value) (before steps : ℕ)
        (out : List Value) → IsRecordAt rule heads whole maps owner before steps None
        → AreMembers (ring_rule rule heads nexts)
        (IsHeldLink rule (two_nodes heads nexts) ring_rows) whole maps owner before steps out
        out
    members_none whole maps owner before steps out at = record {
      found = [];
      appended = none_behind out;
      fit = λ m h. absurd h;
      those = λ w link is held. go link (members_of link owner) refl
          (at.that w (head_rows rule heads nexts valid link)
          (head_set rule heads nexts valid link is)
          held.0);
      few_steps = λ w link is held.
          let few = at.few_steps w
          (head_rows rule heads nexts valid link, head_set rule heads nexts valid link is, held.0)
          in
          let that = at.that w (head_rows rule heads nexts valid link)
          (head_set rule heads nexts valid link is) held.0 in
          let none = go link (members_of link owner) refl that in
          let ring = ring_rule rule heads nexts in
          let total = length (ring.entries owner (members_of link owner)) in
          let most = λ (ms : List Value). before + (suc (length ms) * length ring.leaves + total) in
          subst (λ ms. steps ≤ most ms) none (omega (arith, few, leaf_count));
    }
      where
        none_behind : (xs : List Value) → xs ≡ xs ++ []
        none_behind [] = refl
        none_behind (x ∷ xs) = λ i. x ∷ none_behind xs i

        go : (link : Link) (ms : List Value) → members_of link owner ≡ ms
            → IsFoundAt (head_rows rule heads nexts valid link) owner None
            → [] ≡ members_of link owner
        go link [] e none = sym e
        go link (m ∷ ms) e none =
            absurd (none (head_rec owner m)
            (head_in rule heads nexts valid link owner (head_rec owner m)
            (record { member = m; others = ms; members = e; is = refl })) refl)

    -- the first member of an owner
    chain_at : (link : Link) (maps : List LeafMap) (owner : Value) (r : Rec) (m : Value)
        → Sound link
        → Held link maps → m ≡ get_or r.fields 0 no_value
        → IsFoundAt (head_rows rule heads nexts valid link) owner (Some r)
        → (has : HasChain rule heads nexts maps m) × (has.link ≡ link) × (has.owner ≡ owner)
        × (r ≡ head_rec owner m)
    chain_at link maps owner r m is held first_is (h, key) =
        let q = in_heads rule heads nexts valid link r h in
        let same : q.0 ≡ owner =
        ap (λ ks. get_or ks 0 no_value) (sym (head_key q.0 (members_of link q.0) r q.1) ∙ key) in
        let member : q.1.member ≡ m = ap (λ (x : Rec). get_or x.fields 0 no_value) (sym q.1.is)
        ∙ sym first_is in (
          record {
            link = link;
            is_link = is;
            held = held;
            owner = owner;
            rest = q.1.others;
            members = ap (members_of link) (sym same) ∙ q.1.members
                ∙ ap (λ x. x ∷ q.1.others) member;
          },
          refl,
          refl,
          q.1.is ∙ (λ i. head_rec (same i) (member i)),
        )

    steps_sum : (c a b before half steps eh ec total : ℕ) → half ≤ before + (a + eh)
        → steps ≤ half + (c * b + ec) → eh + ec ≤ total → steps ≤ before + (suc c * (a + b) + total)
    steps_sum c a b before half steps eh ec total one two three =
        let more : c * b ≤ c * (a + b) = mul-le-mul_left c (let le : b ≤ a + b = omega arith in le)
        in
        omega (arith, one, two, three, more, suc-mul c (a + b))

    module _ (whole next_whole : Type 0) (maps next_maps : List LeafMap) (to : whole
        → next_whole) (same : next_maps ≡ maps) (owner : Value) (before half : ℕ) (r : Rec)
        (m : Value) (first_is : m ≡ get_or r.fields 0 no_value)
        (at : IsRecordAt rule heads whole maps owner before half (Some r)) where
      pub chain_of_link : whole
          × HasLink (ring_rule rule heads nexts) (IsHeldLink rule (two_nodes heads nexts) ring_rows)
          maps → next_whole × HasChain rule heads nexts next_maps m
      chain_of_link s = (let has = s.1 in let held = has.2 in (
        to s.0,
        subst (λ ms. HasChain rule heads nexts ms m) (sym same)
            (chain_at has.0 maps owner r m has.1 held first_is
            (at.that s.0 (head_rows rule heads nexts valid has.0)
            (head_set rule heads nexts valid has.0 has.1) held.0)).0,
      ))

      pub members_some : (steps : ℕ) (out now : List Value)
          → AreWalked rule heads nexts next_whole next_maps m half steps out now
          → AreMembers (ring_rule rule heads nexts)
          (IsHeldLink rule (two_nodes heads nexts) ring_rows) whole maps owner before steps
          out now
      members_some steps out now walked =
          go (subst (λ ms. AreWalked rule heads nexts next_whole ms m half steps out now) same
          walked)
        where
          go : AreWalked rule heads nexts next_whole maps m half steps out now
              → AreMembers (ring_rule rule heads nexts)
              (IsHeldLink rule (two_nodes heads nexts) ring_rows) whole maps owner before steps
              out now
          go are = record {
            found = are.found;
            appended = are.appended;
            fit = are.fit;
            those = λ w link is held. those w link is held;
            few_steps = λ w link is held.
                let c = chain_at link maps owner r m is held first_is
                (at.that w (head_rows rule heads nexts valid link)
                (head_set rule heads nexts valid link is) held.0) in
                let one = at.few_steps w (
                  head_rows rule heads nexts valid link,
                  head_set rule heads nexts valid link is,
                  held.0,
                ) in
                let members : members_of link owner ≡ m ∷ c.0.rest =
                (λ i. members_of (sym c.1 i) (sym c.2 i)) ∙ c.0.members in
                let total : length (entries_of rule heads (head_rec owner m))
                + entry_total rule nexts
                (chain owner (m ∷ c.0.rest)) ≡ length
                (owner_entries rule (two_nodes heads nexts) ring_rows owner
                (members_of link owner)) =
                sym (entries_length rule heads nexts owner m c.0.rest)
                ∙ ap (λ ms. length (owner_entries rule (two_nodes heads nexts)
                ring_rows owner ms)) (sym members) in
                let head : length (entries_of rule heads r) ≡ length
                (entries_of rule heads (head_rec owner m)) =
                ap (λ x. length (entries_of rule heads x)) c.3 in
                let two = subst (λ o. steps ≤ half
                + (length are.found * length (leaves_of nexts) + entry_total rule nexts
                (chain o (m ∷ c.0.rest)))) c.2 (are.few_steps (to w) c.0) in
                let all = length (owner_entries rule (two_nodes heads nexts) ring_rows owner
                (members_of link owner)) in
                let most = λ (ms : List Value) (n : ℕ). before + (suc (length ms) * n + all) in
                subst (λ ms. steps ≤ most ms (length (ring_rule rule heads nexts).leaves))
                (those w link is held)
                (subst (λ n. steps ≤ most are.found n) (sym leaf_count)
                (steps_sum (length are.found) (length (leaves_of heads)) (length (leaves_of nexts))
                before half steps (length (entries_of rule heads r))
                (entry_total rule nexts (chain owner (m ∷ c.0.rest)))
                (length (owner_entries rule (two_nodes heads nexts) ring_rows owner
                (members_of link owner))) one two (omega (arith, total, head))));
          }
            where
              those : whole → (link : Link) → Sound link → Held link maps
                  → are.found ≡ members_of link owner
              those w link is held =
                  let that = at.that w (head_rows rule heads nexts valid link)
                  (head_set rule heads nexts valid link is) held.0 in
                  let c = chain_at link maps owner r m is held first_is that in
                  are.those (to w) c.0 ∙ sym c.0.members ∙ (λ i. members_of (c.1 i) (c.2 i))
