-- What the nodes hold once a member came or went.
use Rattle.std.proofs.Common.{◌≡◌, ◌≢◌, ◌≤◌, ◌+◌, ℕ, List, [], ◌∷◌, ◌++◌, length, map, Option, Some, None, inl, refl, sym, ap, subst, ◌∙◌, append_assoc, length-append, arith}
use Rattle.std.specs.List.{flat_map, sum_by}
use Rattle.std.proofs.lemmas.List.Sums.{sum_by-cons}
use Rattle.std.specs.FinMap as fin
use Rattle.std.specs.declared.cmp.Ordering.TheVariants.{Less}
use Rattle.std.proofs.lemmas.Option.{same_Some}
use Rattle.gx_values.specs.declared.values.Value.{Value}
use Rattle.gx_values.specs.declared.records.Rec.{Rec}
use Rattle.gx_values.specs.Values.{value_cmp}
use Rattle.gx_values.proofs.OrderLemmas.{value_cmp_total}
use Rattle.gx_ports.specs.LeafMaps.{LeafMap}
use Rattle.gx_mapping.specs.declared.parts.Part.{Part}
use Rattle.gx_mapping.specs.Rule.{Rule, In}
use Rattle.gx_gather.specs.Gather.{part_for}
use Rattle.gx_gather.proofs.Lists.{in_left, in_right, none_some}
use Rattle.gx_gather.proofs.Orders.{not_before_itself}
use Rattle.gx_stack.specs.Tree.{Tree, leaves_of, entries_of, kid_entries, IsValid}
use Rattle.gx_stack.specs.Internal.{changed, entries_if}
use Rattle.gx_stack.proofs.Same.{internal_of_members, internal_elsewhere}
use Rattle.gx_links.specs.Links.{Link, members_of, IsLink}
use Rattle.gx_links.specs.Rows.{IsHeldLink, owner_entries, two_nodes, owner_kind, member_kind}
use Rattle.gx_ring.specs.Ring.{first, head_rec, chain_rec, head_if, chain, ring_rows, IsRing}
use Rattle.gx_ring.specs.Steps.{leading, lead_change, own_change}
use Rattle.gx_links.specs.Changes.{AreReplaced, reversed}
use Rattle.gx_ring.proofs.PlaceLemmas.{IsPlace, last_none, last_some}
use Rattle.gx_ring.proofs.ChainLemmas.{members_between, chain_rest}
use Rattle.gx_ring.proofs.ChangeLemmas as sets

module _ {M : Type 0} (rule : M → Rule) (heads nexts : Tree M) (valid : IsRing rule heads nexts)
  where
    abbrev Held : Link → List LeafMap → Type 0
    Held link maps = IsHeldLink rule (two_nodes heads nexts) ring_rows link maps

    abbrev Sound : Link → Type 0
    Sound link = IsLink (owner_kind rule heads) (member_kind rule nexts) link

    pub apart : (n : ℕ) → In n (leaves_of heads) → In n (leaves_of nexts) → ⊥
    apart n h k = valid.nodes.2 n h (in_left n (leaves_of nexts) [] k)

    pub heads_valid : IsValid rule heads
    heads_valid = valid.nodes.1

    pub nexts_valid : IsValid rule nexts
    nexts_valid = (let rest = valid.nodes.3 in rest.1)

    module _ (link : Link) (o m : Value) (is_link : Sound link)
        (is_more : Sound (fin.insert link m o)) (free : fin.get link m ≡ None)
        (maps now : List LeafMap) where
      -- ---- behind another one

      module _ (us : List Value) (p : Value) (ys : List Value)
          (members : members_of link o ≡ us ++ p ∷ ys)
          (after : members_of (fin.insert link m o) o ≡ us ++ p ∷ m ∷ ys) (other : p ≢ m) where
        came_behind : Held link maps
            → AreReplaced rule nexts nexts (lead_change o m (Some p) (first ys))
            (own_change o m (first ys)) maps now → Held (fin.insert link m o) now
        came_behind held a =
            let h = internal_elsewhere rule heads (sets.head_rows rule heads nexts valid link) maps
            now heads_valid (λ n i. a.two.others n (λ j. apart n i j)
            ∙ a.one.others n (λ j. apart n i j)) held.0 in
            let one = a.one.internal (sets.chain_rows rule heads nexts valid link)
            (sets.chain_set rule heads nexts valid link is_link)
            (sets.half_change rule heads nexts valid link o m is_link is_more free us p ys
            members after other) held.1.0 in
            let two = a.two.internal
            (sets.half rule heads nexts valid link o m is_link is_more free us p ys members after
            other) (sets.half_set rule heads nexts valid link o m is_link is_more free us p ys
            members after other) (sets.half_free rule heads nexts valid link o m is_link
            is_more free us p ys members after other) one in (
              internal_of_members rule heads (sets.head_rows rule heads nexts valid link)
                  (sets.head_rows rule heads nexts valid (fin.insert link m o)) now heads_valid
                  (sets.heads_same rule heads nexts valid link (fin.insert link m o)
                  (λ x. sym (sets.first_stays rule heads nexts valid link o m is_link is_more free
                  us p ys members after other x)))
                  (sets.heads_same rule heads nexts valid (fin.insert link m o) link
                  (sets.first_stays rule heads nexts valid link o m is_link is_more free us p ys
                  members after other)) h,
              (
                internal_of_members rule nexts
                    (changed (sets.half rule heads nexts valid link o m is_link is_more free us p ys
                    members after other) None (Some (chain_rec o m (first ys))))
                    (sets.chain_rows rule heads nexts valid (fin.insert link m o)) now
                    nexts_valid
                    (sets.half_to rule heads nexts valid link o m is_link is_more free us p ys
                    members
                    after other) (sets.half_from rule heads nexts valid link o m is_link is_more
                    free us p ys members after other) two,
                tt,
              ),
            )

        went_behind : Held (fin.insert link m o) maps
            → AreReplaced rule nexts nexts (reversed (own_change o m (first ys)))
            (reversed (lead_change o m (Some p) (first ys))) maps now → Held link now
        went_behind held a =
            let h = internal_elsewhere rule heads
            (sets.head_rows rule heads nexts valid (fin.insert link m o)) maps now heads_valid
            (λ n i. a.two.others n (λ j. apart n i j) ∙ a.one.others n (λ j. apart n i j))
            held.0 in
            let one = a.one.internal (sets.chain_rows rule heads nexts valid (fin.insert link m o))
            (sets.chain_set rule heads nexts valid (fin.insert link m o) is_more)
            (sets.less_change rule heads nexts valid link o m is_link is_more free us p ys
            members after other) held.1.0 in
            let two = a.two.internal
            (sets.less rule heads nexts valid link o m is_link is_more free us p ys members after
            other) (sets.less_set rule heads nexts valid link o m is_link is_more free us p ys
            members after other) (sets.back_change rule heads nexts valid link o m is_link
            is_more free us p ys members after other) one in (
              internal_of_members rule heads
                  (sets.head_rows rule heads nexts valid (fin.insert link m o))
                  (sets.head_rows rule heads nexts valid link) now heads_valid
                  (sets.heads_same rule heads nexts valid (fin.insert link m o) link
                  (sets.first_stays rule heads nexts valid link o m is_link is_more free us p ys
                  members after other))
                  (sets.heads_same rule heads nexts valid link (fin.insert link m o)
                  (λ x. sym (sets.first_stays rule heads nexts valid link o m is_link is_more free
                  us p ys members after other x))) h,
              (
                internal_of_members rule nexts
                    (changed (sets.less rule heads nexts valid link o m is_link is_more free us p ys
                    members after other) (Some (chain_rec o p (Some m)))
                    (Some (chain_rec o p (first ys))))
                    (sets.chain_rows rule heads nexts valid link) now nexts_valid
                    (sets.back_to rule heads nexts valid link o m is_link is_more free us p ys
                    members
                    after other) (sets.back_from rule heads nexts valid link o m is_link is_more
                    free us p ys members after other) two,
                tt,
              ),
            )

      -- ---- before all others

      module _ (ys : List Value) (members : members_of link o ≡ ys)
          (after : members_of (fin.insert link m o) o ≡ m ∷ ys) where
        came_first : Held link maps
            → AreReplaced rule heads nexts (lead_change o m None (first ys))
            (own_change o m (first ys)) maps now → Held (fin.insert link m o) now
        came_first held a =
            let one = a.one.internal (sets.head_rows rule heads nexts valid link)
            (sets.head_set rule heads nexts valid link is_link)
            (sets.lead_changes rule heads nexts valid link o m is_link is_more free ys members
            after (first ys) refl) held.0 in
            let h = internal_elsewhere rule heads
            (changed (sets.head_rows rule heads nexts valid link) (head_if o (first ys))
            (Some (head_rec o m))) a.half now heads_valid
            (λ n i. a.two.others n (λ j. apart n i j)) one in
            let c = internal_elsewhere rule nexts (sets.chain_rows rule heads nexts valid link) maps
            a.half nexts_valid (λ n i. a.one.others n (λ j. apart n j i)) held.1.0 in
            let two = a.two.internal (sets.chain_rows rule heads nexts valid link)
            (sets.chain_set rule heads nexts valid link is_link)
            (sets.lead_chain_change rule heads nexts valid link o m is_link is_more free ys
            members after) c in (
              internal_of_members rule heads
                  (changed (sets.head_rows rule heads nexts valid link) (head_if o (first ys))
                  (Some (head_rec o m))) (sets.head_rows rule heads nexts valid
                  (fin.insert link m o)) now heads_valid
                  (sets.lead_head_to rule heads nexts valid link o m is_link is_more free ys members
                  after (first ys) refl) (sets.lead_head_from rule heads nexts valid link o m
                  is_link is_more free ys members after (first ys) refl) h,
              (
                internal_of_members rule nexts
                    (changed (sets.chain_rows rule heads nexts valid link) None
                    (Some (chain_rec o m (first ys))))
                    (sets.chain_rows rule heads nexts valid (fin.insert link m o)) now
                    nexts_valid
                    (sets.lead_chain_to rule heads nexts valid link o m is_link is_more free ys
                    members after) (sets.lead_chain_from rule heads nexts valid link o m is_link
                    is_more free ys members after) two,
                tt,
              ),
            )

        went_first : Held (fin.insert link m o) maps
            → AreReplaced rule nexts heads (reversed (own_change o m (first ys)))
            (reversed (lead_change o m None (first ys))) maps now → Held link now
        went_first held a =
            let one = a.one.internal (sets.chain_rows rule heads nexts valid (fin.insert link m o))
            (sets.chain_set rule heads nexts valid (fin.insert link m o) is_more)
            (sets.unlead_chain_change rule heads nexts valid link o m is_link is_more free ys
            members after) held.1.0 in
            let c = internal_elsewhere rule nexts
            (changed (sets.chain_rows rule heads nexts valid (fin.insert link m o))
            (Some (chain_rec o m (first ys))) None) a.half now nexts_valid
            (λ n i. a.two.others n (λ j. apart n j i)) one in
            let h = internal_elsewhere rule heads
            (sets.head_rows rule heads nexts valid (fin.insert link m o)) maps a.half heads_valid
            (λ n i. a.one.others n (λ j. apart n i j)) held.0 in
            let two = a.two.internal (sets.head_rows rule heads nexts valid (fin.insert link m o))
            (sets.head_set rule heads nexts valid (fin.insert link m o) is_more)
            (sets.unlead_changes rule heads nexts valid link o m is_link is_more free ys
            members after (first ys)) h in (
              internal_of_members rule heads
                  (changed (sets.head_rows rule heads nexts valid (fin.insert link m o))
                  (Some (head_rec o m)) (head_if o (first ys)))
                  (sets.head_rows rule heads nexts valid link) now heads_valid
                  (sets.unlead_head_to rule heads nexts valid link o m is_link is_more free ys
                  members
                  after (first ys) refl) (sets.unlead_head_from rule heads nexts valid link o m
                  is_link is_more free ys members after (first ys) refl) two,
              (
                internal_of_members rule nexts
                    (changed (sets.chain_rows rule heads nexts valid (fin.insert link m o))
                    (Some (chain_rec o m (first ys))) None)
                    (sets.chain_rows rule heads nexts valid link) now nexts_valid
                    (sets.unlead_chain_to rule heads nexts valid link o m is_link is_more free ys
                    members after) (sets.unlead_chain_from rule heads nexts valid link o m is_link
                    is_more free ys members after) c,
                tt,
              ),
            )

      -- ---- wherever it stands

      lower_other : (fs us : List Value) (p : Value) → fs ≡ us ++ p ∷ []
          → ((x : Value) → In x fs → value_cmp x m ≡ Less) → p ≢ m
      lower_other fs us p is lower e =
          not_before_itself value_cmp_total p
          (subst (λ z. value_cmp p z ≡ Less) (sym e)
          (lower p (subst (In p) (sym is) (in_right p us (p ∷ []) (inl refl)))))

      joined : (fs us : List Value) (p : Value) (zs : List Value) → fs ≡ us ++ p ∷ []
          → fs ++ zs ≡ us ++ p ∷ zs
      joined fs us p zs is = ap (λ xs. xs ++ zs) is ∙ append_assoc us (p ∷ []) zs

      pub comes : (before next : Option Value) → IsPlace (members_of link o) m before next
          → Held link maps → AreReplaced rule (leading heads nexts before) nexts
          (lead_change o m before next) (own_change o m next) maps now
          → Held (fin.insert link m o) now
      comes None next at held a =
          let none = last_none at.front (sym at.last_is) in
          came_first at.rest (at.split ∙ ap (λ xs. xs ++ at.rest) none)
          (members_between link o m free at.front at.rest at.split at.lower at.upper
          ∙ ap (λ xs. xs ++ m ∷ at.rest) none) held
          (subst (λ n. AreReplaced rule heads nexts (lead_change o m None n) (own_change o m n) maps
          now) at.first_is a)
      comes (Some p) next at held a =
          let u = last_some at.front p (sym at.last_is) in
          came_behind u.0 p at.rest (at.split ∙ joined at.front u.0 p at.rest u.1)
          (members_between link o m free at.front at.rest at.split at.lower at.upper
          ∙ joined at.front u.0 p (m ∷ at.rest) u.1) (lower_other at.front u.0 p u.1 at.lower)
          held
          (subst (λ n. AreReplaced rule nexts nexts (lead_change o m (Some p) n)
          (own_change o m n) maps now) at.first_is a)

      pub goes : (before next : Option Value) → IsPlace (members_of link o) m before next
          → Held (fin.insert link m o) maps
          → AreReplaced rule nexts (leading heads nexts before) (reversed (own_change o m next))
          (reversed (lead_change o m before next)) maps now → Held link now
      goes None next at held a =
          let none = last_none at.front (sym at.last_is) in
          went_first at.rest (at.split ∙ ap (λ xs. xs ++ at.rest) none)
          (members_between link o m free at.front at.rest at.split at.lower at.upper
          ∙ ap (λ xs. xs ++ m ∷ at.rest) none) held
          (subst (λ n. AreReplaced rule nexts heads (reversed (own_change o m n))
          (reversed (lead_change o m None n)) maps now) at.first_is a)
      goes (Some p) next at held a =
          let u = last_some at.front p (sym at.last_is) in
          went_behind u.0 p at.rest (at.split ∙ joined at.front u.0 p at.rest u.1)
          (members_between link o m free at.front at.rest at.split at.lower at.upper
          ∙ joined at.front u.0 p (m ∷ at.rest) u.1) (lower_other at.front u.0 p u.1 at.lower)
          held
          (subst (λ n. AreReplaced rule nexts nexts (reversed (own_change o m n))
          (reversed (lead_change o m (Some p) n)) maps now) at.first_is a)

-- ---- how many entries

module _ {M : Type 0} (rule : M → Rule) (heads nexts : Tree M) where
  chain_length : (rs : List Rec)
      → length (flat_map (λ (p : Part). kid_entries rule (two_nodes heads nexts) p.child p.rec)
      (map (part_for 1) rs)) ≡ sum_by (λ r. length (entries_of rule nexts r)) rs
  chain_length [] = refl
  chain_length (r ∷ rs) =
      let all : length (flat_map
      (λ (p : Part). kid_entries rule (two_nodes heads nexts) p.child p.rec)
      (map (part_for 1) (r ∷ rs))) ≡ length (entries_of rule nexts r) + length
      (flat_map (λ (p : Part). kid_entries rule (two_nodes heads nexts) p.child p.rec)
      (map (part_for 1) rs)) =
      length-append (entries_of rule nexts r)
      (flat_map (λ (p : Part). kid_entries rule (two_nodes heads nexts)
      p.child p.rec) (map (part_for 1) rs)) in
      omega (arith, all, sum_by-cons (λ q. length (entries_of rule nexts q)) r rs, chain_length rs)

  pub entries_length : (o m : Value) (ms : List Value)
      → length (owner_entries rule (two_nodes heads nexts) ring_rows o (m ∷ ms)) ≡ length
      (entries_of rule heads (head_rec o m)) + sum_by (λ r. length (entries_of rule nexts r))
      (chain o (m ∷ ms))
  entries_length o m ms =
      length-append (entries_of rule heads (head_rec o m))
      (flat_map (λ (p : Part). kid_entries rule (two_nodes heads nexts) p.child p.rec)
      (map (part_for 1) (chain o (m ∷ ms))))
      ∙ ap (λ n. length (entries_of rule heads (head_rec o m)) + n)
      (chain_length (chain o (m ∷ ms)))

  pub chain_within : (o : Value) (ms : List Value)
      → sum_by (λ r. length (entries_of rule nexts r)) (chain o ms) ≤ length
      (owner_entries rule (two_nodes heads nexts) ring_rows o ms)
  chain_within o [] = omega arith
  chain_within o (m ∷ ms) = omega (arith, entries_length o m ms)

  -- of what comes
  pub came_entries : (ms all : List Value) (o m : Value) (before next : Option Value)
      (at : IsPlace ms m before next) → all ≡ at.front ++ m ∷ at.rest
      → length (entries_if rule (leading heads nexts before) (lead_change o m before next).new)
      + length (entries_if rule nexts (own_change o m next).new) ≤ length
      (owner_entries rule (two_nodes heads nexts) ring_rows o all)
  came_entries ms all o m None next at is =
      let none = last_none at.front (sym at.last_is) in
      let all_is : length (owner_entries rule (two_nodes heads nexts) ring_rows o all) ≡ length
      (owner_entries rule (two_nodes heads nexts) ring_rows o (m ∷ at.rest)) =
      ap (λ xs. length (owner_entries rule (two_nodes heads nexts) ring_rows o xs))
      (is ∙ ap (λ xs. xs ++ m ∷ at.rest) none) in
      let own : length (entries_of rule nexts (chain_rec o m next)) ≡ length
      (entries_of rule nexts (chain_rec o m (first at.rest))) =
      ap (λ n. length (entries_of rule nexts (chain_rec o m n))) at.first_is in
      let lead : length (entries_if rule (leading heads nexts None) (lead_change o m None next).new)
      ≡ length (entries_of rule heads (head_rec o m)) = refl in
      let came : length (entries_if rule nexts (own_change o m next).new) ≡ length
      (entries_of rule nexts (chain_rec o m next)) = refl in
      let one : sum_by (λ r. length (entries_of rule nexts r)) (chain o (m ∷ at.rest)) ≡ length
      (entries_of rule nexts (chain_rec o m (first at.rest))) + sum_by
      (λ r. length (entries_of rule nexts r)) (chain o at.rest) =
      sum_by-cons (λ r. length (entries_of rule nexts r))
      (chain_rec o m (first at.rest)) (chain o at.rest) in
      omega (arith, all_is, own, lead, came, one, entries_length o m at.rest)
  came_entries ms all o m (Some p) next at is =
      let u = last_some at.front p (sym at.last_is) in
      let all_is : length (owner_entries rule (two_nodes heads nexts) ring_rows o all) ≡ length
      (owner_entries rule (two_nodes heads nexts) ring_rows o (u.0 ++ p ∷ m ∷ at.rest)) =
      ap (λ xs. length (owner_entries rule (two_nodes heads nexts) ring_rows o xs))
      (is ∙ ap (λ xs. xs ++ m ∷ at.rest) u.1 ∙ append_assoc u.0 (p ∷ []) (m ∷ at.rest))
      in
      let own : length (entries_of rule nexts (chain_rec o m next)) ≡ length
      (entries_of rule nexts (chain_rec o m (first at.rest))) =
      ap (λ n. length (entries_of rule nexts (chain_rec o m n))) at.first_is in
      let rest = chain_rest (λ r. length (entries_of rule nexts r)) o u.0 (p ∷ m ∷ at.rest) in
      let lead : length (entries_if rule (leading heads nexts (Some p))
      (lead_change o m (Some p) next).new) ≡ length
      (entries_of rule nexts (chain_rec o p (Some m))) = refl in
      let came : length (entries_if rule nexts (own_change o m next).new) ≡ length
      (entries_of rule nexts (chain_rec o m next)) = refl in
      let one : sum_by (λ r. length (entries_of rule nexts r)) (chain o (p ∷ m ∷ at.rest)) ≡ length
      (entries_of rule nexts (chain_rec o p (Some m))) + sum_by
      (λ r. length (entries_of rule nexts r)) (chain o (m ∷ at.rest)) =
      sum_by-cons (λ r. length (entries_of rule nexts r)) (chain_rec o p (Some m))
      (chain o (m ∷ at.rest)) in
      let two : sum_by (λ r. length (entries_of rule nexts r)) (chain o (m ∷ at.rest)) ≡ length
      (entries_of rule nexts (chain_rec o m (first at.rest))) + sum_by
      (λ r. length (entries_of rule nexts r)) (chain o at.rest) =
      sum_by-cons (λ r. length (entries_of rule nexts r))
      (chain_rec o m (first at.rest)) (chain o at.rest) in
      omega (
        arith,
        all_is,
        own,
        lead,
        came,
        one,
        two,
        rest,
        chain_within o (u.0 ++ p ∷ m ∷ at.rest),
      )

  -- of what is put back
  pub went_entries : (ms : List Value) (o m : Value) (before next : Option Value)
      → IsPlace ms m before next
      → length (entries_if rule (leading heads nexts before)
      (reversed (lead_change o m before next)).new) ≤ length
      (owner_entries rule (two_nodes heads nexts) ring_rows o ms)
  went_entries ms o m None next at =
      let none = last_none at.front (sym at.last_is) in
      let e : next ≡ first ms = at.first_is
      ∙ ap first (sym (at.split ∙ ap (λ xs. xs ++ at.rest) none)) in
      go ms next e
    where
      go : (zs : List Value) (n : Option Value) → n ≡ first zs
          → length (entries_if rule heads (head_if o n)) ≤ length
          (owner_entries rule (two_nodes heads nexts) ring_rows o zs)
      go zs None e = omega arith
      go [] (Some x) e = absurd (none_some x (sym e))
      go (z ∷ zs) (Some x) e =
          let same : length (entries_of rule heads (head_rec o x)) ≡ length
          (entries_of rule heads (head_rec o z)) =
          ap (λ y. length (entries_of rule heads (head_rec o y))) (same_Some x z e) in
          let this : length (entries_if rule heads (head_if o (Some x))) ≡ length
          (entries_of rule heads (head_rec o x)) = refl in
          omega (arith, same, this, entries_length o z zs)
  went_entries ms o m (Some p) next at =
      let u = last_some at.front p (sym at.last_is) in
      let all_is : length (owner_entries rule (two_nodes heads nexts) ring_rows o ms) ≡ length
      (owner_entries rule (two_nodes heads nexts) ring_rows o (u.0 ++ p ∷ at.rest)) =
      ap (λ xs. length (owner_entries rule (two_nodes heads nexts) ring_rows o xs))
      (at.split ∙ ap (λ xs. xs ++ at.rest) u.1 ∙ append_assoc u.0 (p ∷ []) at.rest) in
      let old : length (entries_of rule nexts (chain_rec o p next)) ≡ length
      (entries_of rule nexts (chain_rec o p (first at.rest))) =
      ap (λ n. length (entries_of rule nexts (chain_rec o p n))) at.first_is in
      let rest = chain_rest (λ r. length (entries_of rule nexts r)) o u.0 (p ∷ at.rest) in
      let lead : length (entries_if rule (leading heads nexts (Some p))
      (reversed (lead_change o m (Some p) next)).new) ≡ length
      (entries_of rule nexts (chain_rec o p next)) = refl in
      let one : sum_by (λ r. length (entries_of rule nexts r)) (chain o (p ∷ at.rest)) ≡ length
      (entries_of rule nexts (chain_rec o p (first at.rest))) + sum_by
      (λ r. length (entries_of rule nexts r)) (chain o at.rest) =
      sum_by-cons (λ r. length (entries_of rule nexts r))
      (chain_rec o p (first at.rest)) (chain o at.rest) in
      omega (arith, all_is, old, lead, one, rest, chain_within o (u.0 ++ p ∷ at.rest))
