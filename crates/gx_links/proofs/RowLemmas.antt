-- What follows from the laws of rows: each node's rows are a set, and the maps that stand for a
-- link are a union that tells it.
use Rattle.std.proofs.Common.{◌≡◌, ◌<◌, ◌≤◌, ℕ, Bool, false, zero, suc, List, [], ◌∷◌, inl, Some, refl, sym, ap, subst, ◌∙◌, arith}
use Rattle.std.specs.List.{flat_map}
use Rattle.std.specs.FinMap as fin
use Rattle.gx_values.specs.declared.values.Kind.{Kind}
use Rattle.gx_values.specs.declared.values.Value.{Value}
use Rattle.gx_values.specs.declared.records.Form.{Form}
use Rattle.gx_values.specs.declared.records.Rec.{Rec}
use Rattle.gx_ports.specs.LeafMaps.{LeafMap}
use Rattle.gx_mapping.specs.declared.parts.Part.{Part}
use Rattle.gx_mapping.specs.Rule.{Rule, In, IsOf}
use Rattle.gx_mapping.specs.Laws.{MappingLaws}
use Rattle.gx_stack.specs.declared.entries.LeafEntry.{LeafEntry}
use Rattle.gx_stack.specs.Tree.{Kids, no_kids, kid, kids_leaves, kid_count, kid_entries, AreValid}
use Rattle.gx_stack.specs.Internal.{IsSet}
use Rattle.gx_stack.proofs.Unique.{kid_leaf}
use Rattle.gx_stack.proofs.Children.{in_parts_for, from_parts_for, kids_union_from_internal, kids_internal_from_union}
use Rattle.gx_stack.proofs.Told.{kids_told}
use Rattle.gx_gather.proofs.Lists.{in_each, from_each}
use Rattle.gx_links.specs.Links.{Link, members_of, owners_of, IsLink}
use Rattle.gx_links.specs.Rows.{link_parts, link_rule, node_rows, IsHeldLink, owner_entries, RowLaws}
use Rattle.gx_links.specs.Linksets.{IsLinkUnion, LinksetLaws}
use Rattle.gx_links.proofs.MemberLemmas.{from_members, owner_there}

module _ {owner member : Kind} {forms : ℕ → Form} {nodes : ℕ}
    {rows : Value → List Value → List Part} (laws : RowLaws owner member forms nodes rows) where
  -- ---- the rows of a link are those of its owners

  pub in_link_parts : (link : Link) (o : Value) (p : Part) → In p (rows o (members_of link o))
      → In p (link_parts rows link)
  in_link_parts link o p h =
      in_each (λ x. rows x (members_of link x)) o p (owners_of link) (go (members_of link o) refl h)
      h
    where
      go : (ms : List Value) → members_of link o ≡ ms → In p (rows o ms) → In o (owners_of link)
      go [] is k = absurd (subst (In p) (laws.none o) k)
      go (m ∷ ms) is k = owner_there link o m
          (from_members link o m (subst (In m) (sym is) (inl refl)))

  pub from_link_parts : (link : Link) (p : Part) → In p (link_parts rows link)
      → (o : Value) × In o (owners_of link) × In p (rows o (members_of link o))
  from_link_parts link p h = from_each (λ x. rows x (members_of link x)) p (owners_of link) h

  pub in_node_rows : (link : Link) (o : Value) (p : Part) → In p (rows o (members_of link o))
      → In p.rec (node_rows rows link p.child)
  in_node_rows link o p h =
      in_parts_for p.child (link_parts rows link) p (in_link_parts link o p h) refl

  pub from_node_rows : (link : Link) (c : ℕ) (r : Rec) → In r (node_rows rows link c)
      → (o : Value) × ((p : Part) × In p (rows o (members_of link o)) × (p.child ≡ c) × (p.rec ≡ r))
  from_node_rows link c r h =
      let p = from_parts_for c (link_parts rows link) r h in
      let o = from_link_parts link p.0 p.1 in
      (o.0, (p.0, o.2, p.2, p.3))

  -- ---- each fits

  part_fits : (link : Link) (p : Part) → IsLink owner member link → In p (link_parts rows link)
      → (p.child < nodes) × IsOf (forms p.child) p.rec
  part_fits link p is h =
      let o = from_link_parts link p h in
      let ms = members_of link o.0 in
      go o.0 ms refl o.2
    where
      go : (o : Value) (ms : List Value) → members_of link o ≡ ms
          → In p (rows o (members_of link o)) → (p.child < nodes) × IsOf (forms p.child) p.rec
      go o [] e k = absurd (subst (In p) (laws.none o) (subst (λ zs. In p (rows o zs)) e k))
      go o (m ∷ ms) e k =
          let owned : fin.get link m ≡ Some o =
          from_members link o m (subst (In m) (sym e) (inl refl)) in
          laws.fit o (members_of link o) p (is.fit m o owned).1
          (λ x j. (is.fit x o (from_members link o x j)).0) (is.few o) k

  pub node_set : (link : Link) (c : ℕ) → IsLink owner member link
      → IsSet (forms c) (node_rows rows link c)
  node_set link c is = record {
    fits = λ r h.
        let p = from_parts_for c (link_parts rows link) r h in
        subst (λ x. IsOf (forms c) x) p.3
        (subst (λ n. IsOf (forms n) p.0.rec) p.2 (part_fits link p.0 is p.1).1);
    one = λ r s h k same.
        let p = from_parts_for c (link_parts rows link) r h in
        let q = from_parts_for c (link_parts rows link) s k in
        let one = laws.once link p.0 q.0 is p.1 q.1 (p.2 ∙ sym q.2) (ap (λ x. x.key) p.3 ∙ same
        ∙ ap (λ x. x.key) (sym q.3)) in
        sym p.3 ∙ ap (λ x. x.rec) one ∙ q.3;
  }

  -- ---- nodes

  module _ {M : Type 0} (rule : M → Rule) (mapping_laws : (m : M) → MappingLaws (rule m))
      (ks : Kids M) (valid : AreValid rule forms ks) (many : kid_count ks ≡ nodes) where
    entries_in : (link : Link) (e : LeafEntry) (c : ℕ)
        → In e (flat_map (kid_entries rule ks c) (node_rows rows link c))
        → In e (flat_map (λ o. owner_entries rule ks rows o (members_of link o))
        (owners_of link))
    entries_in link e c h =
        let r = from_each (kid_entries rule ks c) e (node_rows rows link c) h in
        let p = from_parts_for c (link_parts rows link) r.0 r.1 in
        let o = from_link_parts link p.0 p.1 in
        in_each (λ x. owner_entries rule ks rows x (members_of link x)) o.0 e (owners_of link) o.1
        (in_each (λ q. kid_entries rule ks q.child q.rec) p.0 e (rows o.0 (members_of link o.0)) o.2
        (subst (λ n. In e (kid_entries rule ks n p.0.rec)) (sym p.2)
        (subst (λ x. In e (kid_entries rule ks c x)) (sym p.3) r.2)))

    from_entries : (link : Link) (e : LeafEntry)
        → In e (flat_map (λ o. owner_entries rule ks rows o (members_of link o)) (owners_of link))
        → (c : ℕ) × In e (flat_map (kid_entries rule ks c) (node_rows rows link c))
    from_entries link e h =
        let o = from_each (λ x. owner_entries rule ks rows x (members_of link x)) e
        (owners_of link) h in
        let p = from_each (λ q. kid_entries rule ks q.child q.rec) e
        (rows o.0 (members_of link o.0)) o.2 in (
          p.0.child,
          in_each (kid_entries rule ks p.0.child) p.0.rec e
              (node_rows rows link p.0.child) (in_node_rows link o.0 p.0 p.1) p.2,
        )

    inside : (o : Value) (ms : List Value) (e : LeafEntry) → In e (owner_entries rule ks rows o ms)
        → In e.leaf (kids_leaves ks)
    inside o ms e h = let p = from_each (λ q. kid_entries rule ks q.child q.rec) e (rows o ms) h in
        kid_leaf rule ks p.0.child p.0.rec e p.2

    kid_below : (ls : Kids M) (c : ℕ) (r : Rec) (e : LeafEntry) → In e (kid_entries rule ls c r)
        → c < kid_count ls
    kid_below no_kids c r e h = absurd h
    kid_below (kid t ls) zero r e h = omega arith
    kid_below (kid t ls) (suc c) r e h = let below = kid_below ls c r e h in omega (arith, below)

    module _ (rounds : ℕ → ℕ) (finds : Bool) where
      pub held_union : (link : Link) (maps : List LeafMap) → IsHeldLink rule ks rows link maps
          → IsLinkUnion (link_rule rule ks rows owner member rounds finds) link maps
      held_union link maps held =
          let are = kids_union_from_internal rule ks (node_rows rows link) maps held in
          record {
            holds = λ e h. let c = from_entries link e h in are.holds c.0 e c.1;
            only = λ e l found. let c = are.only e l found in entries_in link e c.0 c.1;
          }

      pub union_held : (link : Link) (maps : List LeafMap)
          → IsLinkUnion (link_rule rule ks rows owner member rounds finds) link maps
          → IsHeldLink rule ks rows link maps
      union_held link maps is =
          kids_internal_from_union rule ks forms (node_rows rows link) maps valid (record {
            holds = λ c e h. is.holds e (entries_in link e c h);
            only = λ e l found. from_entries link e (is.only e l found);
          })

      pub linkset_laws : ((n : ℕ) → rounds n ≤ suc n) → (finds ≡ false → (n : ℕ) → rounds n ≤ 1)
          → LinksetLaws (link_rule rule ks rows owner member rounds finds) (IsHeldLink rule ks rows)
      linkset_laws few one = record {
        inside = inside;
        union = λ link maps is. (held_union link maps, union_held link maps);
        told = λ link other maps is is' held held'. laws.told link other is is'
            (λ p h. across link other maps is is' held held' p h)
            (λ p h. across other link maps is' is held' held p h);
        none = λ o. ap (flat_map (λ p. kid_entries rule ks p.child p.rec)) (laws.none o);
        few_rounds = few;
        one_round = one;
      }
        where
          across : (a b : Link) (maps : List LeafMap) → IsLink owner member a
              → IsLink owner member b → IsHeldLink rule ks rows a maps
              → IsHeldLink rule ks rows b maps → (p : Part) → In p (link_parts rows a)
              → In p (link_parts rows b)
          across a b maps is is' held held' p h =
              let below = (part_fits a p is h).0 in
              let there = kids_told rule mapping_laws maps ks forms (node_rows rows a)
              (node_rows rows b) valid (λ c. node_set a c is) (λ c. node_set b c is') held held'
              p.child (omega (arith, below, many)) p.rec
              (in_parts_for p.child (link_parts rows a) p h refl) in
              let q = from_parts_for p.child (link_parts rows b) p.rec there in
              subst (λ x. In x (link_parts rows b)) (λ i. record { child = q.2 i; rec = q.3 i }) q.1
