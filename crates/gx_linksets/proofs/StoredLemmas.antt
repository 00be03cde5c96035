-- The linkset of a schema's link: it has the nodes of the link, and what contracts see of it is
-- told by the schema.
use Rattle.std.proofs.Common.{◌≡◌, ◌<◌, ◌≤◌, ℕ, zero, suc, List, [], ◌∷◌, length, get_or, refl, sym, ap, subst, ◌∙◌, arith}
use Rattle.std.specs.Prelude.{◌*◌, ◌↔◌, true, false}
use Rattle.gx_values.specs.Values.{first_kind}
use Rattle.gx_values.specs.declared.values.Kind.{Kind}
use Rattle.gx_values.specs.declared.values.Kind.TheVariants as kind
use Rattle.gx_values.specs.declared.values.Value.{Value}
use Rattle.gx_values.specs.declared.records.Form.{Form}
use Rattle.gx_values.specs.Keys.{width_of, IsKeyKind}
use Rattle.gx_values.specs.Spans.{IsSpanKind}
use Rattle.gx_schema.specs.declared.schema.Schema.{Schema}
use Rattle.gx_schema.specs.Lookups.{link_at}
use Rattle.gx_ports.specs.LeafMaps.{LeafMap}
use Rattle.gx_equation.specs.declared.heads.Linkset.{Linkset}
use Rattle.gx_equation.specs.declared.heads.Linkset.TheVariants as linksets
use Rattle.gx_stack.specs.declared.node.Node.{Node}
use Rattle.gx_stack.specs.Seen.{tree_of}
use Rattle.gx_stack.specs.Tree.{Tree, Kids, no_kids, kid, tree_form, AreValid}
use Rattle.gx_forms.specs.Forms.{array_form, ring_form, inverted_form, link_form}
use Rattle.gx_typing.specs.Dues.{owner_kind, member_kind}
use Rattle.gx_types.specs.declared.any.AnyMapping.{AnyMapping}
use Rattle.gx_types.specs.declared.built.LinkTree.{LinkTree}
use Rattle.gx_types.specs.declared.built.LinkTree.TheVariants.{Array, Ring, Inverted}
use Rattle.gx_types.specs.Any.{any_rule}
use Rattle.gx_types.specs.Links.{linkset_of, link_kids, linkset_at, link_kids_at}
use Rattle.gx_types.specs.Nodes.{AreLinkNodes}
use Rattle.gx_links.specs.Kinds.{kinds_of}
use Rattle.gx_links.specs.Links.{Link}
use Rattle.gx_links.specs.Linksets.{LinkRule}
use Rattle.gx_links.specs.Rows.{IsHeldLink, link_rule, owner_entries}
use Rattle.gx_lists.specs.Arrays.{IsArray, array_rule}
use Rattle.gx_lists.specs.Inverted.{IsInverted, inverted_rule}
use Rattle.gx_ring.specs.Ring.{IsRing, ring_rule, next_kind}
use Rattle.gx_linksets.specs.Stored.{rows_of, rounds_of, finds_owner, rule_at, IsHeldAt, IsStorableLink, IsStoredAt}

-- ---- the nodes of a link with a number

pub stored_at : (links : List LinkTree) (i : ℕ) (nodes : LinkTree) → i < length links
    → nodes ≡ get_or links i nodes → IsStoredAt links i nodes
stored_at [] i nodes lt is = absurd (omega arith)
stored_at (x ∷ xs) zero nodes lt is =
    record { set = ap linkset_of (sym is); kids = ap link_kids (sym is) }
stored_at (x ∷ xs) (suc i) nodes lt is = let rest = stored_at xs i nodes (omega arith) is in
    record { set = rest.set; kids = rest.kids }

pub held_both : (links : List LinkTree) (i : ℕ) (nodes : LinkTree) → IsStoredAt links i nodes
    → (link : Link) (maps : List LeafMap)
    → IsHeldAt links i link maps ↔ IsHeldLink any_rule (link_kids nodes)
    (rows_of (linkset_of nodes)) link maps
held_both links i nodes at link maps = (
  λ h. subst (λ (s : Linkset). IsHeldLink any_rule (link_kids nodes) (rows_of s) link maps) at.set
      (subst (λ (ks : Kids AnyMapping). IsHeldLink any_rule ks
      (rows_of (linkset_at links i)) link maps) at.kids h),
  λ h. subst (λ (s : Linkset). IsHeldLink any_rule (link_kids_at links i) (rows_of s) link maps)
      (sym at.set)
      (subst (λ (ks : Kids AnyMapping). IsHeldLink any_rule ks
      (rows_of (linkset_of nodes)) link maps) (sym at.kids) h),
)

-- by its nodes and the kinds of the keys
abbrev pub rule_of_nodes : LinkTree → Kind → Kind → LinkRule
rule_of_nodes nodes owner member =
    link_rule any_rule (link_kids nodes) (rows_of (linkset_of nodes)) owner member
    (rounds_of (linkset_of nodes)) (finds_owner (linkset_of nodes))

pub rule_is : (schema : Schema) (links : List LinkTree) (i : ℕ) (nodes : LinkTree)
    → IsStoredAt links i nodes
    → rule_of_nodes nodes (owner_kind schema.files (link_at schema i))
    (member_kind schema.files (link_at schema i)) ≡ rule_at schema links i
rule_is schema links i nodes at =
    let set : linkset_of nodes ≡ linkset_at links i = sym at.set in
    let kids : link_kids nodes ≡ link_kids_at links i = sym at.kids in
    λ j. link_rule any_rule (kids j) (rows_of (set j)) (owner_kind schema.files (link_at schema i))
    (member_kind schema.files (link_at schema i)) (rounds_of (set j)) (finds_owner (set j))

-- the nodes have the forms of their linkset
abbrev pub HaveForms : LinkTree → Kind → Kind → Type 0
HaveForms nodes owner member =
    AreValid any_rule (link_form (linkset_of nodes) owner member) (link_kids nodes)

pub forms_at : (schema : Schema) (files : List (Node AnyMapping)) (links : List LinkTree)
    (leaves i : ℕ) (nodes : LinkTree) → IsStoredAt links i nodes → i < length schema.links
    → AreLinkNodes schema files links leaves
    → HaveForms nodes (owner_kind schema.files (link_at schema i))
    (member_kind schema.files (link_at schema i))
forms_at schema files links leaves i nodes at lt are =
    let owner = owner_kind schema.files (link_at schema i) in
    let member = member_kind schema.files (link_at schema i) in
    subst (λ (s : Linkset). AreValid any_rule (link_form s owner member) (link_kids nodes)) at.set
    (subst (λ (ks : Kids AnyMapping). AreValid any_rule
    (link_form (linkset_at links i) owner member) ks) at.kids (are.valid i lt))

-- ---- kinds read off the forms

abbrev pub TwoForms : Type 1
TwoForms = Form → Form → Type 0

both_forms : (P : TwoForms) (x y a b : Form) → x ≡ a → y ≡ b → P a b → P x y
both_forms P x y a b is other p =
    subst (λ (f : Form). P f y) (sym is) (subst (λ (g : Form). P a g) (sym other) p)

pub span_kind : (k : Kind) → IsKeyKind k → width_of k ≤ 101 → IsSpanKind k
span_kind kind.Int key narrow = tt
span_kind (kind.Text most) key narrow = omega arith
span_kind (kind.Bytes most) key narrow = absurd key

module _ (owner member : Kind) where
  module _ (t : Tree AnyMapping)
      (valid : AreValid any_rule (link_form linksets.Array owner member) (kid t no_kids)) where
    pub array_rule_is : array_rule any_rule t member ≡ link_rule any_rule (kid t no_kids)
        (rows_of linksets.Array) owner member (rounds_of linksets.Array) false
    array_rule_is = let form : tree_form any_rule t ≡ array_form owner member = valid.0 in
        λ j. link_rule any_rule (kid t no_kids) (rows_of linksets.Array)
        (first_kind (form j).keys) member (rounds_of linksets.Array) false

    pub array_valid : IsSpanKind owner → IsSpanKind member → IsArray any_rule t member
    array_valid owners members = record {
      owner = subst (λ (f : Form). IsSpanKind (first_kind f.keys)) (sym valid.0) owners;
      member_kind = members;
      most = 500 * width_of member;
      keys = subst (λ (f : Form). kinds_of f.keys ≡ first_kind f.keys ∷ []) (sym valid.0) refl;
      fields = subst (λ (f : Form). kinds_of f.fields ≡ kind.Bytes (500 * width_of member) ∷ [])
          (sym valid.0) refl;
      room = omega arith;
      nodes = (refl, valid.1, valid.2, tt);
    }

  module _ (t u : Tree AnyMapping) where
    module _ (valid : AreValid any_rule (link_form linksets.Ring owner member)
        (kid t (kid u no_kids))) where
      first_ring : tree_form any_rule t ≡ ring_form owner member 0
      first_ring = valid.0

      second_ring : tree_form any_rule u ≡ ring_form owner member 1
      second_ring = valid.3.0

      pub ring_rule_is : ring_rule any_rule t u ≡ link_rule any_rule (kid t (kid u no_kids))
          (rows_of linksets.Ring) owner member (rounds_of linksets.Ring) true
      ring_rule_is = λ j. link_rule any_rule (kid t (kid u no_kids)) (rows_of linksets.Ring)
          (first_kind (first_ring j).keys) (first_kind (second_ring j).keys)
          (rounds_of linksets.Ring) true

      ring : (P : TwoForms) → P (ring_form owner member 0) (ring_form owner member 1)
          → P (tree_form any_rule t) (tree_form any_rule u)
      ring P p = both_forms P (tree_form any_rule t) (tree_form any_rule u)
          (ring_form owner member 0) (ring_form owner member 1) first_ring second_ring p

      pub ring_valid : IsSpanKind owner → IsSpanKind member → IsRing any_rule t u
      ring_valid owners members = record {
        owner = ring (λ f g. IsSpanKind (first_kind f.keys)) owners;
        member = ring (λ f g. IsSpanKind (first_kind g.keys)) members;
        head_keys = ring (λ f g. kinds_of f.keys ≡ first_kind f.keys ∷ []) refl;
        head_fields = ring (λ f g. kinds_of f.fields ≡ first_kind g.keys ∷ []) refl;
        chain_keys = ring (λ f g. kinds_of g.keys ≡ first_kind g.keys ∷ []) refl;
        chain_fields = ring (λ f g. kinds_of g.fields ≡ kind.Int ∷ next_kind (first_kind f.keys)
            (first_kind g.keys) ∷ first_kind f.keys ∷ []) refl;
        nodes = (refl, valid.1, valid.2, (refl, valid.3.1, valid.3.2, tt));
      }

    module _ (valid : AreValid any_rule (link_form linksets.Inverted owner member)
        (kid t (kid u no_kids))) where
      first_inverted : tree_form any_rule t ≡ inverted_form owner member 0
      first_inverted = valid.0

      second_inverted : tree_form any_rule u ≡ inverted_form owner member 1
      second_inverted = valid.3.0

      pub inverted_rule_is : inverted_rule any_rule t u ≡ link_rule any_rule (kid t (kid u no_kids))
          (rows_of linksets.Inverted) owner member (rounds_of linksets.Inverted) true
      inverted_rule_is = λ j. link_rule any_rule (kid t (kid u no_kids)) (rows_of linksets.Inverted)
          (first_kind (first_inverted j).keys) (first_kind (second_inverted j).keys)
          (rounds_of linksets.Inverted) true

      inverted : (P : TwoForms) → P (inverted_form owner member 0) (inverted_form owner member 1)
          → P (tree_form any_rule t) (tree_form any_rule u)
      inverted P p = both_forms P (tree_form any_rule t) (tree_form any_rule u)
          (inverted_form owner member 0)
          (inverted_form owner member 1) first_inverted second_inverted p

      pub inverted_valid : IsSpanKind owner → IsSpanKind member → IsInverted any_rule t u
      inverted_valid owners members = record {
        owner = inverted (λ f g. IsSpanKind (first_kind f.keys)) owners;
        member = inverted (λ f g. IsSpanKind (first_kind g.keys)) members;
        down_keys = inverted (λ f g. kinds_of f.keys ≡ first_kind f.keys ∷ first_kind g.keys ∷ [])
            refl;
        down_fields = inverted (λ f g. kinds_of f.fields ≡ []) refl;
        up_keys = inverted (λ f g. kinds_of g.keys ≡ first_kind g.keys ∷ []) refl;
        up_fields = inverted (λ f g. kinds_of g.fields ≡ first_kind f.keys ∷ []) refl;
        nodes = (refl, valid.1, valid.2, (refl, valid.3.1, valid.3.2, tt));
      }

-- ---- the linkset of each kind

module _ (schema : Schema) (files : List (Node AnyMapping)) (links : List LinkTree) (leaves i : ℕ)
    (lt : i < length schema.links) (are : AreLinkNodes schema files links leaves) where
  forms : (nodes : LinkTree) → IsStoredAt links i nodes
      → HaveForms nodes (owner_kind schema.files (link_at schema i))
      (member_kind schema.files (link_at schema i))
  forms nodes at = forms_at schema files links leaves i nodes at lt are

  pub array_rule_at : (n : Node AnyMapping) (member : Kind) → IsStoredAt links i (Array n)
      → member ≡ member_kind schema.files (link_at schema i)
      → array_rule any_rule (tree_of n) member ≡ rule_at schema links i
  array_rule_at n member at is =
      ap (array_rule any_rule (tree_of n)) is
      ∙ array_rule_is (owner_kind schema.files (link_at schema i))
      (member_kind schema.files (link_at schema i)) (tree_of n) (forms (Array n) at)
      ∙ rule_is schema links i (Array n) at

  pub ring_rule_at : (n m : Node AnyMapping) → IsStoredAt links i (Ring n m)
      → ring_rule any_rule (tree_of n) (tree_of m) ≡ rule_at schema links i
  ring_rule_at n m at =
      ring_rule_is (owner_kind schema.files (link_at schema i))
      (member_kind schema.files (link_at schema i)) (tree_of n) (tree_of m) (forms (Ring n m) at)
      ∙ rule_is schema links i (Ring n m) at

  pub inverted_rule_at : (n m : Node AnyMapping) → IsStoredAt links i (Inverted n m)
      → inverted_rule any_rule (tree_of n) (tree_of m) ≡ rule_at schema links i
  inverted_rule_at n m at =
      inverted_rule_is (owner_kind schema.files (link_at schema i))
      (member_kind schema.files (link_at schema i)) (tree_of n) (tree_of m)
      (forms (Inverted n m) at)
      ∙ rule_is schema links i (Inverted n m) at

  module _ (storable : IsStorableLink schema.files (link_at schema i)) where
    owners : IsSpanKind (owner_kind schema.files (link_at schema i))
    owners = span_kind (owner_kind schema.files (link_at schema i)) storable.owner_key
        storable.narrow_owner

    members : IsSpanKind (member_kind schema.files (link_at schema i))
    members = span_kind (member_kind schema.files (link_at schema i)) storable.member_key
        storable.narrow_member

    pub array_valid_at : (n : Node AnyMapping) (member : Kind) → IsStoredAt links i (Array n)
        → member ≡ member_kind schema.files (link_at schema i) → IsArray any_rule (tree_of n) member
    array_valid_at n member at is = subst (λ (k : Kind). IsArray any_rule (tree_of n) k) (sym is)
        (array_valid (owner_kind schema.files (link_at schema i))
        (member_kind schema.files (link_at schema i)) (tree_of n)
        (forms (Array n) at) owners members)

    pub ring_valid_at : (n m : Node AnyMapping) → IsStoredAt links i (Ring n m)
        → IsRing any_rule (tree_of n) (tree_of m)
    ring_valid_at n m at = ring_valid (owner_kind schema.files (link_at schema i))
        (member_kind schema.files (link_at schema i)) (tree_of n) (tree_of m)
        (forms (Ring n m) at) owners members

    pub inverted_valid_at : (n m : Node AnyMapping) → IsStoredAt links i (Inverted n m)
        → IsInverted any_rule (tree_of n) (tree_of m)
    inverted_valid_at n m at = inverted_valid (owner_kind schema.files (link_at schema i))
        (member_kind schema.files (link_at schema i)) (tree_of n) (tree_of m)
        (forms (Inverted n m) at) owners members

-- ---- the entries of an owner

pub any_owner_rows : (schema : Schema) (links : List LinkTree) (i : ℕ) (o : Value) (ms : List Value)
    → (rule_at schema links i).entries o ms ≡ owner_entries any_rule (link_kids_at links i)
    (rows_of (linkset_at links i)) o ms
any_owner_rows schema links i o ms = refl
