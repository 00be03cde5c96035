-- Rows: the records that stand for a link in the nodes of a linkset. `rows` gives those of one
-- owner and its members; a row is a part, with the number of its node from 0.
use Rattle.std.specs.Prelude.{◌≡◌, ℕ, zero, suc, ◌<◌, ◌≤◌, Bool, List, [], length}
use Rattle.std.specs.List.{flat_map, IsDistinct}
use Rattle.std.specs.List.Sorted.{IsStrictlySortedBy}
use Rattle.std.specs.Ordering.{eq_by_cmp}
use Rattle.gx_values.specs.declared.values.Kind.{Kind}
use Rattle.gx_values.specs.declared.values.Value.{Value}
use Rattle.gx_values.specs.declared.records.Form.{Form}
use Rattle.gx_values.specs.declared.records.Rec.{Rec}
use Rattle.gx_values.specs.Values.{value_cmp, Fits, first_kind}
use Rattle.gx_ports.specs.LeafMaps.{LeafMap}
use Rattle.gx_mapping.specs.declared.parts.Part.{Part}
use Rattle.gx_mapping.specs.Rule.{Rule, In, IsOf, part_cmp}
use Rattle.gx_stack.specs.declared.entries.LeafEntry.{LeafEntry}
use Rattle.gx_stack.specs.Tree.{Tree, Kids, no_kids, kid, kids_leaves, kid_entries, tree_form}
use Rattle.gx_stack.specs.Internal.{parts_for, AreInternal}
use Rattle.gx_links.specs.Links.{Link, members_of, owners_of, most_members, IsLink}
use Rattle.gx_links.specs.Linksets.{LinkRule}

-- all rows of a link
abbrev pub link_parts : (Value → List Value → List Part) → Link → List Part
link_parts rows link = flat_map (λ o. rows o (members_of link o)) (owners_of link)

-- those in one node
abbrev pub node_rows : (Value → List Value → List Part) → Link → ℕ → List Rec
node_rows rows link c = parts_for c (link_parts rows link)

-- the leaves of each node hold its rows
abbrev pub IsHeldLink : {M : Type 0} (rule : M → Rule) → Kids M → (Value → List Value → List Part)
    → Link → List LeafMap → Type 0
IsHeldLink rule ks rows link maps = AreInternal rule ks (node_rows rows link) maps

-- two nodes
abbrev pub two_nodes : {M : Type 0} → Tree M → Tree M → Kids M
two_nodes first second = kid first (kid second no_kids)

-- the kind of the keys of owners, as the form of the node has it where an owner's key stands first
abbrev pub owner_kind : {M : Type 0} (rule : M → Rule) → Tree M → Kind
owner_kind rule node = first_kind (tree_form rule node).keys

-- the same of members
abbrev pub member_kind : {M : Type 0} (rule : M → Rule) → Tree M → Kind
member_kind rule node = first_kind (tree_form rule node).keys

-- the leaf entries that come from one owner with its members
abbrev pub owner_entries : {M : Type 0} (rule : M → Rule) → Kids M
    → (Value → List Value → List Part) → Value → List Value → List LeafEntry
owner_entries rule ks rows o ms = flat_map (λ p. kid_entries rule ks p.child p.rec) (rows o ms)

-- what contracts see of a linkset with these nodes
abbrev pub link_rule : {M : Type 0} (rule : M → Rule) → Kids M → (Value → List Value → List Part)
    → (owner member : Kind) → (ℕ → ℕ) → Bool → LinkRule
link_rule rule ks rows owner member rounds finds =
    record {
      owner = owner;
      member = member;
      leaves = kids_leaves ks;
      entries = owner_entries rule ks rows;
      rounds = rounds;
      finds = finds;
    }

-- the form of each of two nodes
abbrev pub two_forms : Form → Form → ℕ → Form
two_forms first second zero = first
two_forms first second (suc c) = second

-- what is true of the rows of each linkset
pub record RowLaws (owner member : Kind) (forms : ℕ → Form) (nodes : ℕ)
    (rows : Value → List Value → List Part) : Type 0 where
  -- an owner without members has none
  pub none : (o : Value) → rows o [] ≡ []
  -- each goes to a node and fits its form
  pub fit : (o : Value) (ms : List Value) (p : Part) → Fits owner o
      → ((m : Value) → In m ms → Fits member m) → length ms ≤ most_members → In p (rows o ms)
      → (p.child < nodes) × IsOf (forms p.child) p.rec
  -- no two in one node have the same key
  pub once : (link : Link) (p q : Part) → IsLink owner member link → In p (link_parts rows link)
      → In q (link_parts rows link) → p.child ≡ q.child → p.rec.key ≡ q.rec.key → p ≡ q
  -- they tell the link
  pub told : (link other : Link) → IsLink owner member link → IsLink owner member other
      → ((p : Part) → In p (link_parts rows link) → In p (link_parts rows other))
      → ((p : Part) → In p (link_parts rows other) → In p (link_parts rows link)) → link ≡ other

-- no row of an owner stands twice, and each tells its owner
pub record RowsApart (rows : Value → List Value → List Part) : Type 0 where
  pub once : (o : Value) (ms : List Value) → IsStrictlySortedBy value_cmp ms
      → IsDistinct (eq_by_cmp part_cmp) (rows o ms)
  pub whose : (o x : Value) (ms ys : List Value) (p : Part) → In p (rows o ms) → In p (rows x ys)
      → o ≡ x
