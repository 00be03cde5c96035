-- Records that have one leaf entry each.
use Rattle.std.proofs.Common.{◌≡◌, ℕ, ◌<◌, List, [], ◌∷◌, length, get_or, map, Option, Some, None, inl, inr, refl, sym, ap, subst, append-nil, ◌∙◌, arith}
use Rattle.std.specs.Prelude.{IfSome, ◌⊎◌}
use Rattle.std.specs.List.{flat_map}
use Rattle.gx_values.specs.declared.records.Rec.{Rec}
use Rattle.gx_values.specs.declared.values.Value.{Value}
use Rattle.gx_values.specs.declared.values.Value.TheVariants as value
use Rattle.gx_values.specs.Keys.{key_of}
use Rattle.gx_actual.specs.declared.layer.Actual.{Actual}
use Rattle.gx_actual.specs.Bodies.{body_of}
use Rattle.gx_encode.specs.declared.layer.Encode.{Encode}
use Rattle.gx_encode.specs.Forms.{changed as changed_at}
use Rattle.gx_encode.specs.Rules.{field_of, used_code_of, coded}
use Rattle.gx_mapping.specs.declared.parts.Part.{Part}
use Rattle.gx_mapping.specs.Rule.{In}
use Rattle.gx_stack.specs.declared.entries.LeafEntry.{LeafEntry}
use Rattle.gx_stack.specs.declared.node.Node.{Node}
use Rattle.gx_stack.specs.declared.node.LeafNode.{LeafNode}
use Rattle.gx_stack.specs.declared.node.LayerNode.{LayerNode}
use Rattle.gx_stack.specs.declared.node.Node.TheVariants as nodes
use Rattle.gx_stack.specs.Tree.{Tree, leaf, layer, no_kids, kid, IsValid, leaves_of, kids_leaves, entries_of, kid_entries, leaf_body}
use Rattle.gx_stack.specs.Seen.{tree_of, kids_from}
use Rattle.gx_stack.proofs.Seen.{seen_leaf, seen_layer, child_there}
use Rattle.gx_gather.proofs.Lists.{in_left}
use Rattle.gx_types.specs.declared.any.AnyMapping.{AnyMapping}
use Rattle.gx_types.specs.declared.any.AnyMapping.TheVariants as any
use Rattle.gx_types.specs.Any.{any_rule}
use Rattle.gx_entries.specs.Entries.{KeepsKeys, IsOnlyLeaf}

-- ---- which trees have them

-- the data of the one part of a record, and that part
abbrev pub data_below : AnyMapping → List Value → List Value
data_below (any.Actual m) fields = value.Bytes (body_of fields) ∷ []
data_below (any.Encode m) fields = changed_at (field_of m) (coded (used_code_of m)) fields
data_below _ fields = fields

abbrev pub rec_below : AnyMapping → Rec → Rec
rec_below m r = record { key = r.key; fields = data_below m r.fields }

pub one_part : (m : AnyMapping) → KeepsKeys m → (r : Rec)
    → (any_rule m).parts r ≡ record { child = 0; rec = rec_below m r } ∷ []
one_part (any.Actual m) keeps r = refl
one_part (any.Encode m) keeps r = refl
one_part (any.Segment m) keeps r = absurd keeps
one_part (any.Transpose m) keeps r = absurd keeps
one_part (any.Partition m) keeps r = absurd keeps
one_part (any.Divide m) keeps r = absurd keeps
one_part (any.Index m) keeps r = absurd keeps

first_kid : (m : AnyMapping) → KeepsKeys m → 0 < (any_rule m).kids
first_kid (any.Actual m) keeps = omega arith
first_kid (any.Encode m) keeps = omega arith
first_kid (any.Segment m) keeps = absurd keeps
first_kid (any.Transpose m) keeps = absurd keeps
first_kid (any.Partition m) keeps = absurd keeps
first_kid (any.Divide m) keeps = absurd keeps
first_kid (any.Index m) keeps = absurd keeps

pub either_keeps : (m : AnyMapping) → ((x : Actual) × (m ≡ any.Actual x))
    ⊎ ((x : Encode) × (m ≡ any.Encode x)) → KeepsKeys m
either_keeps m (inl x) = subst KeepsKeys (sym x.1) tt
either_keeps m (inr x) = subst KeepsKeys (sym x.1) tt

pub leaf_only : (node : Node AnyMapping) (l : LeafNode) → node ≡ nodes.Leaf l
    → IsOnlyLeaf (tree_of node) l.leaf
leaf_only node l is =
    subst (λ (t : Tree AnyMapping). IsOnlyLeaf t l.leaf) (sym (seen_leaf node l is)) refl

-- there is a first child where each record has a part
pub first_there : (node : Node AnyMapping) (l : LayerNode AnyMapping) → node ≡ nodes.Layer l
    → IsValid any_rule (tree_of node) → KeepsKeys l.mapping → 0 < length l.kids.items
first_there node l is valid keeps =
    child_there any_rule node l is 0 valid (first_kid l.mapping keeps)

layer_only : (node : Node AnyMapping) (l : LayerNode AnyMapping) (k : Node AnyMapping) (n : ℕ)
    → node ≡ nodes.Layer l → k ≡ get_or l.kids.items 0 k → KeepsKeys l.mapping
    → 0 < length l.kids.items → IsOnlyLeaf (tree_of k) n → IsOnlyLeaf (tree_of node) n
layer_only node l k n is read keeps there only =
    subst (λ (t : Tree AnyMapping). IsOnlyLeaf t n) (sym (seen_layer node l is))
    (below l.kids.items read there)
  where
    below : (ks : List (Node AnyMapping)) → k ≡ get_or ks 0 k → 0 < length ks
        → IsOnlyLeaf (layer l.mapping (kids_from (map tree_of ks))) n
    below [] read there = absurd (omega arith)
    below (x ∷ ks) read there =
        (keeps, subst (λ (q : Node AnyMapping). IsOnlyLeaf (tree_of q) n) read only)

pub layer_some : (node : Node AnyMapping) (l : LayerNode AnyMapping) (k : Node AnyMapping)
    (o : Option ℕ) → node ≡ nodes.Layer l → k ≡ get_or l.kids.items 0 k → KeepsKeys l.mapping
    → 0 < length l.kids.items → IfSome o (IsOnlyLeaf (tree_of k))
    → IfSome o (IsOnlyLeaf (tree_of node))
layer_some node l k None is read keeps there only = tt
layer_some node l k (Some n) is read keeps there only =
    layer_only node l k n is read keeps there only

-- ---- the one entry of a record

pub only_in_tree : (t : Tree AnyMapping) (n : ℕ) → IsOnlyLeaf t n → In n (leaves_of t)
only_in_tree (leaf k form) n is = inl (sym is)
only_in_tree (layer m no_kids) n is = absurd is
only_in_tree (layer m (kid t ks)) n is =
    in_left n (leaves_of t) (kids_leaves ks) (only_in_tree t n is.1)

abbrev pub body_in : Tree AnyMapping → List Value → List ℕ
body_in (leaf k form) fields = leaf_body fields
body_in (layer m no_kids) fields = []
body_in (layer m (kid t ks)) fields = body_in t (data_below m fields)

abbrev pub entry_at : Tree AnyMapping → ℕ → Rec → LeafEntry
entry_at t n r = record { leaf = n; key = key_of r.key; body = body_in t r.fields }

pub one_entry : (t : Tree AnyMapping) (n : ℕ) → IsOnlyLeaf t n → (r : Rec)
    → entries_of any_rule t r ≡ entry_at t n r ∷ []
one_entry (leaf k form) n is r =
    λ i. record { leaf = is i; key = key_of r.key; body = leaf_body r.fields } ∷ []
one_entry (layer m no_kids) n is r = absurd is
one_entry (layer m (kid t ks)) n is r =
    ap (flat_map (λ (p : Part). kid_entries any_rule (kid t ks) p.child p.rec)) (one_part m is.0 r)
    ∙ append-nil (entries_of any_rule t (rec_below m r))
    ∙ one_entry t n is.1 (rec_below m r)

pub one_of : (x y : LeafEntry) → In x (y ∷ []) → x ≡ y
one_of x y (inl is) = is
one_of x y (inr none) = absurd none

-- each record has an entry in this leaf, and all its entries are under its own key
pub record HasOwn (t : Tree AnyMapping) (n : ℕ) : Type 0 where
  pub among : In n (leaves_of t)
  pub entry : (r : Rec) → (body : List ℕ)
      × In (record { leaf = n; key = key_of r.key; body = body }) (entries_of any_rule t r)
  pub key : (r : Rec) (e : LeafEntry) → In e (entries_of any_rule t r) → e.key ≡ key_of r.key

pub only_has : (t : Tree AnyMapping) (n : ℕ) → IsOnlyLeaf t n → HasOwn t n
only_has t n only = record {
  among = only_in_tree t n only;
  entry = λ r. (
    body_in t r.fields,
    subst (In (entry_at t n r)) (sym (one_entry t n only r))
        (inl refl),
  );
  key = λ r e h. ap (λ (y : LeafEntry). y.key)
      (one_of e (entry_at t n r) (subst (In e) (one_entry t n only r) h));
}
