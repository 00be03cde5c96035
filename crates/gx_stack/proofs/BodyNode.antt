-- A layer of which a record's one part has its body alone.
use Rattle.std.proofs.Common.{◌≡◌, ◌<◌, ℕ, Some, List, [], ◌∷◌, ◌++◌, inl, refl, sym, ap, ◌∙◌, subst, map, length, get_or, append-nil}
use Rattle.std.specs.List.{flat_map}
use Rattle.gx_values.specs.declared.records.Rec.{Rec}
use Rattle.gx_mapping.specs.declared.parts.Part.{Part}
use Rattle.gx_mapping.specs.Rule.{Rule, In, IsOf, IsBody, part_of_body}
use Rattle.gx_mapping.specs.Laws.{MappingLaws}
use Rattle.gx_stack.specs.declared.entries.LeafEntry.{LeafEntry}
use Rattle.gx_stack.specs.declared.node.Node.{Node}
use Rattle.gx_stack.specs.declared.node.LeafNode.{LeafNode}
use Rattle.gx_stack.specs.declared.node.LayerNode.{LayerNode}
use Rattle.gx_stack.specs.declared.node.Node.TheVariants as V
use Rattle.gx_stack.specs.Tree.{layer, entries_of, kid_entries, tree_form, entry_in, body_rec, IsValid, IsLeafForm}
use Rattle.gx_stack.specs.Seen.{tree_of, kids_from}
use Rattle.gx_stack.proofs.Seen.{seen_layer, seen_leaf, layer_part, kid_entries_at}

module _ {M : Type 0} (rule : M → Rule) (n : Node M) (l : LayerNode M) (is : n ≡ V.Layer l)
    (valid : IsValid rule (tree_of n)) (r : Rec) (fits : IsOf (tree_form rule (tree_of n)) r)
    (laws : MappingLaws (rule l.mapping)) (body : List ℕ)
    (body_is : IsBody (rule l.mapping) r (Some body)) where
  -- there is a first child, which is valid, and the part is of its form
  pub body_part : (0 < length l.kids.items)
      × ((k : Node M) → k ≡ get_or l.kids.items 0 k
      → IsValid rule (tree_of k) × IsOf (tree_form rule (tree_of k)) (body_rec r.key body))
  body_part =
      let p = part_of_body r.key body in
      layer_part rule n l is laws r p valid fits
      (subst (λ (ps : List Part). In p ps) (sym body_is) (inl refl))

  -- the same where that child is a leaf
  pub body_leaf : (k : Node M) (leaf : LeafNode) → k ≡ get_or l.kids.items 0 k → k ≡ V.Leaf leaf
      → IsLeafForm leaf.form × IsOf leaf.form (body_rec r.key body)
  body_leaf k leaf read leaf_is =
      let part = body_part.1 k read in
      let seen = seen_leaf k leaf leaf_is in (
        subst (IsValid rule) seen part.0,
        subst (λ f. IsOf f (body_rec r.key body)) (ap (tree_form rule) seen) part.1,
      )

  -- the entries of the part are those of the record
  body_entries : (k : Node M) → k ≡ get_or l.kids.items 0 k
      → entries_of rule (tree_of k) (body_rec r.key body) ≡ entries_of rule (tree_of n) r
  body_entries k read =
      let ks = kids_from (map tree_of l.kids.items) in
      let b = body_rec r.key body in
      let one : entries_of rule (layer l.mapping ks) r ≡ kid_entries rule ks 0 b ++ [] =
      ap (λ (ps : List Part). flat_map (λ (p : Part). kid_entries rule ks p.child p.rec) ps)
      body_is in
      let there = kid_entries_at rule l.kids.items 0 k b body_part.0 in
      ap (λ x. entries_of rule (tree_of x) b) read ∙ sym there
      ∙ sym (one ∙ append-nil (kid_entries rule ks 0 b))
      ∙ sym (ap (λ x. entries_of rule x r) (seen_layer n l is))

  pub body_out : (k : Node M) → k ≡ get_or l.kids.items 0 k → (was out : List LeafEntry) (b : Rec)
      → b ≡ body_rec r.key body → out ≡ was ++ entries_of rule (tree_of k) b
      → out ≡ was ++ entries_of rule (tree_of n) r
  body_out k read was out b same new =
      new ∙ ap (λ x. was ++ entries_of rule (tree_of k) x) same
      ∙ ap (λ es. was ++ es) (body_entries k read)

  pub body_leaf_out : (k : Node M) (leaf : LeafNode) → k ≡ get_or l.kids.items 0 k
      → k ≡ V.Leaf leaf → (was out : List LeafEntry) (entry : LeafEntry)
      → entry ≡ entry_in leaf.leaf (body_rec r.key body) → out ≡ was ++ entry ∷ []
      → out ≡ was ++ entries_of rule (tree_of n) r
  body_leaf_out k leaf read leaf_is was out entry entry_is new =
      let b = body_rec r.key body in
      body_out k read was out b refl
      (new ∙ ap (λ e. was ++ e ∷ []) entry_is
      ∙ ap (λ x. was ++ entries_of rule x b) (sym (seen_leaf k leaf leaf_is)))
