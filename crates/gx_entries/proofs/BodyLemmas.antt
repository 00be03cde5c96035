-- The body of the one leaf entry of a record.
use Rattle.std.proofs.Common.{◌≡◌, ℕ, zero, suc, ◌<◌, ◌≤◌, List, [], ◌∷◌, length, get_or, set, map, inl, refl, sym, ap, subst, append-nil, ◌∙◌, arith}
use Rattle.std.specs.List.{flat_map}
use Rattle.gx_values.specs.declared.records.Field.{Field}
use Rattle.gx_values.specs.declared.records.Rec.{Rec}
use Rattle.gx_values.specs.declared.values.Value.{Value}
use Rattle.gx_values.specs.declared.values.Value.TheVariants as value
use Rattle.gx_values.specs.declared.values.Code.{Code}
use Rattle.gx_values.specs.declared.records.Form.{Form}
use Rattle.gx_values.specs.Values.{Fits, AreFit, no_field}
use Rattle.gx_values.specs.Keys.{key_of}
use Rattle.gx_actual.specs.declared.layer.Actual.{Actual}
use Rattle.gx_actual.specs.Bodies.{body_of}
use Rattle.gx_encode.specs.declared.layer.Encode.{Encode}
use Rattle.gx_encode.specs.Codes.{code_of, IsCodable}
use Rattle.gx_encode.specs.Forms.{changed as changed_at, IsEncode}
use Rattle.gx_encode.specs.Laws.{has_code}
use Rattle.gx_encode.specs.Rules.{field_of, used_code_of, coded}
use Rattle.gx_mapping.specs.declared.parts.Part.{Part}
use Rattle.gx_mapping.specs.Rule.{In}
use Rattle.gx_stack.specs.declared.node.Node.{Node}
use Rattle.gx_stack.specs.declared.node.LeafNode.{LeafNode}
use Rattle.gx_stack.specs.declared.node.LayerNode.{LayerNode}
use Rattle.gx_stack.specs.declared.node.Node.TheVariants as nodes
use Rattle.gx_stack.specs.Tree.{Tree, layer, IsValid, IsLeafData, tree_form, entries_of, kid_entries, leaf_body}
use Rattle.gx_stack.specs.Seen.{tree_of, kids_from}
use Rattle.gx_stack.proofs.Seen.{seen_leaf, seen_layer, layer_form, layer_part, kid_entries_at}
use Rattle.gx_types.specs.declared.any.AnyMapping.{AnyMapping}
use Rattle.gx_types.specs.declared.any.AnyMapping.TheVariants as any
use Rattle.gx_types.specs.Any.{any_rule, any_laws}
use Rattle.gx_entries.specs.Entries.{KeepsKeys, IsOnlyLeaf, AreDataOf, IsOnlyBody}
use Rattle.gx_entries.proofs.OneLemmas.{data_below, rec_below, one_part}

-- ---- a leaf

few_data : (fs : List Field) (most : ℕ) (vs : List Value) → IsLeafData fs most → AreFit fs vs
    → length vs ≤ 1
few_data [] most [] small fit = omega arith
few_data [] most (v ∷ vs) small fit = absurd fit
few_data (f ∷ []) most [] small fit = absurd fit
few_data (f ∷ []) most (v ∷ []) small fit = omega arith
few_data (f ∷ []) most (v ∷ w ∷ vs) small fit = absurd fit.1
few_data (f ∷ g ∷ fs) most vs small fit = absurd small

pub leaf_data : (node : Node AnyMapping) (l : LeafNode) → node ≡ nodes.Leaf l
    → IsValid any_rule (tree_of node) → (fields : List Value)
    → AreDataOf (tree_form any_rule (tree_of node)) fields → length fields ≤ 1
leaf_data node l is valid fields has =
    let small = subst (IsValid any_rule) (seen_leaf node l is) valid in
    let fit = subst (λ (t : Tree AnyMapping). AreFit (tree_form any_rule t).fields fields)
    (seen_leaf node l is) has.1.fields in
    few_data l.form.fields _ fields small.entry_small fit

pub leaf_body_is : (node : Node AnyMapping) (l : LeafNode) → node ≡ nodes.Leaf l
    → (fields : List Value) (body : List ℕ) → body ≡ leaf_body fields
    → IsOnlyBody (tree_of node) fields body
leaf_body_is node l is fields body body_is = λ n key only.
    let r : Rec = record { key = key; fields = fields } in
    let here : l.leaf ≡ n = subst (λ (t : Tree AnyMapping). IsOnlyLeaf t n) (seen_leaf node l is)
    only in
    ap (λ (t : Tree AnyMapping). entries_of any_rule t r) (seen_leaf node l is)
    ∙ (λ i. record { leaf = here i; key = key_of key; body = sym body_is i } ∷ [])

-- ---- a layer

module _ (node : Node AnyMapping) (l : LayerNode AnyMapping) (is : node ≡ nodes.Layer l) where
  pub layer_keeps : (n : ℕ) → IsOnlyLeaf (tree_of node) n → (0 < length l.kids.items)
      × KeepsKeys l.mapping
  layer_keeps n only =
      kept l.kids.items (subst (λ (t : Tree AnyMapping). IsOnlyLeaf t n) (seen_layer node l is)
      only)
    where
      kept : (ks : List (Node AnyMapping))
          → IsOnlyLeaf (layer l.mapping (kids_from (map tree_of ks))) n → (0 < length ks)
          × KeepsKeys l.mapping
      kept [] only = absurd only
      kept (k ∷ ks) only = (omega arith, only.0)

  pub kid_only : (k : Node AnyMapping) (n : ℕ) → k ≡ get_or l.kids.items 0 k
      → IsOnlyLeaf (tree_of node) n → IsOnlyLeaf (tree_of k) n
  kid_only k n read only =
      below l.kids.items read (subst (λ (t : Tree AnyMapping). IsOnlyLeaf t n)
      (seen_layer node l is) only)
    where
      below : (ks : List (Node AnyMapping)) → k ≡ get_or ks 0 k
          → IsOnlyLeaf (layer l.mapping (kids_from (map tree_of ks))) n → IsOnlyLeaf (tree_of k) n
      below [] read only = absurd only
      below (q ∷ ks) read only =
          subst (λ (x : Node AnyMapping). IsOnlyLeaf (tree_of x) n) (sym read) only.1

  pub layer_data : (fields : List Value) → AreDataOf (tree_form any_rule (tree_of node)) fields
      → AreFit (any_rule l.mapping).form.fields fields
  layer_data fields has =
      subst (λ form. AreFit form.fields fields) (layer_form any_rule node l is) has.1.fields

  -- the first child is valid, and the data of the part are of its form
  pub kid_ready : (k : Node AnyMapping) (n : ℕ) (fields : List Value) → k ≡ get_or l.kids.items 0 k
      → IsValid any_rule (tree_of node) → IsOnlyLeaf (tree_of node) n
      → AreDataOf (tree_form any_rule (tree_of node)) fields → IsValid any_rule (tree_of k)
      × AreDataOf (tree_form any_rule (tree_of k)) (data_below l.mapping fields)
  kid_ready k n fields read valid only has =
      let r : Rec = record { key = has.0; fields = fields } in
      let p : Part = record { child = 0; rec = rec_below l.mapping r } in
      let keeps = layer_keeps n only in
      let part = layer_part any_rule node l is (any_laws l.mapping) r p valid has.1
      (subst (λ (ps : List Part). In p ps) (sym (one_part l.mapping keeps.1 r)) (inl refl)) in
      let both = part.1 k read in
      (both.0, (has.0, both.1))

  -- the body of the part is that of the record
  pub body_below : (k : Node AnyMapping) (fields : List Value) (body : List ℕ)
      → k ≡ get_or l.kids.items 0 k → IsOnlyBody (tree_of k) (data_below l.mapping fields) body
      → IsOnlyBody (tree_of node) fields body
  body_below k fields body read has = λ n key only.
      let r : Rec = record { key = key; fields = fields } in
      let b = rec_below l.mapping r in
      let ks = kids_from (map tree_of l.kids.items) in
      let keeps = layer_keeps n only in
      ap (λ (t : Tree AnyMapping). entries_of any_rule t r) (seen_layer node l is)
      ∙ ap (flat_map (λ (p : Part). kid_entries any_rule ks p.child p.rec))
      (one_part l.mapping keeps.1 r)
      ∙ append-nil (kid_entries any_rule ks 0 b)
      ∙ kid_entries_at any_rule l.kids.items 0 k b keeps.0
      ∙ ap (λ (q : Node AnyMapping). entries_of any_rule (tree_of q) b) (sym read)
      ∙ has n key (kid_only k n read only)

-- ---- the layers

pub actual_data : (m : AnyMapping) (x : Actual) → m ≡ any.Actual x → (fields : List Value)
    → data_below m fields ≡ value.Bytes (body_of fields) ∷ []
actual_data m x is fields = ap (λ (k : AnyMapping). data_below k fields) is

pub encode_data : (m : AnyMapping) (x : Encode) → m ≡ any.Encode x → (fields : List Value)
    → data_below m fields ≡ changed_at (field_of x) (coded (used_code_of x)) fields
encode_data m x is fields = ap (λ (k : AnyMapping). data_below k fields) is

pub no_other : (m : AnyMapping) → KeepsKeys m → ((x : Actual) → m ≡ any.Actual x → ⊥)
    → ((x : Encode) → m ≡ any.Encode x → ⊥) → ⊥
no_other (any.Actual x) keeps no_actual no_encode = no_actual x refl
no_other (any.Encode x) keeps no_actual no_encode = no_encode x refl
no_other (any.Segment x) keeps no_actual no_encode = keeps
no_other (any.Transpose x) keeps no_actual no_encode = keeps
no_other (any.Partition x) keeps no_actual no_encode = keeps
no_other (any.Divide x) keeps no_actual no_encode = keeps
no_other (any.Index x) keeps no_actual no_encode = keeps

-- ---- codes

fits_in : (i : ℕ) (fs : List Field) (vs : List Value) (v : Value) → AreFit fs vs → i < length fs
    → v ≡ get_or vs i v → Fits (get_or fs i no_field).kind v
fits_in i [] vs v fit lt is = absurd (omega arith)
fits_in i (f ∷ fs) [] v fit lt is = absurd fit
fits_in zero (f ∷ fs) (w ∷ vs) v fit lt is = subst (Fits f.kind) (sym is) fit.0
fits_in (suc i) (f ∷ fs) (w ∷ vs) v fit lt is = fits_in i fs vs v fit.1 (omega arith) is

pub codable : (form : Form) (i n : ℕ) (c : Code) (vs items : List Value) (v : Value)
    → IsEncode form i c → AreFit form.fields vs → items ≡ vs → n ≡ i → v ≡ get_or items n v
    → IsCodable c v
codable form i n c vs items v sound fit same number is =
    let at : v ≡ get_or vs i v = is ∙ (λ j. get_or (same j) (number j) v) in
    has_code c (get_or form.fields i no_field).kind v sound.kind
    (fits_in i form.fields vs v fit sound.place at)

set_coded : (i : ℕ) (c : Code) (vs : List Value) (v : Value) → v ≡ get_or vs i v
    → set vs i (coded c v) ≡ changed_at i (coded c) vs
set_coded i c [] v is = refl
set_coded zero c (w ∷ vs) v is = ap (λ (x : Value). coded c x ∷ vs) is
set_coded (suc i) c (w ∷ vs) v is = ap (λ (ws : List Value). w ∷ ws) (set_coded i c vs v is)

pub coded_set : (i n : ℕ) (c : Code) (vs items : List Value) (v : Value) (code : List ℕ)
    → items ≡ vs → n ≡ i → v ≡ get_or items n v → code ≡ code_of c v
    → set items n (value.Bytes code) ≡ changed_at i (coded c) vs
coded_set i n c vs items v code same number is code_is =
    let at : v ≡ get_or vs i v = is ∙ (λ j. get_or (same j) (number j) v) in
    (λ j. set (same j) (number j) (value.Bytes (code_is j))) ∙ set_coded i c vs v at
