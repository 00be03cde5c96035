-- A tree whose records stand whole in one leaf, and the record there at a key.
use Rattle.std.proofs.Common.{[], ◌≡◌, ℕ, ◌+◌, ◌<◌, ◌≤◌, List, ◌∷◌, length, map, take, get_or, true, Option, None, Some, inl, refl, sym, ap, subst, ◌∙◌, arith}
use Rattle.std.specs.Prelude.{filter, Result, Ok, Err, IfOk, IfSome, slice_get}
use Rattle.std.specs.List.{AllByRecursion}
use Rattle.std.specs.List.Sorted.{IsPermutation}
use Rattle.std.specs.Option.{option_map}
use Rattle.std.specs.FinMap as fin
use Rattle.std.proofs.lemmas.List.{length-map}
use Rattle.std.proofs.lemmas.List.Sorted.{length_permutation}
use Rattle.gx_values.specs.declared.values.Code.{Code}
use Rattle.gx_values.specs.declared.values.Value.{Value}
use Rattle.gx_values.specs.declared.records.Field.{Field}
use Rattle.gx_values.specs.declared.keys.Span.{Span}
use Rattle.gx_values.specs.Values.{Fits, AreFit}
use Rattle.gx_values.specs.Written.{AreRead}
use Rattle.gx_values.specs.Keys.{bytes_of}
use Rattle.gx_schema.specs.declared.schema.FileDef.{FileDef}
use Rattle.gx_schema.specs.Lookups.{key_kind, data_fields}
use Rattle.gx_ports.specs.declared.leaves.Entry.{Entry}
use Rattle.gx_ports.specs.LeafMaps.{LeafMap, entry_of}
use Rattle.gx_actual.specs.Bodies.{field_bytes, body_of}
use Rattle.gx_actual.specs.BodyLaws.{same_body}
use Rattle.gx_actual.specs.declared.layer.Actual.{Actual}
use Rattle.gx_actual.specs.Rules.{actual_rec, actual_rule, form_of}
use Rattle.gx_mapping.specs.Rule.{Rule}
use Rattle.gx_stack.specs.declared.node.Node.{Node}
use Rattle.gx_stack.specs.declared.node.LayerNode.{LayerNode}
use Rattle.gx_stack.specs.declared.node.LeafNode.{LeafNode}
use Rattle.gx_stack.specs.declared.node.Node.TheVariants as nodes
use Rattle.gx_stack.specs.Tree.{Tree, leaves_of, IsValid}
use Rattle.gx_stack.specs.Seen.{tree_of}
use Rattle.gx_gather.proofs.Lists.{in_filter, IsOnce}
use Rattle.gx_stack.proofs.Seen.{child_there, child_valid}
use Rattle.gx_types.specs.declared.any.AnyMapping.{AnyMapping}
use Rattle.gx_types.specs.declared.any.AnyMapping.TheVariants as any
use Rattle.gx_types.specs.Passing.{PassesOne}
use Rattle.gx_types.specs.Any.{any_rule}
use Rattle.gx_model.specs.States.{File, Row, IsRowOf}
use Rattle.gx_scan.specs.declared.places.Place.{Place}
use Rattle.gx_scan.specs.Files.{IsInternal, IsStorable, IsTreeFor}
use Rattle.gx_scan.specs.Entries.{PassesOn, ArePlaces, ArePlacesBelow, IsPlaceOf, rows_at}
use Rattle.gx_scan.specs.Records.{list_of_one}
use Rattle.gx_scan.specs.Steps.{HaveAtMost, is_key_inside, rows_inside}
use Rattle.gx_scan.proofs.KeyLemmas.{one_at_key, steps_at_key, row_found}
use Rattle.gx_scan.proofs.ListingLemmas.{none_chosen, place_chosen, all_chosen}
use Rattle.gx_scan.proofs.PlaceLemmas.{number, data_once, data_few, leaf_there, none_placed, kid_placed, layer_placed, kids_many, leaf_placed, wrapped_passes}
use Rattle.gx_scan.proofs.ScanLemmas.{row_of}
use Rattle.gx_scan.proofs.StepLemmas.{whole_most}

-- ---- below a layer of one child

pub if_placed : {E : Type 0} (P Q : Place → Type 0) (r : Result (Option Place) E)
    → ((p : Place) → P p → Q p) → IfOk r (λ o. IfSome o P) → IfOk r (λ o. IfSome o Q)
if_placed P Q (Ok None) more is = tt
if_placed P Q (Ok (Some p)) more is = more p is
if_placed P Q (Err e) more is = tt

pub one_below : (node : Node AnyMapping) (l : LayerNode AnyMapping) (n : ℕ)
    (cs : List (Option Code)) (b : ℕ) (ds : List (Option Code)) (k : Node AnyMapping) (p : Place)
    → node ≡ nodes.Layer l → IsValid any_rule (tree_of node)
    → PassesOn (any_rule l.mapping) n cs b ds
    → (any_rule l.mapping).kids ≡ 1 → (any_rule l.mapping).holds_rest 0 ≡ true
    → k ≡ get_or l.kids.items 0 k
    → ArePlacesBelow b ds (tree_of k) (p ∷ []) → ArePlacesBelow n cs (tree_of node) (p ∷ [])
one_below node l n cs b ds k p is valid passes one rest read placed =
    let many = kids_many node l is valid in
    layer_placed node l n cs b ds 1 (p ∷ []) is valid passes (omega (arith, many, one))
    (kid_placed l.mapping b ds l.kids.items 0 k [] (p ∷ []) (omega (arith, many, one)) rest read
    (none_placed l.mapping b ds l.kids.items) placed)

-- ---- a layer `actual` over a leaf

module _ (node : Node AnyMapping) (l : LayerNode AnyMapping) (m : Actual)
    (is : node ≡ nodes.Layer l)
    (wraps : l.mapping ≡ any.Actual m) (valid : IsValid any_rule (tree_of node)) where
  rule_is : any_rule l.mapping ≡ actual_rule (form_of m)
  rule_is = ap any_rule wraps

  one_kid : (any_rule l.mapping).kids ≡ 1
  one_kid = ap (λ (rule : Rule). rule.kids) rule_is

  pub actual_kid : 0 < length l.kids.items
  actual_kid = child_there any_rule node l is 0 valid (omega (arith, one_kid))

  pub actual_placed : (k : Node AnyMapping) (n : LeafNode) (p : Place) → k ≡ get_or l.kids.items 0 k
      → k ≡ nodes.Leaf n → p.leaf ≡ n.leaf → p.lengths ≡ 0 → p.codes ≡ []
      → ArePlaces 0 (tree_of node) (p ∷ [])
  actual_placed k n p read below number_is lengths_is codes_is =
      let v = child_valid any_rule node l is 0 k valid actual_kid read in
      let passes = wrapped_passes l.mapping 0 [] 1 refl
      (subst (λ (rule : Rule). PassesOne rule actual_rec) (sym rule_is) (λ r. (0, refl))) in
      one_below node l 0 [] 1 [] k p is valid passes one_kid
      (ap (λ (rule : Rule). rule.holds_rest 0) rule_is) read
      (leaf_placed k n 1 [] p below v.1 (λ none. absurd (omega (arith, none)))
      (λ none no_codes. absurd (omega (arith, none))) number_is lengths_is codes_is)

pub at_one : (t : Tree AnyMapping) (p : Place) → ArePlaces 0 t (p ∷ []) → IsPlaceOf t p
at_one t p are = record { places = p ∷ []; are = are; there = inl refl }

-- ---- what is read of the one entry

pub values_read : {E : Type 0} (file : FileDef) (fields : List Field) (body : List ℕ) (r : Row)
    (res : Result (Option (List Value)) E) → IsStorable file → fields ≡ data_fields file
    → IsRowOf file r → body ≡ body_of r.1 → IfOk res (AreRead field_bytes fields body)
    → IfOk res (λ found. found ≡ Some r.1)
values_read file fields body r (Ok None) storable same fit is read =
    absurd (read r.1 (subst (λ (fs : List Field). AreFit fs r.1) (sym same) fit.1) (sym is))
values_read file fields body r (Ok (Some vs)) storable same fit is read =
    ap Some (same_body (data_fields file) vs r.1 storable.short
    (subst (λ (fs : List Field). AreFit fs vs) same read.0) fit.1 (read.1 ∙ is))
values_read file fields body r (Err e) storable same fit is read = tt

pub none_there : (made : Row → List ℕ × List ℕ) (one : Option Row) (es : List Entry)
    → es ≡ map (λ (r : Row). entry_of (made r)) (list_of_one one) → es ≡ [] → one ≡ None
none_there made None es is none = refl
none_there made (Some r) es is none = absurd (omega (arith, ap length is, ap length none))

one_is : (one : Option Row) (r : Row) → take 1 (list_of_one one) ≡ r ∷ [] → one ≡ Some r
one_is None r is = absurd (omega (arith, ap length is))
one_is (Some x) r is = ap (λ (l : List Row). Some (get_or l 0 x)) is

-- the record of the first entry is the one
pub one_there : (P : Row → Type 0) (made : Row → List ℕ × List ℕ) (one : Option Row)
    (es : List Entry) (e : Entry) → AllByRecursion P (list_of_one one)
    → es ≡ map (λ (r : Row). entry_of (made r)) (list_of_one one) → slice_get es 0 ≡ Some e
    → (r : Row) × (one ≡ Some r) × P r × (e ≡ entry_of (made r))
one_there P made one es e all is there =
    let at = row_of P made (list_of_one one) es 0 e all is there in
    (at.row, one_is one at.row at.more, at.fits, at.is)

-- ---- the record at a key

module _ (file : FileDef) (t : Tree AnyMapping) (leaves : ℕ) (maps : List LeafMap) (f : File)
    (storable : IsStorable file) (tree : IsTreeFor file t leaves) (is : IsInternal file t maps f)
    (p : Place) (are : ArePlaces 0 t (p ∷ [])) (k : Value) (span : Span)
    (fit : Fits (key_kind file) k) (lo : span.lo ≡ bytes_of k) (hi : span.hi ≡ bytes_of k) where
  those : IsPermutation (rows_inside span f) (filter (is_key_inside span) (rows_at t p.leaf f))
  those =
      let inside = is_key_inside span in
      let some = filter (is_key_inside span) (rows_at t p.leaf f) in
      let chosen = place_chosen t inside f (p ∷ []) 0 p [] some
      (subst IsOnce (sym are.leaves) (data_once t tree.valid)) (omega arith) refl
      (none_chosen t inside f [] refl) refl in
      all_chosen t inside f (p ∷ []) 1 some (omega arith)
      (leaf_there file t leaves maps f storable tree is.fit (p ∷ []) are) chosen

  pub rows_one : filter (is_key_inside span) (rows_at t p.leaf f) ≡ list_of_one
      (option_map (λ (values : List Value). (k, values)) (fin.get f k))
  rows_one = one_at_key file f k span storable.key fit is.fit lo hi _ those
      ∙ row_found k (fin.get f k)

  pub steps_one : (most before now : ℕ) → HaveAtMost most t f
      → now ≤ before + (1 + length (filter (is_key_inside span) (rows_at t p.leaf f)))
      → now ≤ before + (length (leaves_of t) + most)
  steps_one most before now few step =
      let inside = is_key_inside span in
      let many = length_permutation (rows_inside span f) _ those in
      let one = whole_most file t f most (p ∷ []) (rows_inside span f) are tree.form storable.keyed
      is.fit few (λ r h. (in_filter inside r (fin.entries f) h).0) in
      steps_at_key file f k span storable.key fit is.fit lo hi (length (leaves_of t)) most before
      now
      (omega (arith, step, many, one, ap length are.leaves, length-map (p ∷ []) number, data_few t))
