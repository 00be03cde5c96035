-- The places of a transposition's children, and what is read of the entries in its columns.
use Rattle.std.proofs.Common.{[], ◌≡◌, ℕ, Bool, zero, suc, ◌+◌, ◌<◌, ◌≤◌, List, ◌∷◌, ◌++◌, length, take, drop, get_or, map, Option, Some, refl, sym, ap, subst, ◌∙◌, arith, append_assoc}
use Rattle.std.specs.Prelude.{filter, slice_get}
use Rattle.std.specs.List.{AllByRecursion}
use Rattle.std.proofs.lemmas.Grind.{flat_map-append}
use Rattle.std.proofs.lemmas.List.{length-map, take_all, take_more}
use Rattle.std.proofs.lemmas.List.Elements.{filter-append}
use Rattle.std.proofs.lemmas.Option.{same_Some}
use Rattle.gx_laws.proofs.ListLemmas.{get_or_any}
use Rattle.gx_values.specs.declared.values.Code.{Code}
use Rattle.gx_values.specs.declared.values.Value.{Value}
use Rattle.gx_values.specs.declared.records.Field.{Field}
use Rattle.gx_values.specs.declared.records.Form.{Form}
use Rattle.gx_values.specs.Values.{Fits, AreFit, no_field, no_value}
use Rattle.gx_values.specs.Keys.{bytes_of, IsKeyKind, AreKeyFields}
use Rattle.gx_schema.specs.declared.schema.FileDef.{FileDef}
use Rattle.gx_schema.specs.Lookups.{data_fields}
use Rattle.gx_ports.specs.declared.leaves.Entry.{Entry}
use Rattle.gx_ports.specs.LeafMaps.{entry_of}
use Rattle.gx_actual.specs.Bodies.{field_bytes, body_of}
use Rattle.gx_mapping.specs.Rule.{Rule}
use Rattle.gx_mapping.proofs.FieldLemmas.{fit_length}
use Rattle.gx_split.specs.TransposeRules.{transpose_rule, form_of, rule_of}
use Rattle.gx_split.specs.declared.layer.Transpose.{Transpose}
use Rattle.gx_stack.specs.declared.node.Node.{Node}
use Rattle.gx_stack.specs.declared.node.LayerNode.{LayerNode}
use Rattle.gx_stack.specs.declared.node.Node.TheVariants as nodes
use Rattle.gx_stack.specs.Tree.{tree_form, IsValid}
use Rattle.gx_stack.specs.Seen.{tree_of, kids_from}
use Rattle.gx_stack.proofs.Seen.{seen_layer, layer_form, count_kids, child_there, child_valid}
use Rattle.gx_gather.proofs.Lists.{none_some}
use Rattle.gx_types.specs.declared.any.AnyMapping.{AnyMapping}
use Rattle.gx_types.specs.declared.any.AnyMapping.TheVariants as any
use Rattle.gx_types.specs.Any.{any_rule}
use Rattle.gx_model.specs.States.{Row, IsRowOf}
use Rattle.gx_scan.specs.declared.places.Place.{Place}
use Rattle.gx_scan.specs.Entries.{ArePlaces}
use Rattle.gx_codec.specs.Stored.{code_at, stored_value, stored_values, HasCode, HaveCodes}
use Rattle.gx_scan.specs.Columns.{AreColumns, ArePlacesOfKids, AreColumnEntries, column_entry}
use Rattle.gx_scan.proofs.BothLemmas.{stored_front}
use Rattle.gx_codec.proofs.LayoutLemmas.{nothing_stored}
use Rattle.gx_scan.proofs.ColumnLemmas.{place_at, places_many, value_fits}
use Rattle.gx_scan.proofs.PlaceLemmas.{kids_many}
use Rattle.gx_scan.proofs.ScanLemmas.{row_of}

-- ---- the places of the children, one after the other

places_last : (ns : List (Node AnyMapping)) (ps : List Place) (k : Node AnyMapping) (p : Place)
    → ArePlacesOfKids (kids_from (map tree_of ns)) ps → ArePlaces 0 (tree_of k) (p ∷ [])
    → ArePlacesOfKids (kids_from (map tree_of (ns ++ k ∷ []))) (ps ++ p ∷ [])
places_last [] [] k p are one = (one, tt)
places_last [] (q ∷ ps) k p are one = absurd are
places_last (n ∷ ns) [] k p are one = absurd are
places_last (n ∷ ns) (q ∷ ps) k p are one = (are.0, places_last ns ps k p are.1 one)

pub places_next : (ns : List (Node AnyMapping)) (i : ℕ) (ps : List Place) (k : Node AnyMapping)
    (p : Place) → i < length ns → k ≡ get_or ns i k
    → ArePlacesOfKids (kids_from (map tree_of (take i ns))) ps → ArePlaces 0 (tree_of k) (p ∷ [])
    → ArePlacesOfKids (kids_from (map tree_of (take (i + 1) ns))) (ps ++ p ∷ [])
places_next ns i ps k p lt read are one =
    let more : take (i + 1) ns ≡ take i ns ++ k ∷ [] =
    take_more ns i k lt ∙ ap (λ (n : Node AnyMapping). take i ns ++ n ∷ []) (sym read) in
    subst (λ (l : List (Node AnyMapping)). ArePlacesOfKids (kids_from (map tree_of l))
    (ps ++ p ∷ [])) (sym more) (places_last (take i ns) ps k p are one)

key_at : (fs : List Field) (c : ℕ) (d : Field) → c < length fs → AreKeyFields fs
    → IsKeyKind (get_or fs c d).kind
key_at [] c d lt are = absurd (omega arith)
key_at (f ∷ fs) zero d lt are = are.0
key_at (f ∷ fs) (suc c) d lt are = key_at fs c d (omega arith) are.1

module _ (node : Node AnyMapping) (l : LayerNode AnyMapping) (m : Transpose)
    (is : node ≡ nodes.Layer l) (splits : l.mapping ≡ any.Transpose m)
    (valid : IsValid any_rule (tree_of node)) where
  rule_is : any_rule l.mapping ≡ rule_of m
  rule_is = ap any_rule splits

  node_form : tree_form any_rule (tree_of node) ≡ form_of m
  node_form = layer_form any_rule node l is ∙ ap (λ (rule : Rule). rule.form) rule_is

  kids_are : (any_rule l.mapping).kids ≡ length (form_of m).fields
  kids_are = ap (λ (rule : Rule). rule.kids) rule_is

  pub kid_there : (c : ℕ) → c < (any_rule l.mapping).kids → c < length l.kids.items
  kid_there c lt = child_there any_rule node l is c valid lt

  -- a child is valid, and its records have ints and texts alone
  pub kid_valid : (c : ℕ) (k : Node AnyMapping) → c < (any_rule l.mapping).kids
      → k ≡ get_or l.kids.items c k → AreKeyFields (tree_form any_rule (tree_of node)).fields
      → IsValid any_rule (tree_of k) × AreKeyFields (tree_form any_rule (tree_of k)).fields
  kid_valid c k lt read are =
      let v = child_valid any_rule node l is c k valid (kid_there c lt) read in
      let keys = subst (λ (form : Form). AreKeyFields form.fields) node_form are in (
        v.1,
        subst (λ (form : Form). AreKeyFields form.fields)
            (sym (v.0 ∙ ap (λ (rule : Rule). rule.kid_form c) rule_is))
            (key_at (form_of m).fields c no_field (omega (arith, lt, kids_are)) keys, tt),
      )

  pub columns_made : (ps : List Place) (i : ℕ) → (any_rule l.mapping).kids ≤ i
      → ArePlacesOfKids (kids_from (map tree_of (take i l.kids.items))) ps
      → AreColumns (tree_of node) ps
  columns_made ps i end are =
      let many = kids_many node l is valid in
      let all = subst (λ (ns : List (Node AnyMapping)). ArePlacesOfKids
      (kids_from (map tree_of ns)) ps)
      (take_all i l.kids.items (omega (arith, many, end))) are in
      let count = places_many (kids_from (map tree_of l.kids.items)) ps all
      ∙ count_kids l.kids.items ∙ many ∙ kids_are in
      record {
        mapping = l.mapping;
        kids = kids_from (map tree_of l.kids.items);
        tree = seen_layer node l is;
        splits = rule_is ∙ ap transpose_rule (sym node_form);
        some = omega (arith, count, m.some);
        long = count ∙ ap (λ (form : Form). length form.fields) (sym node_form);
        each = all;
      }

-- ---- the one value of an entry

pub alone_stored : (cs : List (Option Code)) (v : Value) → HaveCodes cs (v ∷ [])
    → HasCode (code_at cs 0) v × (body_of (stored_values cs (v ∷ []))
    ≡ field_bytes (stored_value (code_at cs 0) v) ++ [])
alone_stored cs v have =
    let front = stored_front cs v [] have in (
      front.0,
      ap body_of (front.2 ∙ ap (λ (l : List Value). stored_value (code_at cs 0) v ∷ l)
          (nothing_stored (drop 1 cs))),
    )

-- the value of a field of a record fits it
pub field_fits : (fields fs : List Field) (vs : List Value) (i : ℕ) (f : Field) → fields ≡ fs
    → AreFit fs vs → i < length fields → f ≡ get_or fields i f
    → Fits f.kind (get_or vs i no_value)
field_fits fields fs vs i f same fit lt item =
    let all = subst (λ (l : List Field). AreFit l vs) (sym same) fit in
    subst (λ (g : Field). Fits g.kind (get_or vs i no_value)) (sym item)
    (value_fits fields vs i f all lt)

-- ---- the entries of one record

get_mapped : {A B : Type 0} (f : A → B) (xs : List A) (i : ℕ) (x : A) → slice_get xs i ≡ Some x
    → slice_get (map f xs) i ≡ Some (f x)
get_mapped f [] i x h = absurd (none_some x h)
get_mapped f (y ∷ xs) zero x h = ap (λ z. Some (f z)) (same_Some y x h)
get_mapped f (y ∷ xs) (suc i) x h = get_mapped f xs i x h

-- the entry of a record in a column
pub entry_there : (ps : List Place) (columns : List (List Entry)) (rs : List Row) (i : ℕ) (r : Row)
    (c : ℕ) (p : Place) (es : List Entry) → AreColumnEntries ps columns rs
    → slice_get rs i ≡ Some r → c < length ps → p ≡ get_or ps c p → es ≡ get_or columns c es
    → slice_get es i ≡ Some (entry_of (column_entry p c r))
entry_there ps columns rs i r c p es are there lt item read =
    let same : es ≡ get_or columns c [] =
    read ∙ get_or_any columns c es [] (omega (arith, lt, are.long)) in
    ap (λ (l : List Entry). slice_get l i) (same ∙ are.each c p lt item)
    ∙ get_mapped (λ (q : Row). entry_of (column_entry p c q)) rs i r there

-- the first column
pub first_is : (ps : List Place) (columns : List (List Entry)) (rs : List Row) (p : Place)
    (es : List Entry) → AreColumnEntries ps columns rs → 0 < length ps → p ≡ get_or ps 0 p
    → es ≡ get_or columns 0 es → es ≡ map (λ (q : Row). entry_of (column_entry p 0 q)) rs
first_is ps columns rs p es are some item read =
    read ∙ get_or_any columns 0 es [] (omega (arith, some, are.long)) ∙ are.each 0 p some item

pub taken_get : (rs : List Row) (i : ℕ) (r : Row) → take (i + 1) rs ≡ take i rs ++ r ∷ []
    → slice_get rs i ≡ Some r
taken_get rs i r more =
    let next : i + 1 ≡ suc i = omega arith in
    go rs i (sym (ap (λ n. take n rs) next) ∙ more)
  where
    go : (rs : List Row) (i : ℕ) → take (suc i) rs ≡ take i rs ++ r ∷ [] → slice_get rs i ≡ Some r
    go [] zero more = absurd (omega (arith, ap length more))
    go [] (suc i) more = absurd (omega (arith, ap length more))
    go (x ∷ rs) zero more = ap Some (ap (λ (l : List Row). get_or l 0 r) more)
    go (x ∷ rs) (suc i) more = go rs i (ap (λ (l : List Row). drop 1 l) more)

-- the record whose entry in the first column this is
pub record RowOf (file : FileDef) (ps : List Place) (rs : List Row) (i : ℕ) (e : Entry) : Type 0
  where
    pub row : Row
    pub fits : IsRowOf file row
    pub key : e.key ≡ bytes_of row.0
    pub there : slice_get rs i ≡ Some row
    pub long : length row.1 ≡ length ps
    pub more : take (i + 1) rs ≡ take i rs ++ row ∷ []

pub row_at : (file : FileDef) (ps : List Place) (columns : List (List Entry)) (rs : List Row)
    (es : List Entry) (i : ℕ) (e : Entry) → 0 < length ps → length ps ≡ length (data_fields file)
    → AllByRecursion (IsRowOf file) rs → AreColumnEntries ps columns rs → es ≡ get_or columns 0 es
    → slice_get es i ≡ Some e → RowOf file ps rs i e
row_at file ps columns rs es i e some many fit are read there =
    let p = place_at ps 0 some in
    let at = row_of (IsRowOf file) (column_entry p.0 0) rs es i e fit
    (first_is ps columns rs p.0 es are some p.1 read) there in
    record {
      row = at.row;
      fits = at.fits;
      key = ap (λ (x : Entry). x.key) at.is ∙ entry_key_of p.0 at.row;
      there = taken_get rs i at.row at.more;
      long = sym (fit_length (data_fields file) at.row.1 at.fits.1) ∙ sym many;
      more = at.more;
    }
  where
    entry_key_of : (p : Place) (r : Row) → (column_entry p 0 r).0 ≡ bytes_of r.0
    entry_key_of p r = refl

-- one record more was tested
pub rows_more : (meets : Row → Bool) (rs before rows after : List Row) (i : ℕ) (r : Row)
    → rows ≡ before ++ filter meets (take i rs) → after ≡ rows ++ filter meets (r ∷ [])
    → take (i + 1) rs ≡ take i rs ++ r ∷ [] → after ≡ before ++ filter meets (take (i + 1) rs)
rows_more meets rs before rows after i r so_far added more =
    added ∙ ap (λ (l : List Row). l ++ filter meets (r ∷ [])) so_far
    ∙ append_assoc before (filter meets (take i rs)) (filter meets (r ∷ []))
    ∙ ap (λ (l : List Row). before ++ l)
    (sym (ap (filter meets) more ∙ filter-append meets (take i rs) (r ∷ [])))

-- all records were
pub rows_all : (ps : List Place) (columns : List (List Entry)) (rs : List Row) (es : List Entry)
    (i : ℕ) → 0 < length ps → AreColumnEntries ps columns rs → es ≡ get_or columns 0 es
    → length es ≤ i → take i rs ≡ rs
rows_all ps columns rs es i some are read le =
    let p = place_at ps 0 some in
    take_all i rs (omega (
      arith,
      le,
      ap length (first_is ps columns rs p.0 es are some p.1 read),
      length-map rs (λ (q : Row). entry_of (column_entry p.0 0 q)),
    ))

-- one value more
pub value_pushed : (vs : List Value) (i : ℕ) (before items after bytes : List ℕ) → i < length vs
    → items ≡ before ++ body_of (take i vs) → bytes ≡ body_of (get_or vs i no_value ∷ [])
    → after ≡ items ++ bytes → after ≡ before ++ body_of (take (i + 1) vs)
value_pushed vs i before items after bytes lt so_far is pushed =
    let last = get_or vs i no_value ∷ [] in
    pushed ∙ (λ j. so_far j ++ is j) ∙ append_assoc before (body_of (take i vs)) (body_of last)
    ∙ ap (λ (l : List ℕ). before ++ l) (sym (ap body_of (take_more vs i no_value lt)
    ∙ flat_map-append field_bytes (take i vs) last))
