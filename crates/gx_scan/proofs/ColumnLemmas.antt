-- The entries of records whose data fields stand each alone in a leaf.
use Rattle.std.proofs.Common.{[], ◌≡◌, ℕ, zero, suc, ◌+◌, ◌*◌, ◌<◌, ◌≤◌, List, ◌∷◌, ◌++◌, ◌⊎◌, length, length-append, get_or, map, cond, Option, None, Some, inl, inr, refl, sym, ap, subst, ◌∙◌, arith}
use Rattle.std.specs.Prelude.{slice_get}
use Rattle.std.specs.FinMap as fin
use Rattle.std.specs.List.{AllByRecursion, flat_map, sum_by}
use Rattle.std.specs.Option.{option_map}
use Rattle.std.specs.declared.cmp.Ordering.TheVariants.{Less}
use Rattle.std.proofs.Math.Nat.{mul-le-mul_right}
use Rattle.std.proofs.lemmas.Bool.{eq-eqb, ne_eqb}
use Rattle.std.proofs.lemmas.List.{length-map, get_or-map}
use Rattle.std.proofs.lemmas.List.Sorted.{IsPermutation-refl}
use Rattle.std.proofs.lemmas.List.Sums.{sum_by-cons}
use Rattle.std.proofs.lemmas.Option.{same_Some}
use Rattle.gx_values.specs.declared.values.Value.{Value}
use Rattle.gx_values.specs.declared.records.Field.{Field}
use Rattle.gx_values.specs.declared.records.Form.{Form}
use Rattle.gx_values.specs.declared.records.Rec.{Rec}
use Rattle.gx_values.specs.declared.keys.Span.{Span}
use Rattle.gx_values.specs.Values.{value_cmp, Fits, AreFit, no_field, no_value}
use Rattle.gx_values.specs.Keys.{bytes_of}
use Rattle.gx_values.proofs.OrderLemmas.{value_cmp_same}
use Rattle.gx_schema.specs.declared.schema.FileDef.{FileDef}
use Rattle.gx_schema.specs.Lookups.{key_kind, data_fields}
use Rattle.gx_ports.specs.declared.leaves.Entry.{Entry}
use Rattle.gx_ports.specs.LeafMaps.{LeafMap, map_at, entry_of, selected}
use Rattle.gx_mapping.specs.declared.parts.Part.{Part}
use Rattle.gx_mapping.specs.Rule.{Rule, In, IsOf}
use Rattle.gx_mapping.proofs.RuleLemmas.{all_in}
use Rattle.gx_split.specs.Forms.{column_form}
use Rattle.gx_mapping.proofs.FieldLemmas.{fit_length}
use Rattle.gx_split.specs.TransposeRules.{column_part, columns, transpose_rule}
use Rattle.gx_stack.specs.declared.entries.LeafEntry.{LeafEntry}
use Rattle.gx_stack.specs.Tree.{Tree, Kids, layer, kid, no_kids, kid_count, leaves_of, kids_leaves, tree_form, entries_of, kid_entries, IsValid, AreValid}
use Rattle.gx_stack.specs.Internal.{IsUnion, parts_for, child_records, AreInternal}
use Rattle.gx_stack.specs.Internal.{IsInternal as IsHeld}
use Rattle.gx_stack.proofs.Children.{union_from_internal}
use Rattle.gx_gather.proofs.Lists.{in_left, in_right, in_map, from_map, in_filter, all_of, in_contains, none_some}
use Rattle.gx_gather.proofs.Orders.{Ascends}
use Rattle.gx_gather.proofs.Entries.{find_in}
use Rattle.gx_types.specs.declared.any.AnyMapping.{AnyMapping}
use Rattle.gx_types.specs.Any.{any_rule}
use Rattle.gx_model.specs.States.{File, Row, IsRowOf}
use Rattle.gx_scan.specs.declared.places.Place.{Place}
use Rattle.gx_scan.specs.Files.{rec_of, file_records, IsStorable, IsTreeFor, IsInternal}
use Rattle.gx_scan.specs.Records.{list_of_one}
use Rattle.gx_scan.specs.Steps.{HaveAtMost, is_key_inside, rows_inside}
use Rattle.gx_scan.specs.Entries.{ArePlaces, entry_of_row}
use Rattle.gx_codec.specs.Stored.{HaveCodes}
use Rattle.gx_scan.specs.Columns.{AreColumns, ArePlacesOfKids, AreColumnEntries, column_row, column_entry}
use Rattle.gx_scan.proofs.FileLemmas.{set_of}
use Rattle.gx_scan.proofs.EntryLemmas.{filter_map, map_joined, span_entries}
use Rattle.gx_scan.proofs.GroupLemmas.{alone_coded, alone_some, alone_entries}
use Rattle.gx_scan.proofs.KeyLemmas.{one_at_key, row_found, steps_at_key}
use Rattle.gx_scan.proofs.PlaceLemmas.{key_cmp, entries_ascend, data_in, data_few}

-- ---- the children and their places

pub places_many : (kids : Kids AnyMapping) (ps : List Place) → ArePlacesOfKids kids ps
    → length ps ≡ kid_count kids
places_many no_kids [] are = refl
places_many no_kids (p ∷ ps) are = absurd are
places_many (kid t kids) [] are = absurd are
places_many (kid t kids) (p ∷ ps) are = ap suc (places_many kids ps are.1)

place_in : (kids : Kids AnyMapping) (ps : List Place) (p : Place) → ArePlacesOfKids kids ps
    → In p ps → In p.leaf (kids_leaves kids)
place_in no_kids [] p are h = absurd h
place_in no_kids (q ∷ ps) p are h = absurd are
place_in (kid t kids) [] p are h = absurd are
place_in (kid t kids) (q ∷ ps) p are (inl same) =
    in_left p.leaf (leaves_of t) (kids_leaves kids) (data_in t p.leaf
    (subst (In p.leaf) are.0.leaves (inl (ap (λ (x : Place). x.leaf) same))))
place_in (kid t kids) (q ∷ ps) p are (inr h) =
    in_right p.leaf (leaves_of t) (kids_leaves kids) (place_in kids ps p are.1 h)

leaves_many : (kids : Kids AnyMapping) (ps : List Place) → ArePlacesOfKids kids ps
    → length ps ≤ length (kids_leaves kids)
leaves_many no_kids [] are = omega arith
leaves_many no_kids (p ∷ ps) are = absurd are
leaves_many (kid t kids) [] are = absurd are
leaves_many (kid t kids) (p ∷ ps) are = omega (
  arith,
  ap length are.0.leaves,
  data_few t,
  leaves_many kids ps are.1,
  length-append (leaves_of t) (kids_leaves kids),
)

-- the leaf of a column is one of the tree
pub column_there : (t : Tree AnyMapping) (ps : List Place) (p : Place) → AreColumns t ps → In p ps
    → In p.leaf (leaves_of t)
column_there t ps p are h = subst (λ t. In p.leaf (leaves_of t)) (sym are.tree)
    (place_in are.kids ps p are.each h)

-- there is one for each data field
pub columns_many : (file : FileDef) (t : Tree AnyMapping) (ps : List Place) (leaves : ℕ)
    → IsTreeFor file t leaves → AreColumns t ps → length ps ≡ length (data_fields file)
columns_many file t ps leaves tree are =
    are.long ∙ ap (λ (x : Form). length x.fields) tree.form

-- a child at a number, its place, and what its leaves hold
pub record KidAt (kids : Kids AnyMapping) (forms : ℕ → Form) (Rs : ℕ → List Rec)
    (maps : List LeafMap) (c : ℕ) (p : Place) : Type 0 where
  pub tree : Tree AnyMapping
  pub place : ArePlaces 0 tree (p ∷ [])
  pub form : tree_form any_rule tree ≡ forms c
  pub held : IsHeld any_rule tree (Rs c) maps
  pub entries : (r : Rec) → kid_entries any_rule kids c r ≡ entries_of any_rule tree r

kid_at : (kids : Kids AnyMapping) (forms : ℕ → Form) (Rs : ℕ → List Rec) (maps : List LeafMap)
    (ps : List Place) (c : ℕ) (p : Place) → ArePlacesOfKids kids ps → AreValid any_rule forms kids
    → AreInternal any_rule kids Rs maps → c < length ps → p ≡ get_or ps c p
    → KidAt kids forms Rs maps c p
kid_at no_kids forms Rs maps [] c p are valid held lt item = absurd (omega arith)
kid_at no_kids forms Rs maps (q ∷ ps) c p are valid held lt item = absurd are
kid_at (kid t kids) forms Rs maps [] c p are valid held lt item = absurd are
kid_at (kid t kids) forms Rs maps (q ∷ ps) zero p are valid held lt item = record {
  tree = t;
  place = subst (λ (x : Place). ArePlaces 0 t (x ∷ [])) (sym item) are.0;
  form = valid.0;
  held = held.0;
  entries = λ r. refl;
}
kid_at (kid t kids) forms Rs maps (q ∷ ps) (suc c) p are valid held lt item =
    let x = kid_at kids (λ (n : ℕ). forms (suc n)) (λ (n : ℕ). Rs (suc n)) maps ps c p are.1
    valid.3 held.1 (omega arith) item in
    record {
      tree = x.tree;
      place = x.place;
      form = x.form;
      held = x.held;
      entries = x.entries;
    }

pub place_at : (ps : List Place) (c : ℕ) → c < length ps → (p : Place) × (p ≡ get_or ps c p)
place_at [] c lt = absurd (omega arith)
place_at (p ∷ ps) zero lt = (p, refl)
place_at (p ∷ ps) (suc c) lt = place_at ps c (omega arith)

-- ---- the records that go to a child

abbrev column_rec : List Value → Value → Rec
column_rec key v = record { key = key; fields = v ∷ [] }

no_part : (key : List Value) (i c : ℕ) (vs : List Value) → c < i
    → parts_for c (columns key i vs) ≡ []
no_part key i c [] lt = refl
no_part key i c (v ∷ vs) lt =
    let rest = parts_for c (columns key (suc i) vs) in
    ap (λ b. cond b (column_rec key v ∷ rest) rest) (ne_eqb i c (λ e. omega (arith, lt, e)))
    ∙ no_part key (suc i) c vs (omega arith)

part_at : (key : List Value) (i at c : ℕ) (vs : List Value) → c ≡ i + at → at < length vs
    → parts_for c (columns key i vs) ≡ column_rec key (get_or vs at no_value) ∷ []
part_at key i at c [] is lt = absurd (omega arith)
part_at key i zero c (v ∷ vs) is lt =
    let rest = parts_for c (columns key (suc i) vs) in
    let same : i ≡ c = omega arith in
    ap (λ b. cond b (column_rec key v ∷ rest) rest) (eq-eqb i c same)
    ∙ ap (λ (l : List Rec). column_rec key v ∷ l) (no_part key (suc i) c vs (omega arith))
part_at key i (suc at) c (v ∷ vs) is lt =
    let rest = parts_for c (columns key (suc i) vs) in
    ap (λ b. cond b (column_rec key v ∷ rest) rest) (ne_eqb i c (λ e. omega (arith, is, e)))
    ∙ part_at key (suc i) at c vs (omega arith) (omega arith)

column_records : (form : Form) (c : ℕ) (rs : List Row) → ((r : Row) → In r rs → c < length r.1)
    → child_records (transpose_rule form) c (map rec_of rs) ≡ map rec_of (map (column_row c) rs)
column_records form c [] long = refl
column_records form c (r ∷ rs) long =
    let first = part_at (r.0 ∷ []) 0 c c r.1 (omega arith) (long r (inl refl)) in
    let others = column_records form c rs (λ q h. long q (inr h)) in
    λ j. first j ++ others j

-- ---- rows of one column

column_below : (c : ℕ) (x : Row) (rs : List Row) → AllByRecursion (λ r. key_cmp x r ≡ Less) rs
    → AllByRecursion (λ r. key_cmp (column_row c x) r ≡ Less) (map (column_row c) rs)
column_below c x [] h = tt
column_below c x (r ∷ rs) h = (h.0, column_below c x rs h.1)

column_ascends : (c : ℕ) (rs : List Row) → Ascends key_cmp rs
    → Ascends key_cmp (map (column_row c) rs)
column_ascends c [] a = tt
column_ascends c (r ∷ rs) a = (column_below c r rs a.0, column_ascends c rs a.1)

pub value_fits : (fs : List Field) (vs : List Value) (c : ℕ) (d : Field) → AreFit fs vs
    → c < length fs → Fits (get_or fs c d).kind (get_or vs c no_value)
value_fits [] vs c d fit lt = absurd (omega arith)
value_fits (f ∷ fs) [] c d fit lt = absurd fit
value_fits (f ∷ fs) (v ∷ vs) zero d fit lt = fit.0
value_fits (f ∷ fs) (v ∷ vs) (suc c) d fit lt = value_fits fs vs c d fit.1 (omega arith)

-- each part has an entry
each_some : (g : Part → List LeafEntry) (key : List Value) (i : ℕ) (vs : List Value)
    → ((at c : ℕ) → c ≡ i + at → at < length vs
    → 1 ≤ length (g (column_part key c (get_or vs at no_value))))
    → length vs ≤ length (flat_map g (columns key i vs))
each_some g key i [] some = omega arith
each_some g key i (v ∷ vs) some =
    let one = some 0 i (omega arith) (omega arith) in
    let rest = each_some g key (suc i) vs
    (λ at c is lt. some (suc at) c (omega (arith, is)) (omega (arith, lt))) in
    omega (
      arith,
      one,
      rest,
      length-append (g (column_part key i v)) (flat_map g (columns key (suc i) vs)),
    )

-- as many entries in each
sum_same : (g : Place → List Entry) (n : ℕ) (ps : List Place)
    → ((p : Place) → In p ps → length (g p) ≡ n) → sum_by length (map g ps) ≡ length ps * n
sum_same g n [] same = omega arith
sum_same g n (p ∷ ps) same =
    let one = same p (inl refl) in
    let rest = sum_same g n ps (λ q h. same q (inr h)) in
    omega (arith, one, rest, sum_by-cons {X = List Entry} length (g p) (map g ps))

-- ---- a record that is looked for

pub found_cases : (o : Option (List Value)) → (o ≡ None) ⊎ ((vs : List Value) × (o ≡ Some vs))
found_cases None = inl refl
found_cases (Some vs) = inr (vs, refl)

module _ (file : FileDef) (t : Tree AnyMapping) (ps : List Place) (leaves : ℕ)
    (maps : List LeafMap) (f : File) (storable : IsStorable file) (tree : IsTreeFor file t leaves)
    (is : IsInternal file t maps f) (are : AreColumns t ps) where
  abbrev all_rows : List Row
  all_rows = fin.entries f

  abbrev form : Form
  form = tree_form any_rule t

  valid : IsValid any_rule (layer are.mapping are.kids)
  valid = subst (IsValid any_rule) are.tree tree.valid

  held : IsHeld any_rule (layer are.mapping are.kids) (file_records f) maps
  held = subst (λ t. IsHeld any_rule t (file_records f) maps) are.tree is.held

  pub row_fit : (r : Row) → In r all_rows → IsRowOf file r
  row_fit r h = all_in (IsRowOf file) all_rows r is.fit h

  row_of_tree : (r : Row) → In r all_rows → IsOf form (rec_of r)
  row_of_tree r h = subst (λ form. IsOf form (rec_of r)) (sym tree.form)
      ((set_of file f storable.keyed is.fit).fits (rec_of r) (in_map rec_of r all_rows h))

  row_long : (r : Row) → In r all_rows → length r.1 ≡ length ps
  row_long r h = sym (fit_length form.fields r.1 (row_of_tree r h).fields) ∙ sym are.long

  rows_order : Ascends key_cmp all_rows
  rows_order = entries_ascend value_cmp all_rows (fin.entries_sorted f)

  pub rows_fit_inside : (span : Span) → AllByRecursion (IsRowOf file) (rows_inside span f)
  rows_fit_inside span = all_of (IsRowOf file) (rows_inside span f)
      (λ r h. row_fit r (in_filter (is_key_inside span) r all_rows h).0)

  module _ (c : ℕ) (p : Place) (lt : c < length ps) (item : p ≡ get_or ps c p) where
    column : KidAt are.kids ((any_rule are.mapping).kid_form)
        (λ (n : ℕ). child_records (any_rule are.mapping) n (file_records f)) maps c p
    column = kid_at are.kids ((any_rule are.mapping).kid_form)
        (λ (n : ℕ). child_records (any_rule are.mapping) n (file_records f)) maps ps c p are.each
        valid.1 held lt item

    form_is : tree_form any_rule column.tree ≡ column_form form c
    form_is = column.form ∙ ap (λ (rule : Rule). rule.kid_form c) are.splits

    fits : (q : Row) → In q (map (column_row c) all_rows)
        → Fits (key_kind file) q.0 × IsOf (tree_form any_rule column.tree) (rec_of q)
    fits q h =
        let r = from_map (column_row c) q all_rows h in
        let fit = row_of_tree r.0 r.1 in
        let value = value_fits form.fields r.0.1 c no_field fit.fields
        (omega (arith, lt, are.long)) in
        subst (λ (x : Row). Fits (key_kind file) x.0
        × IsOf (tree_form any_rule column.tree) (rec_of x)) (sym r.2) (
          (row_fit r.0 r.1).0,
          subst (λ form. IsOf form (rec_of (column_row c r.0))) (sym form_is)
              (record { key = fit.key; fields = (value, tt) }),
        )

    order : Ascends key_cmp (map (column_row c) all_rows)
    order = column_ascends c all_rows rows_order

    union : IsUnion any_rule column.tree (map rec_of (map (column_row c) all_rows)) maps
    union = subst (λ R. IsUnion any_rule column.tree R maps)
        (ap (λ (rule : Rule). child_records rule c (file_records f)) are.splits
        ∙ column_records form c all_rows (λ r h. omega (arith, lt, row_long r h)))
        (union_from_internal any_rule column.tree _ maps column.held)

    column_leaf : fin.entries (map_at maps p.leaf)
        ≡ map (entry_of_row p.lengths p.codes) (map (column_row c) all_rows)
    column_leaf = alone_entries column.tree p maps (key_kind file) (map (column_row c) all_rows)
        column.place storable.key fits order union

    -- the entries within a span are those of the records within it
    pub column_selected : (span : Span) → selected span.lo span.hi (map_at maps p.leaf)
        ≡ map (λ (r : Row). entry_of (column_entry p c r)) (rows_inside span f)
    column_selected span =
        let entry = λ (r : Row). entry_of (entry_of_row p.lengths p.codes r) in
        span_entries (map_at maps p.leaf) p.lengths p.codes (map (column_row c) all_rows) span.lo
        span.hi [] _ _ column_leaf refl refl refl
        ∙ ap (map entry) (filter_map (is_key_inside span) (column_row c) all_rows)
        ∙ map_joined entry (column_row c) (rows_inside span f)

    -- the value of a record has the codes of its place
    pub column_coded : (r : Row) → In r all_rows → HaveCodes p.codes (get_or r.1 c no_value ∷ [])
    column_coded r h = alone_coded column.tree p maps (key_kind file)
        (map (column_row c) all_rows) column.place storable.key fits order union (column_row c r)
        (in_map (column_row c) r all_rows h)

    column_some : (r : Row) → In r all_rows
        → 1 ≤ length (kid_entries any_rule are.kids c (rec_of (column_row c r)))
    column_some r h = omega (
      arith,
      ap length (column.entries (rec_of (column_row c r))),
      alone_some column.tree p maps (key_kind file) (map (column_row c) all_rows) column.place
          storable.key fits order union (column_row c r) (in_map (column_row c) r all_rows h),
    )

  -- ---- how many entries they are

  row_most : (most : ℕ) → HaveAtMost most t f → (r : Row) → In r all_rows → length ps ≤ most
  row_most most few r h =
      let g = λ (p : Part). kid_entries any_rule are.kids p.child p.rec in
      let made : entries_of any_rule t (rec_of r) ≡ flat_map g (columns (r.0 ∷ []) 0 r.1) =
      ap (λ t. entries_of any_rule t (rec_of r)) are.tree
      ∙ ap (λ (rule : Rule). flat_map g (rule.parts (rec_of r))) are.splits in
      let many = each_some g (r.0 ∷ []) 0 r.1 (λ at c same lt.
      let p = place_at ps c (omega (arith, same, lt, row_long r h)) in
      let here : c ≡ at = omega (arith, same) in
      subst (λ (n : ℕ). 1 ≤ length (g (column_part (r.0 ∷ []) c (get_or r.1 n no_value)))) here
      (column_some c p.0 (omega (arith, same, lt, row_long r h)) p.1 r h)) in
      omega (arith, few r h, ap length made, many, row_long r h)

  rows_most : (most : ℕ) → HaveAtMost most t f → (rs : List Row)
      → ((r : Row) → In r rs → In r all_rows) → length rs * length ps ≤ length rs * most
  rows_most most few [] there = omega arith
  rows_most most few (r ∷ rs) there =
      let one = row_most most few r (there r (inl refl)) in
      let rest = rows_most most few rs (λ q h. there q (inr h)) in
      omega (arith, one, rest)

  -- a step for each of some columns, and for each entry there within the span
  pub steps_inside : (span : Span) (most i : ℕ) → HaveAtMost most t f → i ≤ length ps
      → i + i * length (rows_inside span f)
      ≤ length (leaves_of t) + length (rows_inside span f) * most
  steps_inside span most i few le =
      let n = length (rows_inside span f) in
      let all = rows_most most few (rows_inside span f)
      (λ r h. (in_filter (is_key_inside span) r all_rows h).0) in
      let some : i * n ≤ length ps * n = mul-le-mul_right n le in
      omega (
        arith,
        le,
        all,
        some,
        ap (λ t. length (leaves_of t)) are.tree,
        leaves_many are.kids ps are.each,
      )

  -- ---- the entries of all columns within a span

  abbrev selected_at : Span → Place → List Entry
  selected_at span p = selected span.lo span.hi (map_at maps p.leaf)

  pub entries_inside : (span : Span) (found : List (List Entry)) → found ≡ map (selected_at span) ps
      → AreColumnEntries ps found (rows_inside span f)
  entries_inside span found same = record {
    long = ap length same ∙ length-map ps (selected_at span);
    each = λ c p lt item. ap (λ (l : List (List Entry)). get_or l c []) same
        ∙ get_or-map (selected_at span) ps c p [] lt ∙ ap (selected_at span) (sym item)
        ∙ column_selected c p lt item span;
  }

  pub entries_many : (span : Span) (found : List (List Entry)) → found ≡ map (selected_at span) ps
      → sum_by length found ≡ length ps * length (rows_inside span f)
  entries_many span found same =
      ap (sum_by length) same
      ∙ sum_same (selected_at span) (length (rows_inside span f)) ps (λ p h.
      let at = in_contains p ps h in
      ap length (column_selected at.0 p at.1 (sym at.2) span)
      ∙ length-map (rows_inside span f) (λ (r : Row). entry_of (column_entry p at.0 r)))

  -- ---- the record at a key

  module _ (k : Value) (span : Span) (fit : Fits (key_kind file) k) (lo : span.lo ≡ bytes_of k)
      (hi : span.hi ≡ bytes_of k) where
    rows_are : (o : Option (List Value)) → fin.get f k ≡ o
        → rows_inside span f ≡ list_of_one (option_map (λ (vs : List Value). (k, vs)) o)
    rows_are o found = one_at_key file f k span storable.key fit is.fit lo hi (rows_inside span f)
        (IsPermutation-refl (rows_inside span f)) ∙ row_found k (fin.get f k)
        ∙ ap (λ (o : Option (List Value)). list_of_one
        (option_map (λ (vs : List Value). (k, vs)) o)) found

    pub row_there : (vs : List Value) → fin.get f k ≡ Some vs → In (k, vs) all_rows
    row_there vs found = find_in value_cmp_same k vs all_rows (sym (fin.get-entries f k) ∙ found)

    pub steps_key : (most i before after : ℕ) → HaveAtMost most t f → i ≤ length ps
        → after ≤ before + (i + i * length (rows_inside span f))
        → after ≤ before + (length (leaves_of t) + most)
    steps_key most i before after few le steps =
        let inside = steps_inside span most i few le in
        steps_at_key file f k span storable.key fit is.fit lo hi (length (leaves_of t)) most before
        after (omega (arith, inside, steps))

    -- what a search of a column finds
    module _ (c : ℕ) (p : Place) (lt : c < length ps) (item : p ≡ get_or ps c p)
        (es : List Entry) (now : List LeafMap) (same : now ≡ maps)
        (read : es ≡ selected span.lo span.hi (map_at now p.leaf)) where
      es_are : es ≡ map (λ (r : Row). entry_of (column_entry p c r)) (rows_inside span f)
      es_are = read
          ∙ ap (λ (ms : List LeafMap). selected span.lo span.hi (map_at ms p.leaf)) same
          ∙ column_selected c p lt item span

      pub many_found : length es ≡ length (rows_inside span f)
      many_found = ap length es_are
          ∙ length-map (rows_inside span f) (λ (r : Row). entry_of (column_entry p c r))

      pub none_found : fin.get f k ≡ None → es ≡ []
      none_found none = es_are
          ∙ ap (map (λ (r : Row). entry_of (column_entry p c r))) (rows_are None none)

      pub one_found : (vs : List Value) → fin.get f k ≡ Some vs
          → es ≡ entry_of (column_entry p c (k, vs)) ∷ []
      one_found vs found = es_are
          ∙ ap (map (λ (r : Row). entry_of (column_entry p c r))) (rows_are (Some vs) found)

      pub body_found : (vs : List Value) → fin.get f k ≡ Some vs → (e : Entry)
          → slice_get es 0 ≡ Some e → e.body ≡ (column_entry p c (k, vs)).1
      body_found vs found e at = ap (λ (x : Entry). x.body)
          (same_Some e (entry_of (column_entry p c (k, vs)))
          (sym at ∙ ap (λ (l : List Entry). slice_get l 0) (one_found vs found)))

      -- where nothing is found there is no record
      pub no_record : es ≡ [] → None ≡ fin.get f k
      no_record empty = elim (found_cases (fin.get f k)) [
        | inl none ↦ sym none
        | inr some ↦ absurd (omega (arith, ap length empty, ap length (one_found some.0 some.1)))
      ]

      -- where something is there is one
      pub some_record : (e : Entry) → slice_get es 0 ≡ Some e → fin.get f k ≡ None → ⊥
      some_record e at none = none_some e
          (ap (λ (l : List Entry). slice_get l 0) (sym (none_found none)) ∙ at)
