-- The entries of records whose bytes stand in pieces, in the one leaf of their node.
use Rattle.std.proofs.Common.{[], ◌≡◌, ℕ, suc, ◌+◌, ◌-◌, ◌*◌, ◌/◌, ◌<◌, ◌≤◌, ◌^◌, List, ◌∷◌, ◌++◌, length, length-append, get_or, map, cond, Bool, true, false, Option, inl, inr, refl, sym, ap, subst, ◌∙◌, arith, append-nil}
use Rattle.std.specs.Prelude.{filter, pos, ◌&&◌}
use Rattle.std.specs.FinMap as fin
use Rattle.std.specs.Int.{w64}
use Rattle.std.specs.Int.RustNames.{FitsSigned}
use Rattle.std.specs.List.{AllByRecursion, flat_map}
use Rattle.std.specs.Option.{option_map}
use Rattle.std.specs.Ordering.{nat_cmp, int_cmp, ordering_then}
use Rattle.std.specs.declared.cmp.Ordering.TheVariants.{Less}
use Rattle.std.specs.Cmp.{tied_itself, int_cmp_is}
use Rattle.std.specs.Cmp.Lexicographic.{slice_cmp, nat_list_cmp_total}
use Rattle.std.proofs.Math.Nat.{div-le_self}
use Rattle.std.proofs.lemmas.Cmp.{on_total}
use Rattle.std.proofs.lemmas.Int.{ints}
use Rattle.std.proofs.lemmas.List.{length-map}
use Rattle.std.proofs.lemmas.List.Elements.{filter-append}
use Rattle.std.proofs.lemmas.List.Sorted.{IsPermutation-refl}
use Rattle.gx_values.specs.declared.values.Kind.{Kind}
use Rattle.gx_values.specs.declared.values.Kind.TheVariants as kind
use Rattle.gx_values.specs.declared.values.Value.{Value}
use Rattle.gx_values.specs.declared.values.Value.TheVariants as value
use Rattle.gx_values.specs.declared.records.Form.{Form}
use Rattle.gx_values.specs.declared.keys.Span.{Span}
use Rattle.gx_values.specs.Values.{value_cmp, Fits}
use Rattle.gx_values.specs.Keys.{bytes_of, is_inside, IsKeyKind}
use Rattle.gx_values.proofs.OrderLemmas.{key_order, longer_order, value_cmp_total}
use Rattle.gx_schema.specs.declared.schema.FileDef.{FileDef}
use Rattle.gx_schema.specs.Lookups.{key_kind, data_fields}
use Rattle.gx_actual.specs.declared.layer.Actual.{Actual}
use Rattle.gx_actual.specs.Bodies.{body_of, field_widths}
use Rattle.gx_actual.specs.Forms.{actual_form}
use Rattle.gx_actual.specs.Laws.{body_width}
use Rattle.gx_actual.specs.Rules.{actual_rec, actual_rule}
use Rattle.gx_divide.specs.declared.layer.Divide.{Divide}
use Rattle.gx_divide.specs.Laws.{cut_count}
use Rattle.gx_divide.specs.Pieces.{pieces}
use Rattle.gx_divide.specs.Rules.{divide_rule, numbered, size_of}
use Rattle.gx_ports.specs.declared.leaves.Entry.{Entry}
use Rattle.gx_ports.specs.LeafMaps.{LeafMap, map_at, entry_of, selected, counted}
use Rattle.gx_mapping.specs.declared.parts.Part.{Part}
use Rattle.gx_mapping.specs.Rule.{Rule, In}
use Rattle.gx_mapping.proofs.RuleLemmas.{all_in}
use Rattle.gx_stack.specs.declared.entries.LeafEntry.{LeafEntry}
use Rattle.gx_stack.specs.declared.node.Node.{Node}
use Rattle.gx_stack.specs.declared.node.LayerNode.{LayerNode}
use Rattle.gx_stack.specs.declared.node.LeafNode.{LeafNode}
use Rattle.gx_stack.specs.declared.node.Node.TheVariants as nodes
use Rattle.gx_stack.specs.Internal.{IsUnion}
use Rattle.gx_stack.specs.Seen.{tree_of, kids_from}
use Rattle.gx_stack.specs.Selected.{IsKeySpan}
use Rattle.gx_stack.specs.Tree.{Tree, Kids, leaf, layer, kid, no_kids, leaves_of, tree_form, entries_of, kid_entries, IsValid}
use Rattle.gx_stack.proofs.Children.{union_from_internal}
use Rattle.gx_stack.proofs.Seen.{seen_layer, seen_leaf, layer_form, child_valid}
use Rattle.gx_stack.proofs.Selects.{le_longer, front_longer}
use Rattle.gx_gather.proofs.Lists.{in_map, from_map, in_each, from_each, in_filter, all_of}
use Rattle.gx_gather.proofs.Orders.{Ascends, ascends_append, ascends_unique}
use Rattle.gx_gather.proofs.Entries.{find_in, in_find}
use Rattle.gx_types.specs.declared.any.AnyMapping.{AnyMapping}
use Rattle.gx_types.specs.declared.any.AnyMapping.TheVariants as any
use Rattle.gx_types.specs.Any.{any_rule}
use Rattle.gx_typing.specs.Dues.{file_form}
use Rattle.gx_model.specs.States.{File, Row, IsRowOf}
use Rattle.gx_scan.specs.declared.pieces.Pieces.{Pieces}
use Rattle.gx_scan.specs.Files.{rec_of, file_records, IsStorable, IsTreeFor, IsInternal}
use Rattle.gx_scan.specs.Pieces.{ArePieces, numbered_entries, piece_entries}
use Rattle.gx_scan.specs.Records.{list_of_one}
use Rattle.gx_scan.specs.Steps.{HaveAtMost, is_key_inside, rows_inside}
use Rattle.gx_scan.proofs.FileLemmas.{row_fits, span_of_key}
use Rattle.gx_scan.proofs.KeyLemmas.{one_at_key, steps_at_key, row_found}
use Rattle.gx_scan.proofs.PlaceLemmas.{Pair, pair_cmp, key_cmp, entries_ascend, kids_many}
use Rattle.gx_scan.proofs.StepLemmas.{counted_most}

-- ---- a layer `actual` over a layer `divide` over a leaf

abbrev one_leaf : ℕ → Form → Tree AnyMapping
one_leaf n form = leaf n form

one_kid : (ns : List (Node AnyMapping)) (a : Node AnyMapping) → length ns ≡ 1 → a ≡ get_or ns 0 a
    → kids_from (map tree_of ns) ≡ kid (tree_of a) no_kids
one_kid [] a one read = absurd (omega (arith, one))
one_kid (x ∷ []) a one read = ap (λ (n : Node AnyMapping). kid (tree_of n) no_kids) (sym read)
one_kid (x ∷ y ∷ ns) a one read = absurd (omega (arith, one))

module _ (node : Node AnyMapping) (l : LayerNode AnyMapping) (a : Actual)
    (is : node ≡ nodes.Layer l) (outer : l.mapping ≡ any.Actual a)
    (valid : IsValid any_rule (tree_of node)) where
  outer_rule : any_rule l.mapping ≡ actual_rule a.form
  outer_rule = ap any_rule outer

  outer_form : tree_form any_rule (tree_of node) ≡ a.form
  outer_form = layer_form any_rule node l is ∙ ap (λ (rule : Rule). rule.form) outer_rule

  outer_one : length l.kids.items ≡ 1
  outer_one = kids_many node l is valid ∙ ap (λ (rule : Rule). rule.kids) outer_rule

  pub outer_there : 0 < length l.kids.items
  outer_there = omega (arith, outer_one)

  module _ (k : Node AnyMapping) (d : LayerNode AnyMapping) (v : Divide)
      (read : k ≡ get_or l.kids.items 0 k) (layer_is : k ≡ nodes.Layer d)
      (inner : d.mapping ≡ any.Divide v) where
    inner_rule : any_rule d.mapping ≡ divide_rule v.form v.size
    inner_rule = ap any_rule inner

    inner_valid : (tree_form any_rule (tree_of k) ≡ actual_form a.form)
        × IsValid any_rule (tree_of k)
    inner_valid =
        let x = child_valid any_rule node l is 0 k valid outer_there read in
        (x.0 ∙ ap (λ (rule : Rule). rule.kid_form 0) outer_rule, x.1)

    inner_form : v.form ≡ actual_form (tree_form any_rule (tree_of node))
    inner_form =
        sym (layer_form any_rule k d layer_is ∙ ap (λ (rule : Rule). rule.form) inner_rule)
        ∙ inner_valid.0 ∙ ap actual_form (sym outer_form)

    inner_one : length d.kids.items ≡ 1
    inner_one =
        kids_many k d layer_is inner_valid.1 ∙ ap (λ (rule : Rule). rule.kids) inner_rule

    pub inner_there : 0 < length d.kids.items
    inner_there = omega (arith, inner_one)

    pub pieces_made : (b : Node AnyMapping) (n : LeafNode) (p : Pieces)
        → b ≡ get_or d.kids.items 0 b → b ≡ nodes.Leaf n → p.leaf ≡ n.leaf → p.size ≡ size_of v
        → ArePieces (tree_of node) p
    pieces_made b n p leaf_read leaf_is number_is size_is =
        let bottom : tree_of b ≡ leaf p.leaf n.form =
        seen_leaf b n leaf_is ∙ ap (λ (m : ℕ). one_leaf m n.form) (sym number_is) in
        let below : tree_of k ≡ layer d.mapping (kid (leaf p.leaf n.form) no_kids) =
        seen_layer k d layer_is
        ∙ ap (layer d.mapping) (one_kid d.kids.items b inner_one leaf_read
        ∙ ap (λ (t : Tree AnyMapping). kid t no_kids) bottom) in
        record {
          outer = l.mapping;
          inner = d.mapping;
          form = n.form;
          tree = seen_layer node l is
              ∙ ap (layer l.mapping) (one_kid l.kids.items k outer_one read
              ∙ ap (λ (t : Tree AnyMapping). kid t no_kids) below);
          joins = outer_rule ∙ ap actual_rule (sym outer_form);
          cuts = inner_rule ∙ (λ i. divide_rule (inner_form i) (sym size_is i));
          narrow = subst (λ (form : Form). field_widths form.fields ≤ 65535) (sym outer_form)
              a.narrow;
          some = subst (λ (size : ℕ). 0 < size) (sym size_is) v.sound.some;
        }

-- ---- the entries of one record

abbrev in_leaf : ℕ → Pair → LeafEntry
in_leaf n e = record { leaf = n; key = e.0; body = e.1 }

pieces_in : (n : ℕ) (form : Form) (k : Value) (j : ℕ) (ps : List (List ℕ))
    → flat_map (λ (q : Part). kid_entries any_rule (kid (leaf n form) no_kids) q.child q.rec)
    (numbered (k ∷ []) j ps)
    ≡ map (in_leaf n) (numbered_entries (bytes_of k) j ps)
pieces_in n form k j [] = refl
pieces_in n form k j (p ∷ ps) = λ i. record {
  leaf = n;
  key = bytes_of k ++ append-nil (bytes_of (value.Int (pos j))) i;
  body = p;
} ∷ pieces_in n form k (suc j) ps i

module _ (t : Tree AnyMapping) (p : Pieces) (are : ArePieces t p) where
  record_entries : (r : Row) → entries_of any_rule t (rec_of r)
      ≡ map (in_leaf p.leaf) (piece_entries p.size r)
  record_entries r =
      let lower : Kids AnyMapping = kid (leaf p.leaf are.form) no_kids in
      let whole = actual_rec (rec_of r) in
      ap (λ (u : Tree AnyMapping). entries_of any_rule u (rec_of r)) are.tree
      ∙ ap (λ (rule : Rule). flat_map
      (λ (q : Part). kid_entries any_rule (kid (layer are.inner lower) no_kids) q.child q.rec)
      (rule.parts (rec_of r))) are.joins
      ∙ append-nil (entries_of any_rule (layer are.inner lower) whole)
      ∙ ap (λ (rule : Rule). flat_map (λ (q : Part). kid_entries any_rule lower q.child q.rec)
      (rule.parts whole)) are.cuts
      ∙ pieces_in p.leaf are.form r.0 0 (pieces p.size (body_of r.1))

  pub pieces_there : In p.leaf (leaves_of t)
  pieces_there = subst (λ (u : Tree AnyMapping). In p.leaf (leaves_of u)) (sym are.tree) (inl refl)

  leaf_alone : length (leaves_of t) ≡ 1
  leaf_alone = ap (λ (u : Tree AnyMapping). length (leaves_of u)) are.tree

  record_many : (r : Row) → length (entries_of any_rule t (rec_of r))
      ≡ length (piece_entries p.size r)
  record_many r =
      ap length (record_entries r) ∙ length-map (piece_entries p.size r) (in_leaf p.leaf)

-- ---- how many pieces there are

pieces_few : (size : ℕ) (bytes : List ℕ) → length (pieces size bytes) ≤ length bytes + 1
pieces_few size bytes = omega (
  arith,
  cut_count (length bytes / size) size bytes,
  div-le_self (length bytes) size,
)

-- ---- the order of entries

fits_int : (n : ℕ) → n < 2 ^ 63 → FitsSigned w64 (pos n)
fits_int n lt = record { sfits = omega arith }

numbers : (i j : ℕ) → i < j → int_cmp (pos i) (pos j) ≡ Less
numbers i j less = sym (int_cmp_is (pos i) (pos j) Less (grind (arith, ints, less)))

module _ (k : Kind) (key : IsKeyKind k) where
  number_before : (v : Value) (i j : ℕ) → Fits k v → i < j → j < 2 ^ 63
      → slice_cmp nat_cmp (bytes_of v ++ bytes_of (value.Int (pos i)))
      (bytes_of v ++ bytes_of (value.Int (pos j))) ≡ Less
  number_before v i j fit less small =
      let lower : i < 2 ^ 63 = omega arith in
      let after : slice_cmp nat_cmp (bytes_of (value.Int (pos i))) (bytes_of (value.Int (pos j)))
      ≡ Less =
      key_order kind.Int (value.Int (pos i)) (value.Int (pos j)) tt (fits_int i lower)
      (fits_int j small) ∙ numbers i j less in
      longer_order k v v (bytes_of (value.Int (pos i))) (bytes_of (value.Int (pos j))) key fit fit
      ∙ (λ h. ordering_then (tied_itself value_cmp_total v h) (after h))

  numbers_after : (v : Value) (i j : ℕ) (p : List ℕ) (ps : List (List ℕ)) → Fits k v → i < j
      → j + length ps ≤ 2 ^ 63
      → AllByRecursion (λ e. pair_cmp (bytes_of v ++ bytes_of (value.Int (pos i)), p) e ≡ Less)
      (numbered_entries (bytes_of v) j ps)
  numbers_after v i j p [] fit less small = tt
  numbers_after v i j p (q ∷ ps) fit less small =
      let next : suc j + length ps ≤ 2 ^ 63 = omega (arith, small) in
      let here : j < 2 ^ 63 = omega (arith, small) in
      let further : i < suc j = omega (arith, less) in
      (number_before v i j fit less here, numbers_after v i (suc j) p ps fit further next)

  numbers_ascend : (v : Value) (j : ℕ) (ps : List (List ℕ)) → Fits k v → j + length ps ≤ 2 ^ 63
      → Ascends pair_cmp (numbered_entries (bytes_of v) j ps)
  numbers_ascend v j [] fit small = tt
  numbers_ascend v j (p ∷ ps) fit small =
      let next : suc j + length ps ≤ 2 ^ 63 = omega (arith, small) in
      let less : j < suc j = omega arith in
      (numbers_after v j (suc j) p ps fit less next, numbers_ascend v (suc j) ps fit next)

-- the key of an entry of a piece begins with that of the record
piece_key : (key : List ℕ) (j : ℕ) (ps : List (List ℕ)) (e : Pair)
    → In e (numbered_entries key j ps) → (number : List ℕ) × (e.0 ≡ key ++ number)
piece_key key j [] e h = absurd h
piece_key key j (p ∷ ps) e (inl is) =
    (bytes_of (value.Int (pos j)), ap (λ (y : Pair). y.0) is)
piece_key key j (p ∷ ps) e (inr h) = piece_key key (suc j) ps e h

record_key : (size : ℕ) (r : Row) (e : Pair) → In e (piece_entries size r)
    → (number : List ℕ) × (e.0 ≡ bytes_of r.0 ++ number)
record_key size r e h = piece_key (bytes_of r.0) 0 (pieces size (body_of r.1)) e h

-- a key of the kind, and no more bytes than a piece layer takes
abbrev IsCut : Kind → Row → Type 0
IsCut k r = Fits k r.0 × (length (body_of r.1) ≤ 65535)

record_before : (k : Kind) (size : ℕ) (r q : Row) (e g : Pair) → IsKeyKind k → Fits k r.0
    → Fits k q.0 → key_cmp r q ≡ Less → In e (piece_entries size r) → In g (piece_entries size q)
    → pair_cmp e g ≡ Less
record_before k size r q e g key fit fits less h i =
    let a = record_key size r e h in
    let b = record_key size q g i in
    (λ j. slice_cmp nat_cmp (a.1 j) (b.1 j))
    ∙ longer_order k r.0 q.0 a.0 b.0 key fit fits
    ∙ ap (λ o. ordering_then o (slice_cmp nat_cmp a.0 b.0)) less

cut_ascend : (k : Kind) (size : ℕ) (rs : List Row) → IsKeyKind k → AllByRecursion (IsCut k) rs
    → Ascends key_cmp rs → Ascends pair_cmp (flat_map (piece_entries size) rs)
cut_ascend k size [] key fit order = tt
cut_ascend k size (r ∷ rs) key fit order =
    let few : 0 + length (pieces size (body_of r.1)) ≤ 2 ^ 63 =
    omega (arith, pieces_few size (body_of r.1), fit.0.1) in
    ascends_append (piece_entries size r) (flat_map (piece_entries size) rs)
    (numbers_ascend k key r.0 0 (pieces size (body_of r.1)) fit.0.0 few)
    (cut_ascend k size rs key fit.1 order.1)
    (λ e g h i.
    let q = from_each (piece_entries size) g rs i in
    record_before k size r q.0 e g key fit.0.0 (all_in (IsCut k) rs q.0 fit.1 q.1).0
    (all_in (λ (x : Row). key_cmp r x ≡ Less) rs q.0 order.0 q.1) h q.2)

-- ---- the entries that pass a test, where those of each record pass it or not

all_alike : {B : Type 0} (p : B → Bool) (b : Bool) (ys : List B) → ((y : B) → In y ys → p y ≡ b)
    → filter p ys ≡ cond b ys []
all_alike p true [] same = refl
all_alike p false [] same = refl
all_alike {B} p true (y ∷ ys) same =
    ap (λ b. cond b (y ∷ filter p ys) (filter p ys)) (same y (inl refl))
    ∙ ap (λ (l : List B). y ∷ l) (all_alike p true ys (λ z h. same z (inr h)))
all_alike p false (y ∷ ys) same =
    ap (λ b. cond b (y ∷ filter p ys) (filter p ys)) (same y (inl refl))
    ∙ all_alike p false ys (λ z h. same z (inr h))

one_more : {A B : Type 0} (g : A → List B) (b : Bool) (x : A) (xs : List A)
    → cond b (g x) [] ++ flat_map g xs ≡ flat_map g (cond b (x ∷ xs) xs)
one_more g true x xs = refl
one_more g false x xs = refl

filter_each : {A B : Type 0} (p : B → Bool) (q : A → Bool) (g : A → List B) (xs : List A)
    → ((x : A) (y : B) → In x xs → In y (g x) → p y ≡ q x)
    → filter p (flat_map g xs) ≡ flat_map g (filter q xs)
filter_each p q g [] same = refl
filter_each p q g (x ∷ xs) same =
    let here = all_alike p (q x) (g x) (λ y h. same x y (inl refl) h) in
    let later = filter_each p q g xs (λ z y h i. same z y (inr h) i) in
    filter-append p (g x) (flat_map g xs) ∙ (λ i. here i ++ later i)
    ∙ one_more g (q x) x (filter q xs)

-- ---- the entries of the leaf

module _ (file : FileDef) (t : Tree AnyMapping) (p : Pieces) (leaves : ℕ) (maps : List LeafMap)
    (f : File) (storable : IsStorable file) (tree : IsTreeFor file t leaves)
    (is : IsInternal file t maps f) (are : ArePieces t p) where
  abbrev made : Row → List Pair
  made = piece_entries p.size

  abbrev all_rows : List Row
  all_rows = fin.entries f

  row_cut : (r : Row) → In r all_rows → IsCut (key_kind file) r
  row_cut r h =
      let fit = all_in (IsRowOf file) all_rows r is.fit h in
      let narrow : field_widths (data_fields file) ≤ 65535 =
      subst (λ (form : Form). field_widths form.fields ≤ 65535) tree.form are.narrow in
      (fit.0, omega (arith, narrow, body_width (data_fields file) r.1 fit.1))

  union : IsUnion any_rule t (file_records f) maps
  union = union_from_internal any_rule t (file_records f) maps is.held

  entry_from : (e : Pair) → In e (fin.entries (map_at maps p.leaf)) → In e (flat_map made all_rows)
  entry_from e h =
      let m = map_at maps p.leaf in
      let found = fin.get-entries m e.0
      ∙ in_find nat_list_cmp_total e (fin.entries m) (fin.entries_sorted m) h in
      let q = from_each (entries_of any_rule t) (in_leaf p.leaf e) (file_records f)
      (union.only (in_leaf p.leaf e) (pieces_there t p are) found) in
      let row = from_map rec_of q.0 all_rows q.1 in
      let among : In (in_leaf p.leaf e) (map (in_leaf p.leaf) (made row.0)) =
      subst (In (in_leaf p.leaf e))
      (ap (entries_of any_rule t) row.2 ∙ record_entries t p are row.0) q.2 in
      let at = from_map (in_leaf p.leaf) (in_leaf p.leaf e) (made row.0) among in
      let same : at.0 ≡ e = λ i. (
        sym (ap (λ (y : LeafEntry). y.key) at.2) i,
        sym (ap
            (λ (y : LeafEntry). y.body) at.2) i,
      ) in
      in_each made row.0 e all_rows row.1 (subst (λ (y : Pair). In y (made row.0)) same at.1)

  row_entry : (e : Pair) → In e (flat_map made all_rows) → In e (fin.entries (map_at maps p.leaf))
  row_entry e h =
      let m = map_at maps p.leaf in
      let row = from_each made e all_rows h in
      let among : In (in_leaf p.leaf e) (entries_of any_rule t (rec_of row.0)) =
      subst (In (in_leaf p.leaf e)) (sym (record_entries t p are row.0))
      (in_map (in_leaf p.leaf) e (made row.0) row.2) in
      let there = union.holds (in_leaf p.leaf e)
      (in_each (entries_of any_rule t) (rec_of row.0) (in_leaf p.leaf e) (file_records f)
      (in_map rec_of row.0 all_rows row.1) among) in
      find_in (fin.slice_cmp-IsAntisymmetric fin.nat_cmp-IsAntisymmetric) e.0 e.1 (fin.entries m)
      (sym (fin.get-entries m e.0) ∙ there)

  -- it has the pieces of the records, one record after the other
  leaf_entries : fin.entries (map_at maps p.leaf) ≡ flat_map made all_rows
  leaf_entries =
      ascends_unique (on_total (λ (e : Pair). e.0) nat_list_cmp_total)
      (fin.entries (map_at maps p.leaf)) (flat_map made all_rows)
      (entries_ascend (slice_cmp nat_cmp) (fin.entries (map_at maps p.leaf))
      (fin.entries_sorted (map_at maps p.leaf)))
      (cut_ascend (key_kind file) p.size all_rows storable.key
      (all_of (IsCut (key_kind file)) all_rows row_cut)
      (entries_ascend value_cmp all_rows (fin.entries_sorted f)))
      entry_from row_entry

  -- ---- within a span

  pub rows_fit_inside : (span : Span) → AllByRecursion (IsRowOf file) (rows_inside span f)
  rows_fit_inside span = all_of (IsRowOf file) (rows_inside span f)
      (λ r h. all_in (IsRowOf file) all_rows r is.fit (in_filter (is_key_inside span) r all_rows
      h).0)

  -- a span lets the pieces of a record through where it lets its key through
  piece_inside : (span : Span) → IsKeySpan (file_form file) span → (r : Row) (e : Pair)
      → In r all_rows → In e (made r)
      → is_inside span.lo span.hi e.0 ≡ is_key_inside span r
  piece_inside span whole r e h i =
      let x = record_key p.size r e i in
      let fit = (row_fits file r storable.keyed (all_in (IsRowOf file) all_rows r is.fit h)).key in
      let alone : bytes_of r.0 ≡ bytes_of r.0 ++ [] = sym (append-nil (bytes_of r.0)) in
      ap (is_inside span.lo span.hi) x.1
      ∙ (λ j. le_longer span.lo (bytes_of r.0) x.0 (λ rest same. whole.lo_whole (r.0 ∷ []) rest fit
      (same ∙ ap (λ (b : List ℕ). b ++ rest) alone)) j
      && front_longer span.hi (bytes_of r.0) x.0 (λ rest same. whole.hi_whole (r.0 ∷ []) rest fit
      (same ∙ ap (λ (b : List ℕ). b ++ rest) alone)) j)

  rows_most : (most : ℕ) → HaveAtMost most t f → (rs : List Row)
      → ((r : Row) → In r rs → In r all_rows) → length (flat_map made rs) ≤ length rs * most
  rows_most most few [] there = omega arith
  rows_most most few (r ∷ rs) there =
      let one = few r (there r (inl refl)) in
      let rest = rows_most most few rs (λ q h. there q (inr h)) in
      omega (
        arith,
        one,
        rest,
        record_many t p are r,
        length-append (made r) (flat_map made rs),
      )

  -- what a search of the leaf appends
  module _ (span : Span) (whole : IsKeySpan (file_form file) span) (start entries : List Entry)
      (none : start ≡ [])
      (all : entries ≡ start ++ selected span.lo span.hi (map_at maps p.leaf)) where
    pub pieces_inside : entries ≡ map entry_of (flat_map made (rows_inside span f))
    pieces_inside =
        all
        ∙ ap (λ (es : List Entry). es ++ selected span.lo span.hi (map_at maps p.leaf)) none
        ∙ ap (λ (es : List Pair). map entry_of (filter (λ e. is_inside span.lo span.hi e.0) es))
        leaf_entries
        ∙ ap (map entry_of) (filter_each (λ (e : Pair). is_inside span.lo span.hi e.0)
        (is_key_inside span) made all_rows (piece_inside span whole))

    -- a step for the leaf, and one for each entry there within the span
    pub pieces_steps : (most before after : ℕ) → HaveAtMost most t f
        → after ≡ counted before (1 + (length entries - length start))
        → after ≤ before + (length (leaves_of t) + length (rows_inside span f) * most)
    pieces_steps most before after few steps =
        let rows = flat_map made (rows_inside span f) in
        let many = rows_most most few (rows_inside span f)
        (λ r h. (in_filter (is_key_inside span) r all_rows h).0) in
        let step = counted_most before after (length entries - length start) (length rows) steps
        (omega (arith, ap length pieces_inside, length-map rows entry_of, ap length none)) in
        omega (arith, many, step, leaf_alone t p are)

  -- ---- the record at a key

  module _ (k : Value) (span : Span) (fit : Fits (key_kind file) k) (lo : span.lo ≡ bytes_of k)
      (hi : span.hi ≡ bytes_of k) where
    abbrev one : Option Row
    one = option_map (λ (values : List Value). (k, values)) (fin.get f k)

    one_row : rows_inside span f ≡ list_of_one one
    one_row = one_at_key file f k span storable.key fit is.fit lo hi (rows_inside span f)
        (IsPermutation-refl (rows_inside span f)) ∙ row_found k (fin.get f k)

    pub one_fits : AllByRecursion (IsRowOf file) (list_of_one one)
    one_fits = subst (AllByRecursion (IsRowOf file)) one_row (rows_fit_inside span)

    module _ (start entries : List Entry) (none : start ≡ [])
        (all : entries ≡ start ++ selected span.lo span.hi (map_at maps p.leaf)) where
      whole : IsKeySpan (file_form file) span
      whole = span_of_key file k span storable.keyed storable.key fit lo hi

      pub one_pieces : entries ≡ map entry_of (flat_map made (list_of_one one))
      one_pieces = pieces_inside span whole start entries none all
          ∙ ap (λ (rs : List Row). map entry_of (flat_map made rs)) one_row

      pub one_steps : (most before after : ℕ) → HaveAtMost most t f
          → after ≡ counted before (1 + (length entries - length start))
          → after ≤ before + (length (leaves_of t) + most)
      one_steps most before after few steps =
          steps_at_key file f k span storable.key fit is.fit lo hi (length (leaves_of t)) most
          before after (pieces_steps span whole start entries none all most before after few steps)
