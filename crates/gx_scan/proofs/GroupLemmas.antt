-- The entries of records that stand in two leaves, each with one group of their data fields.
use Rattle.std.proofs.Common.{[], ◌≡◌, ℕ, suc, ◌+◌, ◌*◌, ◌<◌, ◌≤◌, List, ◌∷◌, ◌++◌, length, length-append, get_or, map, cond, Bool, true, false, Option, Some, inl, inr, refl, sym, ap, subst, ◌∙◌, arith}
use Rattle.std.specs.Prelude.{filter, not, ◌&&◌, if◌then◌else◌}
use Rattle.std.specs.FinMap as fin
use Rattle.std.specs.List.{AllByRecursion, flat_map}
use Rattle.std.specs.Ordering.{nat_cmp}
use Rattle.std.specs.declared.cmp.Ordering.TheVariants.{Less}
use Rattle.std.specs.Cmp.Lexicographic.{slice_cmp, nat_list_cmp_total}
use Rattle.std.proofs.lemmas.Cmp.{on_total}
use Rattle.gx_values.specs.declared.values.Kind.{Kind}
use Rattle.gx_values.specs.declared.values.Code.{Code}
use Rattle.gx_values.specs.declared.records.Field.{Field}
use Rattle.gx_values.specs.declared.records.Form.{Form}
use Rattle.gx_values.specs.declared.records.Rec.{Rec}
use Rattle.gx_values.specs.declared.keys.Span.{Span}
use Rattle.gx_values.specs.Values.{value_cmp, Fits}
use Rattle.gx_values.specs.Keys.{bytes_of, IsKeyKind, AreKeyFields}
use Rattle.gx_values.proofs.OrderLemmas.{key_order}
use Rattle.gx_schema.specs.declared.schema.FileDef.{FileDef}
use Rattle.gx_schema.specs.Lookups.{key_kind, data_fields}
use Rattle.gx_ports.specs.declared.leaves.Entry.{Entry}
use Rattle.gx_ports.specs.LeafMaps.{LeafMap, map_at, entry_of, selected}
use Rattle.gx_mapping.specs.Rule.{Rule, In, IsOf}
use Rattle.gx_mapping.proofs.RuleLemmas.{all_in}
use Rattle.gx_split.specs.Groups.{chosen}
use Rattle.gx_split.specs.GroupLaws.{chosen_fit}
use Rattle.gx_split.specs.Forms.{segment_form}
use Rattle.gx_split.specs.declared.layer.Segment.{Segment}
use Rattle.gx_split.specs.SegmentRules.{segment_rule, first_part, other_part, is_short, form_of, mask_of, rule_of}
use Rattle.gx_stack.specs.declared.node.Node.{Node}
use Rattle.gx_stack.specs.declared.node.LayerNode.{LayerNode}
use Rattle.gx_stack.specs.declared.node.Node.TheVariants as nodes
use Rattle.gx_stack.specs.Seen.{tree_of, kids_from}
use Rattle.gx_stack.proofs.Seen.{seen_layer, layer_form, child_there, child_valid}
use Rattle.gx_types.specs.declared.any.AnyMapping.TheVariants as any
use Rattle.gx_stack.specs.declared.entries.LeafEntry.{LeafEntry}
use Rattle.gx_stack.specs.Tree.{Tree, layer, kid, no_kids, leaves_of, tree_form, entries_of, kid_entries, entry_in, leaf_body, IsValid}
use Rattle.gx_stack.specs.Internal.{IsUnion, parts_for, child_records}
use Rattle.gx_stack.specs.Internal.{IsInternal as IsHeld}
use Rattle.gx_stack.proofs.Children.{union_from_internal}
use Rattle.gx_gather.proofs.Lists.{in_left, in_right, in_map, from_map, in_each, from_each, in_filter, filter_in, all_of}
use Rattle.gx_gather.proofs.Orders.{Ascends, ascends_filter, ascends_unique}
use Rattle.gx_gather.proofs.Entries.{find_in, in_find}
use Rattle.gx_types.specs.declared.any.AnyMapping.{AnyMapping}
use Rattle.gx_types.specs.Any.{any_rule}
use Rattle.gx_model.specs.States.{File, Row, IsRowOf}
use Rattle.gx_scan.specs.declared.places.Place.{Place}
use Rattle.gx_scan.specs.declared.groups.Groups.{Groups}
use Rattle.gx_scan.specs.Files.{rec_of, file_records, IsStorable, IsTreeFor, IsInternal}
use Rattle.gx_scan.specs.Steps.{HaveAtMost, is_key_inside, rows_inside}
use Rattle.gx_scan.specs.Entries.{below, entry_of_row, data_leaves, IsAlone, ArePlaces}
use Rattle.gx_scan.specs.Groups.{AreGroups, ArePlain, IsSplitRow, group_row, has_others, first_entry, other_entry, first_stored, other_stored}
use Rattle.gx_codec.specs.Stored.{HaveCodes}
use Rattle.gx_scan.proofs.FileLemmas.{set_of}
use Rattle.gx_scan.proofs.EntryLemmas.{filter_map, map_joined, span_entries}
use Rattle.gx_scan.proofs.ListingLemmas.{filter_twice, same_filter}
use Rattle.gx_scan.proofs.PlaceLemmas.{kids_many, Pair, pair_cmp, key_cmp, entries_ascend, entry_key, data_in}

-- ---- the entries of a leaf where all records of a tree stand whole

abbrev HasKeyOf : Kind → Row → Type 0
HasKeyOf k r = Fits k r.0

keys_below : (k : Kind) (n : ℕ) (cs : List (Option Code)) (x : Row) (rs : List Row) → IsKeyKind k
    → Fits k x.0
    → AllByRecursion (HasKeyOf k) rs → AllByRecursion (λ r. key_cmp x r ≡ Less) rs
    → AllByRecursion (λ e. pair_cmp (entry_of_row n cs x) e ≡ Less) (map (entry_of_row n cs) rs)
keys_below k n cs x [] key fit fits h = tt
keys_below k n cs x (r ∷ rs) key fit fits h =
    (key_order k x.0 r.0 key fit fits.0 ∙ h.0, keys_below k n cs x rs key fit fits.1 h.1)

keys_ascend : (k : Kind) (n : ℕ) (cs : List (Option Code)) (rs : List Row) → IsKeyKind k
    → AllByRecursion (HasKeyOf k) rs → Ascends key_cmp rs
    → Ascends pair_cmp (map (entry_of_row n cs) rs)
keys_ascend k n cs [] key fits h = tt
keys_ascend k n cs (r ∷ rs) key fits h =
    (keys_below k n cs r rs key fits.0 fits.1 h.0, keys_ascend k n cs rs key fits.1 h.1)

module _ (t : Tree AnyMapping) (p : Place) (maps : List LeafMap) (k : Kind) (rs : List Row)
    (are : ArePlaces 0 t (p ∷ [])) (key : IsKeyKind k)
    (fits : (r : Row) → In r rs → Fits k r.0 × IsOf (tree_form any_rule t) (rec_of r))
    (order : Ascends key_cmp rs) (union : IsUnion any_rule t (map rec_of rs) maps) where
  stands : (r : Row) → In r rs → IsAlone (data_leaves t) (entry_in p.leaf (below (suc p.lengths)
      p.codes (rec_of r)))
      (entries_of any_rule t (rec_of r))
  stands r h =
      let x = are.stand (rec_of r) (fits r h).1 tt in
      let same : x.0 ≡ p = elim x.1 [ inl e ↦ e | inr none ↦ absurd none ] in
      subst (λ (q : Place). IsAlone (data_leaves t)
      (entry_in q.leaf (below (suc q.lengths) q.codes (rec_of r)))
      (entries_of any_rule t (rec_of r))) same x.3

  -- a record has the codes of the place
  pub alone_coded : (r : Row) → In r rs → HaveCodes p.codes r.1
  alone_coded r h =
      let x = are.stand (rec_of r) (fits r h).1 tt in
      let same : x.0 ≡ p = elim x.1 [ inl e ↦ e | inr none ↦ absurd none ] in
      subst (λ (q : Place). HaveCodes q.codes r.1) same x.2

  data_there : In p.leaf (data_leaves t)
  data_there = subst (In p.leaf) are.leaves (inl refl)

  pub alone_there : In p.leaf (leaves_of t)
  alone_there = data_in t p.leaf data_there

  -- a record has an entry there
  pub alone_some : (r : Row) → In r rs → 1 ≤ length (entries_of any_rule t (rec_of r))
  alone_some r h = omega (arith, ap length (stands r h).first)

  entry_from : (e : Pair) → In e (fin.entries (map_at maps p.leaf))
      → In e (map (entry_of_row p.lengths p.codes) rs)
  entry_from e h =
      let m = map_at maps p.leaf in
      let le : LeafEntry = record { leaf = p.leaf; key = e.0; body = e.1 } in
      let found = fin.get-entries m e.0 ∙ in_find nat_list_cmp_total e (fin.entries m)
      (fin.entries_sorted m) h in
      let q = from_each (entries_of any_rule t) le (map rec_of rs) (union.only le alone_there found)
      in
      let row = from_map rec_of q.0 rs q.1 in
      let among : In le (entries_of any_rule t (rec_of row.0)) = subst (λ x. In le (entries_of
      any_rule t x)) row.2 q.2 in
      let x = stands row.0 row.1 in
      let made : le ≡ entry_in p.leaf (below (suc p.lengths) p.codes (rec_of row.0)) =
      elim (subst (In le) x.first among)
      [ inl i ↦ i | inr n ↦ absurd (x.elsewhere le n data_there) ] in
      let at : e.0 ≡ bytes_of row.0.0 =
      ap (λ (y : LeafEntry). y.key) made ∙ entry_key (suc p.lengths) p.codes row.0 in
      let body : e.1 ≡ leaf_body (below (suc p.lengths) p.codes (rec_of row.0)).fields =
      ap (λ (y : LeafEntry). y.body) made in
      subst (λ (y : Pair). In y (map (entry_of_row p.lengths p.codes) rs))
      (λ i. (sym at i, sym body i)) (in_map (entry_of_row p.lengths p.codes) row.0 rs row.1)

  row_entry : (e : Pair) → In e (map (entry_of_row p.lengths p.codes) rs)
      → In e (fin.entries (map_at maps p.leaf))
  row_entry e h =
      let m = map_at maps p.leaf in
      let row = from_map (entry_of_row p.lengths p.codes) e rs h in
      let r = row.0 in
      let le = entry_in p.leaf (below (suc p.lengths) p.codes (rec_of r)) in
      let among : In le (entries_of any_rule t (rec_of r)) = subst (In le) (sym (stands r
      row.1).first) (inl refl) in
      let there = union.holds le (in_each (entries_of any_rule t) (rec_of r) le (map rec_of rs)
      (in_map rec_of r rs row.1) among) in
      let found : fin.find (slice_cmp nat_cmp) (bytes_of r.0) (fin.entries m) ≡ Some le.body =
      sym (fin.get-entries m (bytes_of r.0)) ∙ ap (fin.get m)
      (sym (entry_key (suc p.lengths) p.codes r)) ∙ there in
      subst (λ (x : Pair). In x (fin.entries m)) (sym row.2) (find_in (fin.slice_cmp-IsAntisymmetric
      fin.nat_cmp-IsAntisymmetric) (bytes_of r.0) le.body (fin.entries m) found)

  -- it has the entries of the records, in the order of their keys
  pub alone_entries : fin.entries (map_at maps p.leaf) ≡ map (entry_of_row p.lengths p.codes) rs
  alone_entries =
      ascends_unique (on_total (λ (e : Pair). e.0) nat_list_cmp_total)
      (fin.entries (map_at maps p.leaf)) (map (entry_of_row p.lengths p.codes) rs)
      (entries_ascend (slice_cmp nat_cmp) (fin.entries (map_at maps p.leaf)) (fin.entries_sorted
      (map_at maps p.leaf)))
      (keys_ascend k p.lengths p.codes rs key (all_of (HasKeyOf k) rs (λ r h. (fits r h).0)) order)
      entry_from row_entry

-- ---- the two leaves of a node

pub key_chosen : (mask : List Bool) (fs : List Field) → AreKeyFields fs
    → AreKeyFields (chosen mask fs)
key_chosen [] fs are = tt
key_chosen (b ∷ mask) [] are = tt
key_chosen (true ∷ mask) (f ∷ fs) are = (are.0, key_chosen mask fs are.1)
key_chosen (false ∷ mask) (f ∷ fs) are = key_chosen mask fs are.1

two_kids : (ns : List (Node AnyMapping)) (a b : Node AnyMapping) → length ns ≡ 2 → a
    ≡ get_or ns 0 a → b ≡ get_or ns 1 b
    → kids_from (map tree_of ns) ≡ kid (tree_of a) (kid (tree_of b) no_kids)
two_kids [] a b two first second = absurd (omega (arith, two))
two_kids (x ∷ []) a b two first second = absurd (omega (arith, two))
two_kids (x ∷ y ∷ []) a b two first second = λ i. kid (tree_of (sym first i)) (kid (tree_of (sym
    second i)) no_kids)
two_kids (x ∷ y ∷ z ∷ ns) a b two first second = absurd (omega (arith, two))

module _ (node : Node AnyMapping) (l : LayerNode AnyMapping) (s : Segment) (is : node
    ≡ nodes.Layer l)
    (segment_is : l.mapping ≡ any.Segment s) (valid : IsValid any_rule (tree_of node)) where
  rule_is : any_rule l.mapping ≡ rule_of s
  rule_is = ap any_rule segment_is

  pub node_form : tree_form any_rule (tree_of node) ≡ form_of s
  node_form = layer_form any_rule node l is ∙ ap (λ (rule : Rule). rule.form) rule_is

  pub kid_there : (c : ℕ) → c < 2 → c < length l.kids.items
  kid_there c lt = child_there any_rule node l is c valid (omega (
    arith,
    lt,
    ap (λ (rule : Rule).
        rule.kids) rule_is,
  ))

  pub kid_at : (c : ℕ) (k : Node AnyMapping) → c < 2 → k ≡ get_or l.kids.items c k
      → (tree_form any_rule (tree_of k) ≡ segment_form (mask_of s) (form_of s) c)
      × IsValid any_rule (tree_of k)
  kid_at c k lt read =
      let v = child_valid any_rule node l is c k valid (kid_there c lt) read in
      (v.0 ∙ ap (λ (rule : Rule). rule.kid_form c) rule_is, v.1)

  pub first_keys : (k : Node AnyMapping) → k ≡ get_or l.kids.items 0 k
      → AreKeyFields (tree_form any_rule (tree_of node)).fields
      → AreKeyFields (tree_form any_rule (tree_of k)).fields
  first_keys k read are = subst (λ (form : Form). AreKeyFields form.fields) (sym (kid_at 0 k (omega
      arith) read).0)
      (key_chosen (mask_of s) (form_of s).fields (subst (λ (form : Form). AreKeyFields form.fields)
      node_form are))

  pub other_keys : (k : Node AnyMapping) → k ≡ get_or l.kids.items 1 k
      → AreKeyFields (tree_form any_rule (tree_of node)).fields
      → AreKeyFields (tree_form any_rule (tree_of k)).fields
  other_keys k read are = subst (λ (form : Form). AreKeyFields form.fields) (sym (kid_at 1 k (omega
      arith) read).0)
      (key_chosen (map not (mask_of s)) (form_of s).fields (subst (λ (form : Form). AreKeyFields
      form.fields) node_form are))

  pub groups_made : (g : Groups) (a b : Node AnyMapping) → a ≡ get_or l.kids.items 0 a → b
      ≡ get_or l.kids.items 1 b
      → g.mask.now ≡ mask_of s → length (mask_of s) ≡ length (form_of s).fields
      → ArePlaces 0 (tree_of a) (g.first ∷ []) → ArePlaces 0 (tree_of b) (g.others ∷ [])
      → AreGroups (tree_of node) g
  groups_made g a b first second masked long first_at second_at = record {
    mapping = l.mapping;
    first = tree_of a;
    others = tree_of b;
    tree = seen_layer node l is ∙ ap (layer l.mapping) (two_kids l.kids.items a b
        (kids_many node l is valid ∙ ap (λ (rule : Rule). rule.kids) rule_is) first second);
    splits = rule_is ∙ (λ i. segment_rule (sym node_form i) (sym masked i));
    long = ap length masked ∙ long ∙ ap (λ (form : Form). length form.fields) (sym node_form);
    first_place = first_at;
    other_place = second_at;
  }

-- both are leaves of the tree
pub first_there : (t : Tree AnyMapping) (g : Groups) → AreGroups t g → In g.first.leaf (leaves_of t)
first_there t g are = subst (λ t. In g.first.leaf (leaves_of t)) (sym are.tree)
    (in_left g.first.leaf (leaves_of are.first) (leaves_of are.others ++ [])
    (data_in are.first g.first.leaf (subst (In g.first.leaf) are.first_place.leaves (inl refl))))

pub other_there : (t : Tree AnyMapping) (g : Groups) → AreGroups t g
    → In g.others.leaf (leaves_of t)
other_there t g are = subst (λ t. In g.others.leaf (leaves_of t)) (sym are.tree)
    (in_right g.others.leaf (leaves_of are.first) (leaves_of are.others ++ [])
    (in_left g.others.leaf (leaves_of are.others) []
    (data_in are.others g.others.leaf (subst (In g.others.leaf) are.other_place.leaves (inl
    refl)))))

-- ---- rows of one group

group_below : (mask : List Bool) (x : Row) (rs : List Row) → AllByRecursion (λ r. key_cmp x r
    ≡ Less) rs
    → AllByRecursion (λ r. key_cmp (group_row mask x) r ≡ Less) (map (group_row mask) rs)
group_below mask x [] h = tt
group_below mask x (r ∷ rs) h = (h.0, group_below mask x rs h.1)

group_ascends : (mask : List Bool) (rs : List Row) → Ascends key_cmp rs
    → Ascends key_cmp (map (group_row mask) rs)
group_ascends mask [] a = tt
group_ascends mask (r ∷ rs) a = (group_below mask r rs a.0, group_ascends mask rs a.1)

-- the records that go to the two children
firsts_go : (form : Form) (mask : List Bool) (rs : List Row)
    → child_records (segment_rule form mask) 0 (map rec_of rs)
    ≡ map rec_of (map (group_row mask) rs)
firsts_go form mask [] = refl
firsts_go form mask (r ∷ rs) = elim (is_short mask form (rec_of r)) as (λ b.
    parts_for 0 (first_part mask (rec_of r) ∷ (if b then [] else other_part mask (rec_of r) ∷ []))
    ++ child_records (segment_rule form mask) 0 (map rec_of rs)
    ≡ rec_of (group_row mask r) ∷ map rec_of (map (group_row mask) rs)) [
      | true ↦ ap (λ (l : List Rec). rec_of (group_row mask r) ∷ l) (firsts_go form mask rs)
      | false ↦ ap (λ (l : List Rec). rec_of (group_row mask r) ∷ l) (firsts_go form mask rs)
    ]

abbrev other_rows : Form → List Bool → List Row → List Row
other_rows form mask rs = map (group_row (map not mask)) (filter (has_others mask form.fields) rs)

others_go : (form : Form) (mask : List Bool) (rs : List Row)
    → child_records (segment_rule form mask) 1 (map rec_of rs)
    ≡ map rec_of (other_rows form mask rs)
others_go form mask [] = refl
others_go form mask (r ∷ rs) = elim (is_short mask form (rec_of r)) as (λ b.
    parts_for 1 (first_part mask (rec_of r) ∷ (if b then [] else other_part mask (rec_of r) ∷ []))
    ++ child_records (segment_rule form mask) 1 (map rec_of rs)
    ≡ map rec_of (map (group_row (map not mask)) (cond (not b) (r ∷ filter (has_others mask
    form.fields) rs) (filter (has_others mask form.fields) rs)))) [
      | true ↦ others_go form mask rs
      | false ↦ ap (λ (l : List Rec). rec_of (group_row (map not mask) r) ∷ l) (others_go form mask
          rs)
    ]

-- ---- the entries of both leaves within a span

commuted : {A : Type 0} (p q : A → Bool) (xs : List A) → filter p (filter q xs)
    ≡ filter q (filter p xs)
commuted p q xs =
    filter_twice p q xs ∙ same_filter (λ x. q x && p x) (λ x. p x && q x) xs (λ x h. either_way (q
    x) (p x)) ∙ sym (filter_twice q p xs)
  where
    either_way : (a b : Bool) → (a && b) ≡ (b && a)
    either_way true true = refl
    either_way true false = refl
    either_way false true = refl
    either_way false false = refl

module _ (file : FileDef) (t : Tree AnyMapping) (g : Groups) (leaves : ℕ) (maps : List LeafMap) (f :
    File)
    (storable : IsStorable file) (tree : IsTreeFor file t leaves) (is : IsInternal file t maps f)
    (are : AreGroups t g) where
  abbrev mask : List Bool
  mask = g.mask.now

  abbrev all_rows : List Row
  all_rows = fin.entries f

  fields_are : (tree_form any_rule t).fields ≡ data_fields file
  fields_are = ap (λ (x : Form). x.fields) tree.form

  valid : IsValid any_rule (layer are.mapping (kid are.first (kid are.others no_kids)))
  valid = subst (IsValid any_rule) are.tree tree.valid

  held : IsHeld any_rule (layer are.mapping (kid are.first (kid are.others no_kids)))
      (file_records f)
      maps
  held = subst (λ t. IsHeld any_rule t (file_records f) maps) are.tree is.held

  row_of_tree : (r : Row) → In r all_rows → IsOf (tree_form any_rule t) (rec_of r)
  row_of_tree r h = subst (λ form. IsOf form (rec_of r)) (sym tree.form) ((set_of file f
      storable.keyed is.fit).fits (rec_of r) (in_map rec_of r all_rows h))

  key_of_row : (r : Row) → In r all_rows → Fits (key_kind file) r.0
  key_of_row r h = (all_in (IsRowOf file) all_rows r is.fit h).0

  first_form : tree_form any_rule are.first ≡ segment_form mask (tree_form any_rule t) 0
  first_form = valid.1.0 ∙ ap (λ (rule : Rule). rule.kid_form 0) are.splits

  other_form : tree_form any_rule are.others ≡ segment_form mask (tree_form any_rule t) 1
  other_form = valid.1.3.0 ∙ ap (λ (rule : Rule). rule.kid_form 1) are.splits

  first_fits : (q : Row) → In q (map (group_row mask) all_rows)
      → Fits (key_kind file) q.0 × IsOf (tree_form any_rule are.first) (rec_of q)
  first_fits q h =
      let r = from_map (group_row mask) q all_rows h in
      let fit = row_of_tree r.0 r.1 in
      subst (λ (x : Row). Fits (key_kind file) x.0
      × IsOf (tree_form any_rule are.first) (rec_of x)) (sym r.2) (
        key_of_row r.0 r.1,
        subst (λ form. IsOf form (rec_of (group_row mask r.0))) (sym first_form)
            (record {
              key = fit.key;
              fields = chosen_fit mask (tree_form any_rule t).fields r.0.1
                  fit.fields;
            }),
      )

  other_fits : (q : Row) → In q (other_rows (tree_form any_rule t) mask all_rows)
      → Fits (key_kind file) q.0 × IsOf (tree_form any_rule are.others) (rec_of q)
  other_fits q h =
      let some = filter (has_others mask (tree_form any_rule t).fields) all_rows in
      let r = from_map (group_row (map not mask)) q some h in
      let there = (in_filter (has_others mask (tree_form any_rule t).fields) r.0 all_rows r.1).0 in
      let fit = row_of_tree r.0 there in
      subst (λ (x : Row). Fits (key_kind file) x.0
      × IsOf (tree_form any_rule are.others) (rec_of x)) (sym r.2) (
        key_of_row r.0 there,
        subst (λ form. IsOf form (rec_of (group_row (map not mask) r.0))) (sym other_form)
            (record {
              key = fit.key;
              fields = chosen_fit (map not mask) (tree_form any_rule
                  t).fields r.0.1 fit.fields;
            }),
      )

  rows_order : Ascends key_cmp all_rows
  rows_order = entries_ascend value_cmp all_rows (fin.entries_sorted f)

  first_union : IsUnion any_rule are.first (map rec_of (map (group_row mask) all_rows)) maps
  first_union = subst (λ R. IsUnion any_rule are.first R maps)
      (ap (λ (rule : Rule). child_records rule 0 (file_records f)) are.splits
      ∙ firsts_go (tree_form any_rule t) mask all_rows)
      (union_from_internal any_rule are.first _ maps held.0)

  other_union : IsUnion any_rule are.others (map rec_of (other_rows (tree_form any_rule t) mask
      all_rows)) maps
  other_union = subst (λ R. IsUnion any_rule are.others R maps)
      (ap (λ (rule : Rule). child_records rule 1 (file_records f)) are.splits
      ∙ others_go (tree_form any_rule t) mask all_rows)
      (union_from_internal any_rule are.others _ maps held.1.0)

  others_order : Ascends key_cmp (other_rows (tree_form any_rule t) mask all_rows)
  others_order = group_ascends (map not mask) (filter (has_others mask (tree_form any_rule
      t).fields) all_rows)
      (ascends_filter key_cmp (has_others mask (tree_form any_rule t).fields) all_rows rows_order)

  first_leaf : fin.entries (map_at maps g.first.leaf)
      ≡ map (entry_of_row g.first.lengths g.first.codes) (map (group_row mask) all_rows)
  first_leaf = alone_entries are.first g.first maps (key_kind file) (map (group_row mask) all_rows)
      are.first_place storable.key
      first_fits (group_ascends mask all_rows rows_order) first_union

  other_leaf : fin.entries (map_at maps g.others.leaf)
      ≡ map (entry_of_row g.others.lengths g.others.codes) (other_rows (tree_form any_rule t) mask
      all_rows)
  other_leaf = alone_entries are.others g.others maps (key_kind file) (other_rows (tree_form
      any_rule t) mask all_rows) are.other_place storable.key
      other_fits others_order other_union

  pub firsts_stored : (span : Span) (entries : List Entry) → entries
      ≡ selected span.lo span.hi (map_at maps g.first.leaf)
      → entries ≡ map (λ (r : Row). entry_of (first_stored g r)) (rows_inside span f)
  firsts_stored span entries same =
      let inside = is_key_inside span in
      span_entries (map_at maps g.first.leaf) g.first.lengths g.first.codes (map (group_row mask)
      all_rows) span.lo span.hi [] _ entries first_leaf refl refl same
      ∙ ap (map (λ (r : Row). entry_of (entry_of_row g.first.lengths g.first.codes r)))
      (filter_map inside (group_row mask) all_rows)
      ∙ map_joined (λ (r : Row). entry_of (entry_of_row g.first.lengths g.first.codes r))
      (group_row mask) (rows_inside span f)

  pub others_stored : (span : Span) (entries : List Entry) → entries
      ≡ selected span.lo span.hi (map_at maps g.others.leaf)
      → entries ≡ map (λ (r : Row). entry_of (other_stored g r)) (filter (has_others mask
      (data_fields file)) (rows_inside span f))
  others_stored span entries same =
      let inside = is_key_inside span in
      let some = filter (has_others mask (tree_form any_rule t).fields) all_rows in
      span_entries (map_at maps g.others.leaf) g.others.lengths g.others.codes (map (group_row (map
      not mask)) some) span.lo span.hi [] _ entries other_leaf refl refl same
      ∙ ap (map (λ (r : Row). entry_of (entry_of_row g.others.lengths g.others.codes r)))
      (filter_map inside (group_row (map not mask)) some)
      ∙ map_joined (λ (r : Row). entry_of (entry_of_row g.others.lengths g.others.codes r))
      (group_row (map not mask)) (filter inside some)
      ∙ ap (map (λ (r : Row). entry_of (other_stored g r))) (commuted inside (has_others mask
      (tree_form any_rule t).fields) all_rows
      ∙ ap (λ fields. filter (has_others mask fields) (rows_inside span f)) fields_are)

  -- the same where no field stands by a code
  pub firsts_inside : ArePlain g → (span : Span) (entries : List Entry) → entries
      ≡ selected span.lo span.hi (map_at maps g.first.leaf)
      → entries ≡ map (λ (r : Row). entry_of (first_entry g r)) (rows_inside span f)
  firsts_inside plain span entries same = firsts_stored span entries same
      ∙ ap (λ cs. map (λ (r : Row). entry_of (entry_of_row g.first.lengths cs (group_row mask r)))
      (rows_inside span f)) plain.first

  pub others_inside : ArePlain g → (span : Span) (entries : List Entry) → entries
      ≡ selected span.lo span.hi (map_at maps g.others.leaf)
      → entries ≡ map (λ (r : Row). entry_of (other_entry g r)) (filter (has_others mask
      (data_fields file)) (rows_inside span f))
  others_inside plain span entries same = others_stored span entries same
      ∙ ap (λ cs. map (λ (r : Row). entry_of (entry_of_row g.others.lengths cs (group_row (map not
      mask) r))) (filter (has_others mask (data_fields file)) (rows_inside span f))) plain.others

  pub rows_fit_inside : (span : Span) → AllByRecursion (IsRowOf file) (rows_inside span f)
  rows_fit_inside span = all_of (IsRowOf file) (rows_inside span f)
      (λ r h. all_in (IsRowOf file) all_rows r is.fit (in_filter (is_key_inside span) r all_rows
      h).0)

  first_coded : (r : Row) → In r all_rows → HaveCodes g.first.codes (chosen mask r.1)
  first_coded r h = alone_coded are.first g.first maps (key_kind file) (map (group_row mask)
      all_rows) are.first_place storable.key first_fits (group_ascends mask all_rows rows_order)
      first_union (group_row mask r) (in_map (group_row mask) r all_rows h)

  other_coded : (r : Row) → In r all_rows → has_others mask (data_fields file) r ≡ true
      → HaveCodes g.others.codes (chosen (map not mask) r.1)
  other_coded r h has =
      let test = has_others mask (tree_form any_rule t).fields in
      let there : test r ≡ true = ap (λ fields. has_others mask fields r) fields_are ∙ has in
      alone_coded are.others g.others maps (key_kind file) (other_rows (tree_form any_rule t) mask
      all_rows) are.other_place storable.key other_fits others_order other_union
      (group_row (map not mask) r)
      (in_map (group_row (map not mask)) r (filter test all_rows) (filter_in test r all_rows h
      there))

  pub rows_split_inside : (span : Span) → AllByRecursion (IsSplitRow file g) (rows_inside span f)
  rows_split_inside span = all_of (IsSplitRow file g) (rows_inside span f) (λ r h.
      let there = (in_filter (is_key_inside span) r all_rows h).0 in
      (all_in (IsRowOf file) all_rows r is.fit there, first_coded r there, other_coded r there))

  pub rows_order_inside : (span : Span) → Ascends key_cmp (rows_inside span f)
  rows_order_inside span = ascends_filter key_cmp (is_key_inside span) all_rows rows_order

  -- ---- how many entries they are

  first_some : (r : Row) → In r all_rows → 1 ≤ length (entries_of any_rule are.first (rec_of
      (group_row mask r)))
  first_some r h = alone_some are.first g.first maps (key_kind file) (map (group_row mask) all_rows)
      are.first_place storable.key
      first_fits (group_ascends mask all_rows rows_order) first_union (group_row mask r) (in_map
      (group_row mask) r all_rows h)

  other_some : (r : Row) → In r all_rows → has_others mask (tree_form any_rule t).fields r ≡ true
      → 1 ≤ length (entries_of any_rule are.others (rec_of (group_row (map not mask) r)))
  other_some r h has =
      let some = filter (has_others mask (tree_form any_rule t).fields) all_rows in
      alone_some are.others g.others maps (key_kind file) (other_rows (tree_form any_rule t) mask
      all_rows) are.other_place storable.key
      other_fits others_order other_union (group_row (map not mask) r)
      (in_map (group_row (map not mask)) r some (filter_in (has_others mask (tree_form any_rule
      t).fields) r all_rows h has))

  entries_are : (r : Row) → entries_of any_rule t (rec_of r)
      ≡ flat_map (λ p. kid_entries any_rule (kid are.first (kid are.others no_kids)) p.child p.rec)
      ((segment_rule (tree_form any_rule t) mask).parts (rec_of r))
  entries_are r = ap (λ t. entries_of any_rule t (rec_of r)) are.tree
      ∙ ap (λ (rule : Rule). flat_map (λ p. kid_entries any_rule (kid are.first (kid are.others
      no_kids)) p.child p.rec) (rule.parts (rec_of r))) are.splits

  abbrev first_of : Row → List LeafEntry
  first_of r = entries_of any_rule are.first (rec_of (group_row mask r))

  abbrev other_of : Row → List LeafEntry
  other_of r = entries_of any_rule are.others (rec_of (group_row (map not mask) r))

  row_most : (most : ℕ) → HaveAtMost most t f → (r : Row) → In r all_rows
      → 1 + length (cond (has_others mask (tree_form any_rule t).fields r) (r ∷ []) []) ≤ most
  row_most most few r h = go (is_short mask (tree_form any_rule t) (rec_of r)) refl
    where
      go : (b : Bool) → is_short mask (tree_form any_rule t) (rec_of r) ≡ b
          → 1 + length (cond (has_others mask (tree_form any_rule t).fields r) (r ∷ []) []) ≤ most
      go true e =
          let all : entries_of any_rule t (rec_of r) ≡ first_of r ++ [] =
          entries_are r ∙ ap (λ b. flat_map (λ p. kid_entries any_rule (kid are.first (kid
          are.others no_kids)) p.child p.rec)
          (first_part mask (rec_of r) ∷ (if b then [] else other_part mask (rec_of r) ∷ []))) e in
          let none : length (cond (has_others mask (tree_form any_rule t).fields r) (r ∷ []) [])
          ≡ 0 =
          ap (λ b. length (cond (not b) (r ∷ []) [])) e in
          omega (arith, none, few r h, ap length all, length-append (first_of r) [], first_some r h)
      go false e =
          let all : entries_of any_rule t (rec_of r) ≡ first_of r ++ (other_of r ++ []) =
          entries_are r ∙ ap (λ b. flat_map (λ p. kid_entries any_rule (kid are.first (kid
          are.others no_kids)) p.child p.rec)
          (first_part mask (rec_of r) ∷ (if b then [] else other_part mask (rec_of r) ∷ []))) e in
          let one : length (cond (has_others mask (tree_form any_rule t).fields r) (r ∷ []) [])
          ≡ 1 =
          ap (λ b. length (cond (not b) (r ∷ []) [])) e in
          omega (
            arith,
            one,
            few r h,
            ap length all,
            length-append (first_of r) (other_of r ++ []),
            length-append (other_of r) [],
            first_some r h,
            other_some r h (ap not e),
          )

  rows_most : (most : ℕ) → HaveAtMost most t f → (rs : List Row) → ((r : Row) → In r rs
      → In r all_rows)
      → length rs + length (filter (has_others mask (tree_form any_rule t).fields) rs) ≤ length rs *
      most
  rows_most most few [] there = omega arith
  rows_most most few (r ∷ rs) there =
      let one = row_most most few r (there r (inl refl)) in
      let rest = rows_most most few rs (λ q h. there q (inr h)) in
      let more = kept_many (has_others mask (tree_form any_rule t).fields r) r (filter (has_others
      mask (tree_form any_rule t).fields) rs) in
      omega (arith, one, rest, more)
    where
      kept_many : (b : Bool) (r : Row) (rs : List Row) → length (cond b (r ∷ rs) rs)
          ≡ length (cond b (r ∷ []) []) + length rs
      kept_many true r rs = omega arith
      kept_many false r rs = omega arith

  leaves_many : 2 ≤ length (leaves_of t)
  leaves_many =
      let first = alone_there are.first g.first maps (key_kind file) (map (group_row mask) all_rows)
      are.first_place storable.key
      first_fits (group_ascends mask all_rows rows_order) first_union in
      let other = alone_there are.others g.others maps (key_kind file) (other_rows (tree_form
      any_rule t) mask all_rows) are.other_place storable.key
      other_fits others_order other_union in
      omega (
        arith,
        ap (λ t. length (leaves_of t)) are.tree,
        length-append (leaves_of are.first) (leaves_of are.others ++ []),
        length-append (leaves_of are.others) [],
        some_there (leaves_of are.first) g.first.leaf first,
        some_there (leaves_of are.others) g.others.leaf other,
      )
    where
      some_there : (ns : List ℕ) (n : ℕ) → In n ns → 1 ≤ length ns
      some_there [] n h = absurd h
      some_there (m ∷ ns) n h = omega arith

  -- a step for each of the two leaves, and for each entry there within the span
  pub steps_inside : (span : Span) (most n m : ℕ) → HaveAtMost most t f
      → n ≡ length (rows_inside span f) → m ≡ length (filter (has_others mask (data_fields file))
      (rows_inside span f))
      → (1 + n) + (1 + m) ≤ length (leaves_of t) + length (rows_inside span f) * most
  steps_inside span most n m few ns ms =
      let all = rows_most most few (rows_inside span f) (λ r h. (in_filter (is_key_inside span) r
      all_rows h).0) in
      let same : length (filter (has_others mask (tree_form any_rule t).fields) (rows_inside span
      f))
      ≡ length (filter (has_others mask (data_fields file)) (rows_inside span f)) =
      ap (λ fields. length (filter (has_others mask fields) (rows_inside span f))) fields_are in
      omega (arith, ns, ms, all, same, leaves_many)
