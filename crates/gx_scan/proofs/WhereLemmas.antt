-- The records of a file whose keys an index gives.
use Rattle.std.proofs.Common.{[], ◌≡◌, ℕ, zero, suc, ◌+◌, ◌<◌, ◌≤◌, List, ◌∷◌, ◌++◌, length, map, drop, get_or, Bool, true, Option, Some, inl, inr, refl, sym, ap, subst, ◌∙◌, arith, append_assoc, append-nil}
use Rattle.std.specs.Prelude.{filter, flat_map, ◌&&◌, pos}
use Rattle.std.specs.Option.{option_map}
use Rattle.std.specs.declared.cmp.Ordering.TheVariants.{Less}
use Rattle.std.specs.FinMap as fin
use Rattle.std.specs.List.Sorted.{IsPermutation}
use Rattle.std.proofs.lemmas.List.{drop_all}
use Rattle.std.proofs.lemmas.List.Elements.{filter-append}
use Rattle.std.proofs.lemmas.Option.{same_Some}
use Rattle.gx_laws.proofs.ListLemmas.{get_or_any}
use Rattle.gx_laws.proofs.BoolLemmas.{both_parts}
use Rattle.gx_values.specs.declared.values.Kind.{Kind}
use Rattle.gx_values.specs.declared.values.Kind.TheVariants as kind
use Rattle.gx_values.specs.declared.values.Value.{Value}
use Rattle.gx_values.specs.declared.values.Value.TheVariants as value
use Rattle.gx_values.specs.declared.records.Field.{Field}
use Rattle.gx_values.specs.declared.records.Form.{Form}
use Rattle.gx_values.specs.declared.records.Rec.{Rec}
use Rattle.gx_values.specs.declared.keys.Span.{Span}
use Rattle.gx_values.specs.Values.{value_cmp, no_field, kind_in}
use Rattle.gx_values.specs.Keys.{bytes_of, is_inside, IsKeyKind, AreKeyFields}
use Rattle.gx_values.specs.Spans.{IsSpanKind, IsValueSpan}
use Rattle.gx_values.proofs.OrderLemmas.{value_cmp_total}
use Rattle.gx_schema.specs.declared.schema.FileDef.{FileDef}
use Rattle.gx_schema.specs.Lookups.{field_at, data_fields}
use Rattle.gx_commands.specs.declared.command.Cond.{Cond}
use Rattle.gx_actual.specs.Bodies.{IsShort}
use Rattle.gx_actual.proofs.BodyLemmas.{item_short}
use Rattle.gx_mapping.specs.Rule.{In, is_field, first_in}
use Rattle.gx_mapping.proofs.FieldLemmas.{first_kind, first_value}
use Rattle.gx_mapping.proofs.RuleLemmas.{all_in}
use Rattle.gx_stack.specs.Tree.{Tree, tree_form}
use Rattle.gx_stack.specs.Indexed.{is_where, is_value_inside, AreUnderOwnKeys, AreKeysOf}
use Rattle.gx_gather.proofs.Lists.{in_map, from_map, in_filter, filter_in, each_next}
use Rattle.gx_gather.proofs.Orders.{Ascends, not_before_itself}
use Rattle.gx_types.specs.declared.any.AnyMapping.{AnyMapping}
use Rattle.gx_types.specs.Any.{any_rule}
use Rattle.gx_typing.specs.Dues.{file_form}
use Rattle.gx_model.specs.States.{File, Row, IsRowOf, HasRowsOf}
use Rattle.gx_model.specs.Found.{value_at, meets_conds}
use Rattle.gx_scan.specs.Files.{rec_of, file_records, IsStorable}
use Rattle.gx_scan.specs.Records.{list_of_one}
use Rattle.gx_scan.specs.Within.{row_of}
use Rattle.gx_scan.specs.Where.{AreNamed, is_found_by, AreAddedWhere, rows_at_key}
use Rattle.gx_scan.proofs.DistinctLemmas.{AreDistinct, same_items, distinct_filter}
use Rattle.gx_scan.proofs.FileLemmas.{in_there}
use Rattle.gx_scan.proofs.ListingLemmas.{same_filter}
use Rattle.gx_scan.proofs.PlaceLemmas.{key_cmp, entries_ascend}
use Rattle.gx_scan.proofs.SelectLemmas.{second_alone}

-- ---- fields by their names

data_at : (fs : List Field) (i : ℕ) → get_or (drop 1 fs) i no_field ≡ get_or fs (suc i) no_field
data_at [] i = refl
data_at (f ∷ fs) i = refl

fewer : (fs : List Field) (i : ℕ) → suc i < length fs → i < length (drop 1 fs)
fewer [] i lt = absurd (omega arith)
fewer (f ∷ fs) i lt = omega arith

-- a data field, of this number in the file, is the first one of its name
pub record IsNamed (file : FileDef) (field : ℕ) : Type 0 where
  pub there : is_field (data_fields file) (field_at file field).name ≡ true
  pub first : suc (first_in (data_fields file) (field_at file field).name) ≡ field

pub named_at : (file : FileDef) (field : ℕ) → AreNamed file → 0 < field → field < length file.fields
    → IsNamed file field
named_at file zero named past lt = absurd (omega arith)
named_at file (suc i) named past lt =
    let n = named i (fewer file.fields i lt) in
    let same = ap (λ (f : Field). f.name) (data_at file.fields i) in
    record {
      there = subst (λ (name : List ℕ). is_field (data_fields file) name ≡ true) same n.0;
      first = ap suc (subst (λ (name : List ℕ). first_in (data_fields file) name ≡ i) same n.1);
    }

pub kind_named : (file : FileDef) (field : ℕ) → IsNamed file field
    → kind_in (data_fields file) (field_at file field).name ≡ Some (field_at file field).kind
kind_named file field is =
    let name = (field_at file field).name in
    first_kind (data_fields file) name no_field is.there
    ∙ ap (λ (f : Field). Some f.kind) (data_at file.fields (first_in (data_fields file) name)
    ∙ ap (λ (n : ℕ). get_or file.fields n no_field) is.first)

pub span_named : (file : FileDef) (t : Tree AnyMapping) (field : ℕ) (span : Span) (kind : Kind)
    → tree_form any_rule t ≡ file_form file → IsNamed file field
    → IsValueSpan (field_at file field).kind span
    → kind_in (tree_form any_rule t).fields (field_at file field).name ≡ Some kind
    → IsValueSpan kind span
span_named file t field span kind form is spans e =
    let name = (field_at file field).name in
    let same = sym (kind_named file field is) ∙ ap (λ (x : Form). kind_in x.fields name) (sym form)
    ∙ e in
    subst (λ (k : Kind). IsValueSpan k span) (same_Some (field_at file field).kind kind same) spans

where_is : (file : FileDef) (t : Tree AnyMapping) (field : ℕ) (span : Span) (x : Row)
    → tree_form any_rule t ≡ file_form file → IsNamed file field → IsRowOf file x
    → is_where (tree_form any_rule t) (field_at file field).name span (rec_of x)
    ≡ is_inside span.lo span.hi (bytes_of (value_at x field))
where_is file t field span x form is fit =
    let name = (field_at file field).name in
    ap (λ (y : Form). is_where y name span (rec_of x)) form
    ∙ ap (is_value_inside span)
    (first_value (data_fields file) x.1 name (value.Int (pos 0)) fit.1 is.there
    ∙ ap (λ (n : ℕ). Some (value_at x n)) is.first)

-- ---- the kind of an indexed field

key_kind_at : (fs : List Field) (i : ℕ) → AreKeyFields fs → i < length fs
    → IsKeyKind (get_or fs i no_field).kind
key_kind_at [] i are lt = absurd (omega arith)
key_kind_at (f ∷ fs) zero are lt = are.0
key_kind_at (f ∷ fs) (suc i) are lt = key_kind_at fs i are.1 (omega arith)

spanned : (k : Kind) → IsKeyKind k → IsShort k → IsSpanKind k
spanned kind.Int key short = tt
spanned (kind.Text most) key short = omega arith
spanned (kind.Bytes most) key short = absurd key

-- there is a span of the values of a data field
pub data_spanned : (file : FileDef) (field : ℕ) → IsStorable file → 0 < field
    → field < length file.fields → IsSpanKind (field_at file field).kind
data_spanned file zero is past lt = absurd (omega arith)
data_spanned file (suc i) is past lt =
    let fs = data_fields file in
    let f : Field = get_or fs i no_field in
    let there = fewer file.fields i lt in
    subst (λ (g : Field). IsSpanKind g.kind) (data_at file.fields i)
    (spanned f.kind (key_kind_at fs i is.others there)
    (item_short fs f i is.short there (get_or_any fs i no_field f there)))

-- ---- records as rows

again : (f : File) (r : Rec) → In r (file_records f) → rec_of (row_of r) ≡ r
again f r h = let a = from_map rec_of r (fin.entries f) h in ap (λ (x : Rec). rec_of (row_of x)) a.2
    ∙ sym a.2

own_rows : (f : File) (recs : List Rec) → ((r : Rec) → In r recs → In r (file_records f))
    → AreUnderOwnKeys recs → AreDistinct (map row_of recs)
own_rows f [] there own = tt
own_rows f (r ∷ rs) there own = (
  λ h.
      let s = from_map row_of (row_of r) rs h in
      let same : s.0 ≡ r = sym (again f s.0 (there s.0 (inr s.1))) ∙ ap rec_of (sym s.2)
      ∙ again f r (there r (inl refl)) in
      own.0 s.0 s.1 (ap (λ (x : Rec). x.key) same),
  own_rows f rs (λ q h. there q (inr h)) own.1,
)

record_there : (f : File) (r : Rec) → In r (file_records f) → rows_at_key f r.key ≡ row_of r ∷ []
record_there f r h =
    let a = in_there f r h in
    ap (λ (x : Rec). rows_at_key f x.key) a.is
    ∙ ap (λ (o : Option (List Value)). map row_of
    (list_of_one (option_map (λ values. rec_of (a.key, values)) o))) a.found
    ∙ ap (λ (x : Rec). row_of x ∷ []) (sym a.is)

pub rows_found : (f : File) (recs : List Rec) → ((r : Rec) → In r recs → In r (file_records f))
    → flat_map (rows_at_key f) (map (λ r. r.key) recs) ≡ map row_of recs
rows_found f [] there = refl
rows_found f (r ∷ rs) there =
    λ i. record_there f r (there r (inl refl)) i ++ rows_found f rs (λ q h. there q (inr h)) i

distinct_rows : (rs : List Row) → Ascends key_cmp rs → AreDistinct rs
distinct_rows [] up = tt
distinct_rows (r ∷ rs) up = (
  λ h. not_before_itself value_cmp_total r.0 (all_in (λ y. key_cmp r y ≡ Less) rs r up.0 h),
  distinct_rows rs up.1,
)

-- the records at the keys that an index gives, where they meet the conditions
pub found_where : (file : FileDef) (t : Tree AnyMapping) (field : ℕ) (span : Span)
    (conds : List Cond) (f : File) (steps_before steps : ℕ) (keys : List (List Value))
    (before now : List Row) → tree_form any_rule t ≡ file_form file → IsNamed file field
    → HasRowsOf file f → AreKeysOf any_rule t (field_at file field).name span
    (file_records f) steps_before steps keys
    → now ≡ before ++ filter (meets_conds conds) (flat_map (rows_at_key f) keys)
    → AreAddedWhere field span conds f before now
found_where file t field span conds f steps_before steps keys before now form named fits are
    now_is =
    let meets = meets_conds conds in
    let inside = λ (r : Row). is_inside span.lo span.hi (bytes_of (value_at r field)) in
    let recs = are.recs in
    let there : (r : Rec) → In r recs → In r (file_records f) = λ r h. (are.sound r h).0 in
    let rows : flat_map (rows_at_key f) keys ≡ map row_of recs =
    ap (flat_map (rows_at_key f)) are.same ∙ rows_found f recs there in
    let test : (x : Row) → In x (fin.entries f)
    → is_where (tree_form any_rule t) (field_at file field).name span (rec_of x) ≡ inside x =
    λ x h. where_is file t field span x form named
    (all_in (IsRowOf file) (fin.entries f) x fits h) in
    let to : (x : Row) → In x (filter (is_found_by field span conds) (fin.entries f))
    → In x (filter meets (map row_of recs)) = λ x h.
    let kept = in_filter (is_found_by field span conds) x (fin.entries f) h in
    let two = both_parts (inside x) (meets x) kept.1 in
    filter_in meets x (map row_of recs)
    (in_map row_of (rec_of x) recs
    (are.complete (rec_of x) (in_map rec_of x (fin.entries f) kept.0) (test x kept.0
    ∙ two.0))) two.1 in
    let from : (x : Row) → In x (filter meets (map row_of recs))
    → In x (filter (is_found_by field span conds) (fin.entries f)) = λ x h.
    let kept = in_filter meets x (map row_of recs) h in
    let r = from_map row_of x recs kept.0 in
    let s = are.sound r.0 r.1 in
    let y = from_map rec_of r.0 (fin.entries f) s.0 in
    let same : x ≡ y.0 = r.2 ∙ ap row_of y.2 in
    let in_span : inside y.0 ≡ true = sym (test y.0 y.1)
    ∙ ap (is_where (tree_form any_rule t) (field_at file field).name span) (sym y.2) ∙ s.1 in
    let met : meets y.0 ≡ true = ap meets (sym same) ∙ kept.1 in
    subst (λ (z : Row). In z (filter (is_found_by field span conds) (fin.entries f))) (sym same)
    (filter_in (is_found_by field span conds) y.0 (fin.entries f) y.1 (λ i. in_span i && met i))
    in
    record {
      added = filter meets (map row_of recs);
      appended = now_is ∙ ap (λ (l : List Row). before ++ filter meets l) rows;
      those = same_items (filter (is_found_by field span conds) (fin.entries f))
          (filter meets (map row_of recs))
          (distinct_filter (is_found_by field span conds) (fin.entries f)
          (distinct_rows (fin.entries f)
          (entries_ascend value_cmp (fin.entries f) (fin.entries_sorted f))))
          (distinct_filter meets (map row_of recs) (own_rows f recs there are.once)) to from;
    }

-- where the span has the field of each record that meets the conditions, those found by it are all
-- that meet them
pub covered_where : (field : ℕ) (span : Span) (conds : List Cond) (f : File) (before now : List Row)
    → ((r : Row) → In r (fin.entries f) → meets_conds conds r ≡ true
    → is_inside span.lo span.hi (bytes_of (value_at r field)) ≡ true) → before ≡ []
    → AreAddedWhere field span conds f before now
    → IsPermutation (filter (meets_conds conds) (fin.entries f)) now
covered_where field span conds f before now covers none is =
    let items : now ≡ is.added = is.appended ∙ ap (λ (l : List Row). l ++ is.added) none in
    let same = same_filter (is_found_by field span conds) (meets_conds conds) (fin.entries f)
    (λ r h. second_alone (is_inside span.lo span.hi (bytes_of (value_at r field)))
    (meets_conds conds r) (covers r h)) in
    subst (λ (l : List Row). IsPermutation l now) same
    (subst (IsPermutation (filter (is_found_by field span conds) (fin.entries f)))
    (sym items) is.those)

-- ---- from key to key

-- `now` has also the record at the key of this number
pub rows_next : (f : File) (p : Row → Bool) (keys : List (List Value)) (i : ℕ) (key : List Value)
    (before rows now : List Row) → key ≡ get_or keys i key → i < length keys
    → now ≡ rows ++ filter p (rows_at_key f key)
    → rows ++ filter p (flat_map (rows_at_key f) (drop i keys)) ≡ before
    → now ++ filter p (flat_map (rows_at_key f) (drop (i + 1) keys)) ≡ before
rows_next f p keys i key before rows now read lt now_is so_far =
    let one = rows_at_key f key in
    let more = flat_map (rows_at_key f) (drop (i + 1) keys) in
    ap (λ (l : List Row). l ++ filter p more) now_is
    ∙ append_assoc rows (filter p one) (filter p more)
    ∙ ap (λ (l : List Row). rows ++ l) (sym (filter-append p one more))
    ∙ ap (λ (l : List Row). rows ++ filter p l) (sym (each_next (rows_at_key f) keys i key read lt))
    ∙ so_far

pub rows_done : (f : File) (p : Row → Bool) (keys : List (List Value)) (i : ℕ)
    (before rows : List Row) → length keys ≤ i
    → rows ++ filter p (flat_map (rows_at_key f) (drop i keys)) ≡ before → rows ≡ before
rows_done f p keys i before rows past so_far =
    sym (append-nil rows) ∙ ap
    (λ (ks : List (List Value)). rows ++ filter p (flat_map (rows_at_key f) ks))
    (sym (drop_all i keys past)) ∙ so_far
