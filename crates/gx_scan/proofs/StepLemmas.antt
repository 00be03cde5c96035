-- The steps of searches, counted by records.
use Rattle.std.proofs.Common.{[], ◌≡◌, ℕ, ◌+◌, ◌*◌, ◌<◌, ◌≤◌, List, ◌∷◌, length, map, take, Option, Some, None, inl, inr, refl, sym, ap, subst, ◌∙◌, arith}
use Rattle.std.specs.Prelude.{filter, flat_map}
use Rattle.std.specs.FinMap as fin
use Rattle.std.proofs.Math.Nat.{mul-le-mul_right}
use Rattle.std.proofs.lemmas.List.{length-map, length-take}
use Rattle.std.proofs.lemmas.List.Sorted.{length_permutation}
use Rattle.std.proofs.lemmas.List.Sums.{sum_by-cons}
use Rattle.std.proofs.Math.Bool.{and-true}
use Rattle.gx_values.specs.declared.values.Value.{Value}
use Rattle.gx_values.specs.declared.records.Form.{Form}
use Rattle.gx_values.specs.declared.records.Rec.{Rec}
use Rattle.gx_values.specs.declared.keys.Span.{Span}
use Rattle.gx_values.specs.Keys.{bytes_of, is_inside}
use Rattle.gx_schema.specs.declared.schema.FileDef.{FileDef}
use Rattle.gx_schema.specs.Lookups.{field_at}
use Rattle.gx_ports.specs.LeafMaps.{counted}
use Rattle.gx_mapping.specs.Rule.{In, IsOf}
use Rattle.gx_mapping.proofs.RuleLemmas.{all_in}
use Rattle.gx_stack.specs.Tree.{Tree, entries_of, entry_total, tree_form, leaves_of, IsValid}
use Rattle.gx_stack.specs.Indexed.{AreKeysOf}
use Rattle.gx_stack.specs.Selected.{IsSelection}
use Rattle.gx_gather.proofs.Lists.{from_map, IsOnce}
use Rattle.gx_types.specs.declared.any.AnyMapping.{AnyMapping}
use Rattle.gx_types.specs.Any.{any_rule}
use Rattle.gx_typing.specs.Dues.{file_form}
use Rattle.gx_model.specs.States.{File, Row, IsRowOf, HasRowsOf}
use Rattle.gx_model.specs.Found.{value_at, meets_conds}
use Rattle.gx_scan.specs.declared.places.Place.{Place}
use Rattle.gx_scan.specs.Files.{rec_of, file_records}
use Rattle.gx_scan.specs.Records.{list_of_one}
use Rattle.gx_scan.specs.Entries.{ArePlaces}
use Rattle.gx_scan.specs.Within.{row_of}
use Rattle.gx_scan.specs.Where.{is_found_by, rows_at_key}
use Rattle.gx_scan.specs.Steps.{HaveAtMost, rows_inside, rows_with}
use Rattle.gx_scan.proofs.DistinctLemmas.{AreDistinct, few_below}
use Rattle.gx_scan.proofs.FileLemmas.{row_fits}
use Rattle.gx_scan.proofs.ListingLemmas.{same_filter, filter_true}
use Rattle.gx_scan.proofs.PlaceLemmas.{leaves_once}
use Rattle.gx_scan.proofs.SelectLemmas.{selected_is}
use Rattle.gx_scan.proofs.WhereLemmas.{IsNamed, found_where, rows_found}

-- ---- entries of records

-- records of the file have so many entries each, at most
pub total_most : (t : Tree AnyMapping) (f : File) (most : ℕ) (rs : List Rec) → HaveAtMost most t f
    → ((r : Rec) → In r rs → In r (file_records f)) → entry_total any_rule t rs ≤ length rs * most
total_most t f most [] few there = omega arith
total_most t f most (r ∷ rs) few there =
    let a = from_map rec_of r (fin.entries f) (there r (inl refl)) in
    let one : length (entries_of any_rule t r) ≤ most =
    subst (λ (x : Rec). length (entries_of any_rule t x) ≤ most) (sym a.2) (few a.0 a.1) in
    let rest = total_most t f most rs few (λ q h. there q (inr h)) in
    omega (arith, one, rest, sum_by-cons (λ (x : Rec). length (entries_of any_rule t x)) r rs)

-- at most one record
pub one_total : (t : Tree AnyMapping) (f : File) (most : ℕ) (o : Option Rec) (rs : List Rec)
    → rs ≡ list_of_one o → HaveAtMost most t f → ((r : Rec) → In r rs → In r (file_records f))
    → entry_total any_rule t rs ≤ most
one_total t f most o rs is few there =
    let all = total_most t f most rs few there in
    let many : length rs ≤ 1 = subst (λ (l : List Rec). length l ≤ 1) (sym is) (at_most_one o) in
    let product : length rs * most ≤ 1 * most = mul-le-mul_right most many in
    omega (arith, all, product)
  where
    at_most_one : (o : Option Rec) → length (list_of_one o) ≤ 1
    at_most_one None = omega arith
    at_most_one (Some r) = omega arith

-- the records that a selection finds
pub inside_total : (t : Tree AnyMapping) (f : File) (span : Span) (most : ℕ) (found : List Rec)
    → IsSelection (file_records f) span found → HaveAtMost most t f
    → entry_total any_rule t found ≤ length (rows_inside span f) * most
inside_total t f span most found is few =
    let many : length found ≡ length (rows_inside span f) = ap length (selected_is f span found is)
    ∙ length-map (rows_inside span f) rec_of in
    subst (λ n. entry_total any_rule t found ≤ n * most) many
    (total_most t f most found few (λ r h. (is.sound r h).0))

-- a record that stands whole in a leaf has one entry
pub whole_most : (file : FileDef) (t : Tree AnyMapping) (f : File) (most : ℕ) (places : List Place)
    (rs : List Row) → ArePlaces 0 t places → tree_form any_rule t ≡ file_form file
    → 0 < length file.fields → HasRowsOf file f → HaveAtMost most t f
    → ((r : Row) → In r rs → In r (fin.entries f)) → length rs ≤ length rs * most
whole_most file t f most places [] are form keyed fit few there = omega arith
whole_most file t f most places (r ∷ rs) are form keyed fit few there =
    let here = there r (inl refl) in
    let fits : IsOf (tree_form any_rule t) (rec_of r) =
    subst (λ (x : Form). IsOf x (rec_of r)) (sym form)
    (row_fits file r keyed (all_in (IsRowOf file) (fin.entries f) r fit here)) in
    let stands = are.stand (rec_of r) fits tt in
    let one : 1 ≤ most = omega (arith, few r here, ap length stands.3.first) in
    omega (
      arith,
      one,
      whole_most file t f most places rs are form keyed fit few
          (λ q h. there q (inr h)),
    )

-- ---- the records that an index finds

-- the index gives a key for each record with its field inside the span
pub keys_many : (file : FileDef) (t : Tree AnyMapping) (field : ℕ) (span : Span) (f : File)
    (before steps : ℕ) (keys : List (List Value)) → tree_form any_rule t ≡ file_form file
    → IsNamed file field → HasRowsOf file f
    → AreKeysOf any_rule t (field_at file field).name span (file_records f) before steps
    keys → length keys ≡ length (rows_with field span f)
keys_many file t field span f before steps keys form named fit are =
    let now = filter (meets_conds []) (flat_map (rows_at_key f) keys) in
    let where_is = found_where file t field span [] f before steps keys [] now form named fit are
    refl in
    let rows : now ≡ map row_of are.recs = filter_true (flat_map (rows_at_key f) keys)
    ∙ ap (flat_map (rows_at_key f)) are.same ∙ rows_found f are.recs (λ r h. (are.sound r h).0)
    in
    let all : filter (is_found_by field span []) (fin.entries f) ≡ rows_with field span f =
    same_filter (is_found_by field span []) _ (fin.entries f) (λ r h. and-true (is_inside span.lo
    span.hi (bytes_of (value_at r field)))) in
    ap length are.same ∙ length-map are.recs (λ (r : Rec). r.key) ∙ sym (length-map are.recs row_of)
    ∙ ap length (sym rows) ∙ ap length where_is.appended
    ∙ length_permutation (filter (is_found_by field span []) (fin.entries f)) where_is.added
    where_is.those ∙ ap length all

pub keys_total : (file : FileDef) (t : Tree AnyMapping) (field : ℕ) (span : Span) (f : File)
    (most before steps : ℕ) (keys : List (List Value))
    → AreKeysOf any_rule t (field_at file field).name span (file_records f) before steps keys
    → HaveAtMost most t f → steps ≤ before + (length (leaves_of t) + length keys * most)
keys_total file t field span f most before steps keys are few =
    let all = total_most t f most are.recs few (λ r h. (are.sound r h).0) in
    let many : length are.recs ≡ length keys =
    sym (ap length are.same ∙ length-map are.recs (λ (r : Rec). r.key)) in
    let total : entry_total any_rule t are.recs ≤ length keys * most =
    subst (λ n. entry_total any_rule t are.recs ≤ n * most) many all in
    omega (arith, are.few_steps, total)

-- ---- from call to call

-- one step, and one for each entry of so many
pub counted_most : (before now more many : ℕ) → now ≡ counted before (1 + more) → more ≡ many
    → now ≤ before + (1 + many)
counted_most before now more many is same = omega (arith, is, same)

-- of one item more
pub taken_more : {A : Type 0} (xs : List A) (i cost before now after : ℕ) → i < length xs
    → now ≤ before + length (take i xs) * cost → after ≤ now + cost
    → after ≤ before + length (take (i + 1) xs) * cost
taken_more xs i cost before now after lt so_far next =
    let more : length (take i xs) + 1 ≡ length (take (i + 1) xs) =
    omega (arith, length-take i xs, length-take (i + 1) xs) in
    subst (λ n. after ≤ before + n * cost) more (omega (arith, so_far, next))

pub taken_all : {A : Type 0} (xs : List A) (i cost before now : ℕ)
    → now ≤ before + length (take i xs) * cost → now ≤ before + length xs * cost
taken_all xs i cost before now so_far =
    let few : length (take i xs) ≤ length xs = omega (arith, length-take i xs) in
    let product : length (take i xs) * cost ≤ length xs * cost = mul-le-mul_right cost few in
    omega (arith, so_far, product)

-- the steps of an index, and of the record at each key
pub where_steps : (leaves many most before between after n : ℕ) → n ≡ many
    → between ≤ before + (leaves + n * most) → after ≤ between + n * (leaves + most)
    → after ≤ before + ((many + 1) * leaves + 2 * (many * most))
where_steps leaves many most before between after n same first next =
    subst (λ k. after ≤ before + ((k + 1) * leaves + 2 * (k * most))) same
    (omega (arith, first, next))

-- ---- the leaves of a tree

distinct : (xs : List ℕ) → IsOnce xs → AreDistinct xs
distinct [] once = tt
distinct (x ∷ xs) once = (once.0, distinct xs once.1)

-- a tree has no more leaves than there are
pub leaves_few : (t : Tree AnyMapping) (leaves : ℕ) → IsValid any_rule t
    → ((n : ℕ) → In n (leaves_of t) → n < leaves) → length (leaves_of t) ≤ leaves
leaves_few t leaves valid below =
    few_below leaves (leaves_of t) (distinct (leaves_of t) (leaves_once any_rule t valid)) below
