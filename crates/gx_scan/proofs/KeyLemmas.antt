-- The record at a key of a file, among those within the span of that key.
use Rattle.std.proofs.Common.{[], ◌≡◌, ℕ, ◌+◌, ◌*◌, ◌≤◌, List, ◌∷◌, ◌++◌, length, map, cond, Bool, true, false, Option, Some, None, refl, sym, ap, subst, ◌∙◌, arith}
use Rattle.std.specs.Prelude.{filter}
use Rattle.std.specs.Ordering.{is_eq, eq_by_cmp}
use Rattle.std.specs.FinMap as fin
use Rattle.std.specs.Option.{option_map}
use Rattle.std.specs.List.Sorted.{IsPermutation}
use Rattle.std.proofs.Math.Nat.{mul-le-mul_right}
use Rattle.std.proofs.lemmas.Cmp.{on_total}
use Rattle.std.proofs.lemmas.List.Elements.{All-from_recursion, recursion_from_All}
use Rattle.std.proofs.lemmas.List.Sorted.{length_permutation, All-permutation}
use Rattle.gx_values.specs.declared.values.Value.{Value}
use Rattle.gx_values.specs.declared.records.Rec.{Rec}
use Rattle.gx_values.specs.declared.keys.Span.{Span}
use Rattle.gx_values.specs.Values.{value_cmp, Fits}
use Rattle.gx_values.specs.Keys.{bytes_of, is_inside, IsKeyKind}
use Rattle.gx_values.proofs.OrderLemmas.{inside_one, key_order, value_cmp_total, value_cmp_same, same_value, value_itself}
use Rattle.gx_schema.specs.declared.schema.FileDef.{FileDef}
use Rattle.gx_schema.specs.Lookups.{key_kind}
use Rattle.gx_commands.specs.declared.command.Cond.{Cond}
use Rattle.gx_mapping.specs.Rule.{In}
use Rattle.gx_mapping.proofs.RuleLemmas.{all_in}
use Rattle.gx_gather.proofs.Lists.{in_map, from_map, in_filter, filter_in}
use Rattle.gx_gather.proofs.Orders.{Ascends, ascends_filter, ascends_unique}
use Rattle.gx_gather.proofs.Entries.{find_in, in_find}
use Rattle.gx_model.specs.States.{File, Row, IsRowOf, HasRowsOf}
use Rattle.gx_model.specs.Found.{meets_conds}
use Rattle.gx_scan.specs.Files.{rec_of}
use Rattle.gx_scan.specs.Records.{record_at, list_of_one}
use Rattle.gx_scan.specs.Within.{row_of, is_within, AreAdded}
use Rattle.gx_scan.specs.Steps.{is_key_inside, rows_inside}
use Rattle.gx_scan.proofs.FileLemmas.{some_in, in_one}
use Rattle.gx_scan.proofs.ListingLemmas.{filter_twice}
use Rattle.gx_scan.proofs.PlaceLemmas.{key_cmp, entries_ascend}

-- the record at a key as a row, or none
abbrev pub row_at : File → Value → List Row
row_at f k = map row_of (list_of_one (record_at f k))

-- ---- lists of one item at most

kept_few : (b : Bool) (x : Row) → length (cond b (x ∷ []) []) ≤ 1
kept_few true x = omega arith
kept_few false x = omega arith

met_few : (p : Row → Bool) (o : Option Rec) → length (filter p (map row_of (list_of_one o))) ≤ 1
met_few p None = omega arith
met_few p (Some r) = kept_few (p (row_of r)) (row_of r)

one_few : (o : Option Rec) → length (map row_of (list_of_one o)) ≤ 1
one_few None = omega arith
one_few (Some r) = omega arith

one_ascends : (o : Option Rec) → Ascends key_cmp (map row_of (list_of_one o))
one_ascends None = tt
one_ascends (Some r) = (tt, tt)

few_same : (xs ys : List Row) → length xs ≤ 1 → IsPermutation xs ys → ys ≡ xs
few_same [] [] few perm = refl
few_same [] (y ∷ ys) few perm = absurd (omega (arith, length_permutation [] (y ∷ ys) perm))
few_same (x ∷ []) [] few perm = absurd (omega (arith, length_permutation (x ∷ []) [] perm))
few_same (x ∷ []) (y ∷ []) few perm =
    let is_x = λ (z : Row). z ≡ x in
    ap (λ (z : Row). z ∷ [])
    (recursion_from_All is_x (y ∷ [])
    (All-permutation is_x (x ∷ []) (y ∷ []) perm
    (All-from_recursion is_x (x ∷ []) (refl, tt)))).0
few_same (x ∷ []) (y ∷ z ∷ ys) few perm =
    absurd (omega (arith, length_permutation (x ∷ []) (y ∷ z ∷ ys) perm))
few_same (x ∷ w ∷ xs) ys few perm = absurd (omega (arith, few))

-- ---- the span of one key

module _ (file : FileDef) (f : File) (k : Value) (span : Span) (kind : IsKeyKind (key_kind file))
    (fit : Fits (key_kind file) k) (fits : HasRowsOf file f) (lo : span.lo ≡ bytes_of k)
    (hi : span.hi ≡ bytes_of k) where
  inside_is : (q : Value) → Fits (key_kind file) q
      → is_inside span.lo span.hi (bytes_of q) ≡ eq_by_cmp value_cmp k q
  inside_is q fit_q = (λ i. is_inside (lo i) (hi i) (bytes_of q))
      ∙ inside_one (key_kind file) k q kind fit fit_q
      ∙ ap is_eq (key_order (key_kind file) k q kind fit fit_q)

  -- the file's records within it are the one at the key
  rows_at_one : rows_inside span f ≡ row_at f k
  rows_at_one = ascends_unique (on_total (λ (r : Row). r.0) value_cmp_total) (rows_inside span f)
      (row_at f k)
      (ascends_filter key_cmp (is_key_inside span) (fin.entries f)
      (entries_ascend value_cmp (fin.entries f) (fin.entries_sorted f)))
      (one_ascends (record_at f k))
      (λ r h.
      let kept = in_filter (is_key_inside span) r (fin.entries f) h in
      let fit_r = (all_in (IsRowOf file) (fin.entries f) r fits kept.0).0 in
      let same : k ≡ r.0 = same_value k r.0 (sym (inside_is r.0 fit_r) ∙ kept.1) in
      let found : fin.get f k ≡ Some r.1 = ap (fin.get f) same ∙ fin.get-entries f r.0
      ∙ in_find value_cmp_total r (fin.entries f) (fin.entries_sorted f) kept.0 in
      subst (λ (x : Row). In x (row_at f k)) (λ i. (same i, r.1))
      (in_map row_of (rec_of (k, r.1)) (list_of_one (record_at f k)) (some_in f k r.1 found)))
      (λ r h.
      let one = from_map row_of r (list_of_one (record_at f k)) h in
      let there = in_one f k one.0 one.1 in
      let is : r ≡ (k, there.0) = one.2 ∙ ap row_of there.2 in
      let among : In (k, there.0) (fin.entries f) =
      find_in value_cmp_same k there.0 (fin.entries f) (sym (fin.get-entries f k) ∙ there.1) in
      subst (λ (x : Row). In x (rows_inside span f)) (sym is)
      (filter_in (is_key_inside span) (k, there.0) (fin.entries f) among (inside_is k fit
      ∙ value_itself k)))

  -- so what was added is that record, where it meets the conditions
  pub added_at_key : (conds : List Cond) (before now : List Row) → AreAdded span conds f before now
      → now ≡ before ++ filter (meets_conds conds) (row_at f k)
  added_at_key conds before now is =
      let within = filter (is_within span conds) (fin.entries f) in
      let same : within ≡ filter (meets_conds conds) (row_at f k) =
      sym (filter_twice (meets_conds conds) (is_key_inside span) (fin.entries f))
      ∙ ap (filter (meets_conds conds)) rows_at_one in
      let few : length within ≤ 1 =
      subst (λ (l : List Row). length l ≤ 1) (sym same)
      (met_few (meets_conds conds) (record_at f k)) in
      is.appended ∙ ap (λ (l : List Row). before ++ l) (few_same within is.added few is.those
      ∙ same)

  -- those within it, in any order, are the one at the key
  pub one_at_key : (rows : List Row) → IsPermutation (rows_inside span f) rows → rows ≡ row_at f k
  one_at_key rows those =
      let few : length (rows_inside span f) ≤ 1 =
      subst (λ (l : List Row). length l ≤ 1) (sym rows_at_one) (one_few (record_at f k)) in
      few_same (rows_inside span f) rows few those ∙ rows_at_one

  pub steps_at_key : (leaves most before after : ℕ)
      → after ≤ before + (leaves + length (rows_inside span f) * most)
      → after ≤ before + (leaves + most)
  steps_at_key leaves most before after steps =
      let few : length (rows_inside span f) ≤ 1 =
      subst (λ (l : List Row). length l ≤ 1) (sym rows_at_one) (one_few (record_at f k)) in
      let product : length (rows_inside span f) * most ≤ 1 * most = mul-le-mul_right most few in
      omega (arith, steps, product)

-- ---- the values of the record at a key

-- the record at a key that has these values, found without conditions
pub one_unfiltered : (k : Value) (o : Option (List Value))
    → filter (meets_conds [])
    (map row_of (list_of_one (option_map (λ values. rec_of (k, values)) o))) ≡ list_of_one
    (option_map (λ (values : List Value). (k, values)) o)
one_unfiltered k None = refl
one_unfiltered k (Some values) = refl

pub row_found : (k : Value) (o : Option (List Value))
    → map row_of (list_of_one (option_map (λ values. rec_of (k, values)) o)) ≡ list_of_one
    (option_map (λ (values : List Value). (k, values)) o)
row_found k None = refl
row_found k (Some values) = refl

pub row_values : (k : Value) (o : Option (List Value))
    → option_map (λ (r : Row). r.1) (option_map (λ (values : List Value). (k, values)) o) ≡ o
row_values k None = refl
row_values k (Some values) = refl

pub rec_values : (k : Value) (o : Option (List Value)) (r : Option Rec)
    → r ≡ option_map (λ values. rec_of (k, values)) o → option_map (λ (r : Rec). r.fields) r ≡ o
rec_values k None r is = ap (option_map (λ (r : Rec). r.fields)) is
rec_values k (Some values) r is = ap (option_map (λ (r : Rec). r.fields)) is
