-- The records of a file as a set of records, and what a selection of them finds.
use Rattle.std.proofs.Common.{[], ◌≡◌, ℕ, ◌<◌, List, ◌∷◌, ◌++◌, length, take, get_or, Option, Some, None, inl, inr, refl, sym, ap, subst, ◌∙◌, arith, append-nil, length-append}
use Rattle.std.specs.Option.{option_map}
use Rattle.std.specs.Ordering.{is_eq, eq_by_cmp}
use Rattle.std.specs.FinMap as fin
use Rattle.std.proofs.lemmas.Option.{same_Some}
use Rattle.gx_values.specs.declared.values.Value.{Value}
use Rattle.gx_values.specs.declared.records.Field.{Field}
use Rattle.gx_values.specs.declared.records.Rec.{Rec}
use Rattle.gx_values.specs.declared.keys.Span.{Span}
use Rattle.gx_values.specs.Values.{value_cmp, Fits, AreFit, no_field}
use Rattle.gx_values.specs.Keys.{bytes_of, key_of, is_inside, IsKeyKind, AreKeyFields}
use Rattle.gx_values.proofs.OrderLemmas.{inside_one, key_order, keys_prefix, value_cmp_total, value_cmp_same, same_value, value_itself}
use Rattle.gx_schema.specs.declared.schema.FileDef.{FileDef}
use Rattle.gx_schema.specs.Lookups.{key_kind}
use Rattle.gx_mapping.specs.Rule.{In, IsOf}
use Rattle.gx_mapping.proofs.RuleLemmas.{all_in}
use Rattle.gx_stack.specs.Internal.{IsSet}
use Rattle.gx_gather.specs.Gather.{rec_cmp}
use Rattle.gx_stack.specs.Selected.{IsKeySpan, IsSelection}
use Rattle.gx_gather.proofs.Lists.{in_map, from_map}
use Rattle.gx_gather.proofs.Orders.{Ascends, ascends, ascends_unique, rec_total}
use Rattle.gx_gather.proofs.Entries.{find_in, in_find}
use Rattle.gx_typing.specs.Dues.{file_form}
use Rattle.gx_model.specs.States.{File, Row, IsRowOf, HasRowsOf}
use Rattle.gx_scan.specs.Files.{rec_of, file_records}
use Rattle.gx_scan.specs.Records.{record_at, list_of_one}

-- ---- orders

-- keys of one value
pub one_key : (k q : Value) → k ∷ [] ≡ q ∷ [] → k ≡ q
one_key k q e = ap (λ (l : List Value). get_or l 0 k) e

-- ---- rows and look-ups

-- a record of the file, as a look-up finds it
pub record IsThere (f : File) (q : Rec) : Type 0 where
  pub key : Value
  pub values : List Value
  pub is : q ≡ rec_of (key, values)
  pub found : fin.get f key ≡ Some values

pub in_there : (f : File) (q : Rec) → In q (file_records f) → IsThere f q
in_there f q h =
    let r = from_map rec_of q (fin.entries f) h in
    record {
      key = r.0.0;
      values = r.0.1;
      is = r.2;
      found = fin.get-entries f r.0.0
          ∙ in_find value_cmp_total r.0 (fin.entries f) (fin.entries_sorted f) r.1;
    }

pub there_in : (f : File) (k : Value) (vs : List Value) → fin.get f k ≡ Some vs
    → In (rec_of (k, vs)) (file_records f)
there_in f k vs e = in_map rec_of (k, vs) (fin.entries f)
    (find_in value_cmp_same k vs (fin.entries f) (sym (fin.get-entries f k) ∙ e))

-- ---- the records are a set, in the order of their keys

pub key_fits : (fs : List Field) (k : Value) → 0 < length fs → Fits (get_or fs 0 no_field).kind k
    → AreFit (take 1 fs) (k ∷ [])
key_fits [] k some fit = absurd (omega arith)
key_fits (f ∷ fs) k some fit = (fit, tt)

pub key_of_form : (fs : List Field) (key : List Value) → 0 < length fs → AreFit (take 1 fs) key
    → (k : Value) × (key ≡ k ∷ []) × Fits (get_or fs 0 no_field).kind k
key_of_form [] key some fit = absurd (omega arith)
key_of_form (f ∷ fs) [] some fit = absurd fit
key_of_form (f ∷ fs) (k ∷ []) some fit = (k, refl, fit.0)
key_of_form (f ∷ fs) (k ∷ q ∷ key) some fit = absurd fit.1

pub row_fits : (file : FileDef) (r : Row) → 0 < length file.fields → IsRowOf file r
    → IsOf (file_form file) (rec_of r)
row_fits file r keyed fit = record { key = key_fits file.fields r.0 keyed fit.0; fields = fit.1 }

pub set_of : (file : FileDef) (f : File) → 0 < length file.fields → HasRowsOf file f
    → IsSet (file_form file) (file_records f)
set_of file f keyed fit = record {
  fits = λ q h. let r = from_map rec_of q (fin.entries f) h in
      subst (IsOf (file_form file)) (sym r.2)
      (row_fits file r.0 keyed (all_in (IsRowOf file) (fin.entries f) r.0 fit r.1));
  one = λ q s h i e.
      let a = in_there f q h in
      let b = in_there f s i in
      let keys : a.key ≡ b.key =
      one_key a.key b.key (sym (ap (λ (x : Rec). x.key) a.is) ∙ e
      ∙ ap (λ (x : Rec). x.key) b.is) in
      let values : a.values ≡ b.values =
      same_Some a.values b.values (sym a.found ∙ ap (fin.get f) keys ∙ b.found) in
      a.is ∙ (λ j. rec_of (keys j, values j)) ∙ sym b.is;
}

-- ---- spans

nothing_more : (a b : List ℕ) → a ≡ a ++ b → b ≡ []
nothing_more a [] e = refl
nothing_more a (x ∷ b) e = absurd (omega (arith, ap length e, length-append a (x ∷ b)))

key_fields : (fs : List Field) → IsKeyKind (get_or fs 0 no_field).kind → AreKeyFields (take 1 fs)
key_fields [] key = tt
key_fields (f ∷ fs) key = (key, tt)

whole_key : (file : FileDef) (k : Value) (key : List Value) (rest : List ℕ) → 0 < length file.fields
    → IsKeyKind (key_kind file) → Fits (key_kind file) k → AreFit (take 1 file.fields) key
    → bytes_of k ≡ key_of key ++ rest → rest ≡ []
whole_key file k key rest keyed kind fit fits e =
    let own : bytes_of k ≡ key_of (k ∷ []) = sym (append-nil (bytes_of k)) in
    let same : key ≡ k ∷ [] =
    keys_prefix (take 1 file.fields) key (k ∷ []) rest (key_fields file.fields kind) fits
    (key_fits file.fields k keyed fit) (sym own ∙ e) in
    nothing_more (key_of key) rest (ap key_of same ∙ sym own ∙ e)

pub span_of_key : (file : FileDef) (k : Value) (span : Span) → 0 < length file.fields
    → IsKeyKind (key_kind file) → Fits (key_kind file) k → span.lo ≡ bytes_of k
    → span.hi ≡ bytes_of k → IsKeySpan (file_form file) span
span_of_key file k span keyed kind fit lo hi = record {
  lo_whole = λ key rest fits e. whole_key file k key rest keyed kind fit fits (sym lo ∙ e);
  hi_whole = λ key rest fits e. whole_key file k key rest keyed kind fit fits (sym hi ∙ e);
}

-- ---- what a selection finds

-- the key of a record is inside the span of one key exactly where it is that key
pub inside_key : (file : FileDef) (k q : Value) → IsKeyKind (key_kind file) → Fits (key_kind file) k
    → Fits (key_kind file) q
    → is_inside (bytes_of k) (bytes_of k) (key_of (q ∷ [])) ≡ eq_by_cmp value_cmp k q
inside_key file k q kind fit fits =
    ap (is_inside (bytes_of k) (bytes_of k)) (append-nil (bytes_of q))
    ∙ inside_one (key_kind file) k q kind fit fits
    ∙ ap is_eq (key_order (key_kind file) k q kind fit fits)

one_ascends : (o : Option Rec) → Ascends rec_cmp (list_of_one o)
one_ascends None = tt
one_ascends (Some r) = (tt, tt)

pub some_in : (f : File) (k : Value) (vs : List Value) → fin.get f k ≡ Some vs
    → In (rec_of (k, vs)) (list_of_one (record_at f k))
some_in f k vs e = subst (λ (o : Option (List Value)). In (rec_of (k, vs))
    (list_of_one (option_map (λ values. rec_of (k, values)) o))) (sym e) (inl refl)

pub in_one : (f : File) (k : Value) (q : Rec) → In q (list_of_one (record_at f k))
    → (vs : List Value) × (fin.get f k ≡ Some vs) × (q ≡ rec_of (k, vs))
in_one f k q = go (fin.get f k) refl
  where
    go : (o : Option (List Value)) → fin.get f k ≡ o
        → In q (list_of_one (option_map (λ values. rec_of (k, values)) o))
        → (vs : List Value) × (fin.get f k ≡ Some vs) × (q ≡ rec_of (k, vs))
    go None e h = absurd h
    go (Some vs) e (inl is) = (vs, e, is)
    go (Some vs) e (inr h) = absurd h

pub one_found : (file : FileDef) (f : File) (k : Value) (span : Span) (found : List Rec)
    → 0 < length file.fields → IsKeyKind (key_kind file) → Fits (key_kind file) k → HasRowsOf file f
    → span.lo ≡ bytes_of k → span.hi ≡ bytes_of k → IsSelection (file_records f) span found
    → found ≡ list_of_one (record_at f k)
one_found file f k span found keyed kind fit fits lo hi is =
    ascends_unique rec_total found (list_of_one (record_at f k)) (ascends rec_cmp found is.in_order)
    (one_ascends (record_at f k))
    (λ q h.
    let s = is.sound q h in
    let a = in_there f q s.0 in
    let fits_q = key_at q a s.0 in
    let same : k ≡ a.key = same_value k a.key (sym (inside_key file k a.key kind fit fits_q)
    ∙ ap (λ (x : Rec). is_inside (bytes_of k) (bytes_of k) (key_of x.key)) (sym a.is)
    ∙ (λ i. is_inside (sym lo i) (sym hi i) (key_of q.key)) ∙ s.1) in
    subst (λ (x : Rec). In x (list_of_one (record_at f k))) ((λ i. rec_of (same i, a.values))
    ∙ sym a.is) (some_in f k a.values (ap (fin.get f) same ∙ a.found)))
    (λ q h.
    let o = in_one f k q h in
    let there : In q (file_records f) =
    subst (λ (x : Rec). In x (file_records f)) (sym o.2) (there_in f k o.0 o.1) in
    is.complete q there ((λ i. is_inside (lo i) (hi i) (key_of q.key))
    ∙ ap (λ (x : Rec). is_inside (bytes_of k) (bytes_of k) (key_of x.key)) o.2
    ∙ inside_key file k k kind fit fit ∙ value_itself k))
  where
    key_at : (q : Rec) (a : IsThere f q) → In q (file_records f) → Fits (key_kind file) a.key
    key_at q a h =
        let set = (set_of file f keyed fits).fits q h in
        let k' = key_of_form file.fields q.key keyed set.key in
        subst (Fits (key_kind file)) (one_key k'.0 a.key (sym k'.1 ∙ ap (λ (x : Rec). x.key) a.is))
        k'.2
