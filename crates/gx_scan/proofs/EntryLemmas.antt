-- What is read of the entries of records.
use Rattle.std.proofs.Common.{[], ◌≡◌, ℕ, zero, suc, ◌+◌, ◌*◌, ◌<◌, ◌≤◌, List, ◌∷◌, ◌++◌, length, take, drop, get_or, map, cond, Bool, true, false, Option, Some, refl, ap, subst, ◌∙◌, arith, append-nil, length-append}
use Rattle.std.proofs.lemmas.List.{length-map}
use Rattle.std.proofs.Math.Seq.{drop-append-add}
use Rattle.std.specs.Prelude.{filter}
use Rattle.std.specs.List.{AllByRecursion}
use Rattle.std.specs.FinMap as fin
use Rattle.std.specs.Int.{w16, to_be_bytes}
use Rattle.gx_values.specs.declared.values.Code.{Code}
use Rattle.gx_values.specs.declared.values.Kind.{Kind}
use Rattle.gx_values.specs.declared.values.Value.{Value}
use Rattle.gx_values.specs.declared.values.Value.TheVariants as value
use Rattle.gx_values.specs.declared.records.Field.{Field}
use Rattle.gx_values.specs.declared.records.Rec.{Rec}
use Rattle.gx_values.specs.Values.{Fits, AreFit, no_field}
use Rattle.gx_values.specs.Keys.{bytes_of, is_inside}
use Rattle.gx_values.specs.Written.{AreRead, IsRead}
use Rattle.gx_values.proofs.OrderLemmas.{same_by_bytes}
use Rattle.gx_schema.specs.declared.schema.FileDef.{FileDef}
use Rattle.gx_schema.specs.Lookups.{key_kind, data_fields}
use Rattle.gx_ports.specs.declared.leaves.Entry.{Entry}
use Rattle.gx_ports.specs.LeafMaps.{LeafMap, entry_of, selected}
use Rattle.gx_actual.specs.Bodies.{field_bytes, body_of}
use Rattle.gx_actual.specs.BodyLaws.{same_body}
use Rattle.gx_stack.specs.Tree.{leaf_body}
use Rattle.gx_model.specs.States.{Row, IsRowOf}
use Rattle.gx_scan.specs.Files.{IsStorable}
use Rattle.gx_scan.specs.Entries.{entry_of_row, IsStoredRow}

-- ---- one record

first_kind : (fs : List Field) (d : Field) → 0 < length fs → d ≡ get_or fs 0 d
    → d.kind ≡ (get_or fs 0 no_field).kind
first_kind [] d some is = absurd (omega arith)
first_kind (f ∷ fs) d some is = ap (λ (g : Field). g.kind) is

pub kind_is : (file : FileDef) (d : Field) → IsStorable file → d ≡ get_or file.fields 0 d
    → d.kind ≡ key_kind file
kind_is file d is at = first_kind file.fields d is.keyed at

pub key_fits : (file : FileDef) (k : Kind) (bytes : List ℕ) (key : Value) → k ≡ key_kind file
    → IsRead bytes_of k bytes (Some key) → Fits (key_kind file) key
key_fits file k bytes key same read = subst (λ (j : Kind). Fits j key) same read.0

pub key_read : (file : FileDef) (k : Kind) (bytes : List ℕ) (key : Value) (r : Row)
    → IsStorable file → k ≡ key_kind file → bytes ≡ bytes_of r.0
    → IsRead bytes_of k bytes (Some key) → IsRowOf file r → key ≡ r.0
key_read file k bytes key r is same be read fit =
    same_by_bytes (key_kind file) key r.0 is.key (key_fits file k bytes key same read) fit.0
    (read.1 ∙ be)

-- what is read of a record's entry is the record
pub row_read : (file : FileDef) (k : Kind) (key_bytes body_bytes : List ℕ) (fields : List Field)
    (key : Value) (vs : List Value) (r : Row) → IsStorable file → k ≡ key_kind file
    → fields ≡ data_fields file → key_bytes ≡ bytes_of r.0 → body_bytes ≡ body_of r.1
    → IsRead bytes_of k key_bytes (Some key) → AreRead field_bytes fields body_bytes (Some vs)
    → IsRowOf file r → ◌≡◌ {A = Option Row} (Some (key, vs)) (Some r)
row_read file k key_bytes body_bytes fields key vs r is kind_same same ke be read reads fit =
    let first : key ≡ r.0 = key_read file k key_bytes key r is kind_same ke read fit in
    let others : vs ≡ r.1 =
    same_body (data_fields file) vs r.1 is.short
    (subst (λ (fs : List Field). AreFit fs vs) same reads.0) fit.1 (reads.1 ∙ be) in
    λ i. Some (first i, others i)

pub rows_fit : (file : FileDef) (cs : List (Option Code)) (rs : List Row)
    → AllByRecursion (IsStoredRow file cs) rs → AllByRecursion (IsRowOf file) rs
rows_fit file cs [] all = tt
rows_fit file cs (r ∷ rs) all = (all.0.0, rows_fit file cs rs all.1)

-- the record of an entry, of which it is made so
pub record RowAt (P : Row → Type 0) (made : Row → List ℕ × List ℕ) (rs : List Row) (i : ℕ)
    (e : Entry) : Type 0 where
  pub row : Row
  pub fits : P row
  pub is : e ≡ entry_of (made row)
  pub more : take (i + 1) rs ≡ take i rs ++ row ∷ []

row_at : (P : Row → Type 0) (made : Row → List ℕ × List ℕ) (rs : List Row) (i : ℕ) (d : Entry)
    → AllByRecursion P rs → i < length rs
    → (r : Row) × P r × (get_or (map (λ (r : Row). entry_of (made r)) rs) i d ≡ entry_of (made r))
    × (take (suc i) rs ≡ take i rs ++ r ∷ [])
row_at P made [] i d all lt = absurd (omega arith)
row_at P made (r ∷ rs) zero d all lt = (r, all.0, refl, refl)
row_at P made (r ∷ rs) (suc i) d all lt = let x = row_at P made rs i d all.1 (omega arith) in
    (x.0, x.1, x.2, ap (λ (l : List Row). r ∷ l) x.3)

pub entry_at : (P : Row → Type 0) (made : Row → List ℕ × List ℕ) (rs : List Row) (es : List Entry)
    (i : ℕ) (e : Entry) → AllByRecursion P rs → es ≡ map (λ (r : Row). entry_of (made r)) rs
    → i < length es → e ≡ get_or es i e → RowAt P made rs i e
entry_at P made rs es i e all same lt item =
    let x = row_at P made rs i e all
    (omega (arith, ap length same, length-map rs (λ (r : Row). entry_of (made r)))) in
    record {
      row = x.0;
      fits = x.1;
      is = item ∙ ap (λ (l : List Entry). get_or l i e) same ∙ x.2;
      more = ap (λ n. take n rs) (let y : i + 1 ≡ suc i = omega arith in y) ∙ x.3;
    }

-- ---- the records within a span

pub filter_map : {A B : Type 0} (test : B → Bool) (f : A → B) (xs : List A)
    → filter test (map f xs) ≡ map f (filter (λ x. test (f x)) xs)
filter_map test f [] = refl
filter_map {A} {B} test f (x ∷ xs) =
    elim (test (f x)) as (λ b. cond b (f x ∷ filter test (map f xs)) (filter test (map f xs))
    ≡ map f (cond b (x ∷ filter (λ y. test (f y)) xs) (filter (λ y. test (f y)) xs))) [
      | true ↦ ap (λ (l : List B). f x ∷ l) (filter_map test f xs)
      | false ↦ filter_map test f xs
    ]

pub map_joined : {A B C : Type 0} (g : B → C) (f : A → B) (xs : List A)
    → map g (map f xs) ≡ map (λ x. g (f x)) xs
map_joined g f [] = refl
map_joined {A} {B} {C} g f (x ∷ xs) = ap (λ (l : List C). g (f x) ∷ l) (map_joined g f xs)

-- the span selects the entries of the records within it
pub span_entries : (m : LeafMap) (n : ℕ) (cs : List (Option Code)) (rs : List Row) (lo hi : List ℕ)
    (before out entries : List Entry) → fin.entries m ≡ map (entry_of_row n cs) rs → before ≡ []
    → out ≡ before ++ selected lo hi m → entries ≡ out
    → entries ≡ map (λ (r : Row). entry_of (entry_of_row n cs r))
    (filter (λ (r : Row). is_inside lo hi (bytes_of r.0)) rs)
span_entries m n cs rs lo hi before out entries same b o e =
    e ∙ o ∙ ap (λ (l : List Entry). l ++ selected lo hi m) b
    ∙ ap (λ (es : List (List ℕ × List ℕ)). map entry_of (filter (λ x. is_inside lo hi x.0) es))
    same
    ∙ ap (map entry_of)
    (filter_map (λ (x : List ℕ × List ℕ). is_inside lo hi x.0) (entry_of_row n cs) rs)
    ∙ map_joined entry_of (entry_of_row n cs)
    (filter (λ (r : Row). is_inside lo hi (bytes_of r.0)) rs)
