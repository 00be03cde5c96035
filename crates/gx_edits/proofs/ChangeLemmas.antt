-- What changes of one record do to the records of a file.
use Rattle.std.proofs.Common.{[], ◌≡◌, List, ◌∷◌, ◌⊎◌, cond, Some, None, inl, inr, refl, sym, ap, subst, ◌∙◌}
use Rattle.std.specs.Prelude.{not, ◌≢◌}
use Rattle.std.specs.List.{AllByRecursion}
use Rattle.std.specs.Ordering.{eq_by_cmp}
use Rattle.std.specs.declared.cmp.Ordering.TheVariants.{Less, Equal, Greater}
use Rattle.std.specs.FinMap as fin
use Rattle.std.specs.FinMap.Entries.{by_order}
use Rattle.std.proofs.lemmas.Bool.{true≢false, not-true, not_from_false}
use Rattle.std.proofs.lemmas.Option.{same_Some}
use Rattle.gx_values.specs.declared.values.Value.{Value}
use Rattle.gx_values.specs.declared.records.Rec.{Rec}
use Rattle.gx_values.specs.Values.{value_cmp, values_cmp, Fits, AreFit}
use Rattle.gx_values.proofs.OrderLemmas.{value_cmp_total, value_itself, other_value, value_cases}
use Rattle.gx_schema.specs.declared.schema.FileDef.{FileDef}
use Rattle.gx_schema.specs.Lookups.{key_kind, data_fields}
use Rattle.gx_ports.specs.LeafMaps.{LeafMap}
use Rattle.gx_mapping.specs.Rule.{In}
use Rattle.gx_mapping.proofs.RuleLemmas.{all_in}
use Rattle.gx_stack.specs.Tree.{Tree, IsValid}
use Rattle.gx_stack.specs.Internal.{IsChange, changed, has_key_of, IsInternal as IsHeld}
use Rattle.gx_gather.proofs.Lists.{in_map, from_map, in_filter, filter_in, none_some}
use Rattle.gx_gather.proofs.Orders.{values_itself, values_other}
use Rattle.gx_stack.proofs.Same.{internal_of_members}
use Rattle.gx_types.specs.declared.any.AnyMapping.{AnyMapping}
use Rattle.gx_types.specs.Any.{any_rule}
use Rattle.gx_model.specs.States.{File, Row, IsRowOf, HasRowsOf}
use Rattle.gx_scan.specs.Files.{rec_of, file_records}
use Rattle.gx_scan.proofs.FileLemmas.{one_key, in_there, there_in, IsThere}

-- ---- changes of one record

pub inserted_new : (f : File) (k : Value) (vs : List Value)
    → In (rec_of (k, vs)) (file_records (fin.insert f k vs))
inserted_new f k vs =
    there_in (fin.insert f k vs) k vs
    (fin.get-insert value_cmp_total f k vs k
    ∙ ap (λ b. cond b (Some vs) (fin.get f k)) (value_itself k))

inserted_old : (f : File) (k : Value) (vs : List Value) (q : Rec) → In q (file_records f)
    → q.key ≢ k ∷ [] → In q (file_records (fin.insert f k vs))
inserted_old f k vs q h ne =
    let a = in_there f q h in
    let other : a.key ≢ k = λ e. ne (ap (λ (x : Rec). x.key) a.is ∙ ap (λ x. x ∷ []) e) in
    subst (λ (x : Rec). In x (file_records (fin.insert f k vs))) (sym a.is)
    (there_in (fin.insert f k vs) a.key a.values
    (fin.get-insert value_cmp_total f k vs a.key
    ∙ ap (λ b. cond b (Some vs) (fin.get f a.key)) (other_value a.key k other) ∙ a.found))

from_inserted : (f : File) (k : Value) (vs : List Value) (q : Rec)
    → In q (file_records (fin.insert f k vs)) → (q ≡ rec_of (k, vs))
    ⊎ (In q (file_records f) × (q.key ≢ k ∷ []))
from_inserted f k vs q h = go (in_there (fin.insert f k vs) q h)
  where
    go : IsThere (fin.insert f k vs) q → (q ≡ rec_of (k, vs))
        ⊎ (In q (file_records f) × (q.key ≢ k ∷ []))
    go a = elim (value_cases a.key k) [
      | inl e ↦ (
          let got : Some vs ≡ Some a.values = sym
          (fin.get-insert value_cmp_total f k vs a.key
          ∙ ap (λ x. cond (eq_by_cmp value_cmp x k) (Some vs) (fin.get f x)) e
          ∙ ap (λ b. cond b (Some vs) (fin.get f k)) (value_itself k)) ∙ a.found in
          inl (a.is ∙ (λ i. rec_of (e i, sym (same_Some vs a.values got) i))))
      | inr ne ↦ (
          let got : fin.get f a.key ≡ Some a.values = sym
          (fin.get-insert value_cmp_total f k vs a.key
          ∙ ap (λ b. cond b (Some vs) (fin.get f a.key)) (other_value a.key k ne)) ∙ a.found in
          inr (
            subst (λ (x : Rec). In x (file_records f)) (sym a.is) (there_in f a.key a.values got),
            λ e. ne (one_key a.key k (sym (ap (λ (x : Rec). x.key) a.is) ∙ e)),
          ))
    ]

removed_old : (f : File) (k : Value) (q : Rec) → In q (file_records f) → q.key ≢ k ∷ []
    → In q (file_records (fin.remove f k))
removed_old f k q h ne =
    let a = in_there f q h in
    let other : a.key ≢ k = λ e. ne (ap (λ (x : Rec). x.key) a.is ∙ ap (λ x. x ∷ []) e) in
    subst (λ (x : Rec). In x (file_records (fin.remove f k))) (sym a.is)
    (there_in (fin.remove f k) a.key a.values
    (fin.get-remove value_cmp_total f k a.key
    ∙ ap (λ b. cond b None (fin.get f a.key)) (other_value a.key k other) ∙ a.found))

from_removed : (f : File) (k : Value) (q : Rec) → In q (file_records (fin.remove f k))
    → In q (file_records f) × (q.key ≢ k ∷ [])
from_removed f k q h = go (in_there (fin.remove f k) q h)
  where
    go : IsThere (fin.remove f k) q → In q (file_records f) × (q.key ≢ k ∷ [])
    go a = elim (value_cases a.key k) [
      | inl e ↦ absurd (none_some a.values
          (sym (fin.get-remove value_cmp_total f k a.key
          ∙ ap (λ x. cond (eq_by_cmp value_cmp x k) None (fin.get f x)) e
          ∙ ap (λ b. cond b None (fin.get f k)) (value_itself k)) ∙ a.found))
      | inr ne ↦ (
          let got : fin.get f a.key ≡ Some a.values = sym
          (fin.get-remove value_cmp_total f k a.key
          ∙ ap (λ b. cond b None (fin.get f a.key)) (other_value a.key k ne)) ∙ a.found in (
            subst (λ (x : Rec). In x (file_records f)) (sym a.is) (there_in f a.key a.values got),
            λ e.
                ne (one_key a.key k (sym (ap (λ (x : Rec). x.key) a.is) ∙ e)),
          ))
    ]

-- no record has a key that isn't there
absent : (f : File) (k : Value) (q : Rec) → fin.get f k ≡ None → In q (file_records f)
    → q.key ≢ k ∷ []
absent f k q none h e =
    let a = in_there f q h in
    none_some a.values (sym none ∙ ap (fin.get f)
    (sym (one_key a.key k (sym (ap (λ (x : Rec). x.key) a.is) ∙ e))) ∙ a.found)

-- what `old` is at the key, and `new` has the key
pub is_insert : (f : File) (k : Value) (vs : List Value) → fin.get f k ≡ None
    → IsChange (file_records f) None (Some (rec_of (k, vs)))
is_insert f k vs none q h = absent f k q none h

module _ (t : Tree AnyMapping) (maps : List LeafMap) (valid : IsValid any_rule t) where
  pub held_inserted : (f : File) (k : Value) (vs : List Value) → fin.get f k ≡ None
      → IsHeld any_rule t (changed (file_records f) None (Some (rec_of (k, vs)))) maps
      → IsHeld any_rule t (file_records (fin.insert f k vs)) maps
  held_inserted f k vs none =
      internal_of_members any_rule t (rec_of (k, vs) ∷ file_records f)
      (file_records (fin.insert f k vs)) maps valid
      (λ q h. elim h [
        | inl is ↦ subst (λ (x : Rec). In x (file_records (fin.insert f k vs))) (sym is)
            (inserted_new f k vs)
        | inr i ↦ inserted_old f k vs q i (absent f k q none i)
      ])
      (λ q h. elim (from_inserted f k vs q h) [ inl is ↦ inl is | inr i ↦ inr i.0 ])

  pub held_updated : (f : File) (k : Value) (old vs : List Value)
      → IsHeld any_rule t (changed (file_records f) (Some (rec_of (k, old)))
      (Some (rec_of (k, vs))))
      maps → IsHeld any_rule t (file_records (fin.insert f k vs)) maps
  held_updated f k old vs =
      internal_of_members any_rule t
      (changed (file_records f) (Some (rec_of (k, old))) (Some (rec_of (k, vs))))
      (file_records (fin.insert f k vs)) maps valid
      (λ q h. elim h [
        | inl is ↦ subst (λ (x : Rec). In x (file_records (fin.insert f k vs))) (sym is)
            (inserted_new f k vs)
        | inr i ↦ (
            let j = in_filter (λ r. not (has_key_of (rec_of (k, old)) r)) q (file_records f) i in
            inserted_old f k vs q j.0 (λ e. true≢false
            (sym (values_itself (k ∷ []))
            ∙ ap (λ (x : List Value). eq_by_cmp values_cmp x (k ∷ [])) (sym e) ∙ not-true _ j.1)))
      ])
      (λ q h. elim (from_inserted f k vs q h) [
        | inl is ↦ inl is
        | inr i ↦ inr (filter_in (λ r. not (has_key_of (rec_of (k, old)) r)) q (file_records f) i.0
            (not_from_false _ (values_other q.key (k ∷ []) i.1)))
      ])

  pub held_removed : (f : File) (k : Value) (old : List Value)
      → IsHeld any_rule t (changed (file_records f) (Some (rec_of (k, old))) None) maps
      → IsHeld any_rule t (file_records (fin.remove f k)) maps
  held_removed f k old =
      internal_of_members any_rule t (changed (file_records f) (Some (rec_of (k, old))) None)
      (file_records (fin.remove f k)) maps valid
      (λ q h.
      let j = in_filter (λ r. not (has_key_of (rec_of (k, old)) r)) q (file_records f) h in
      removed_old f k q j.0 (λ e. true≢false
      (sym (values_itself (k ∷ [])) ∙ ap (λ (x : List Value). eq_by_cmp values_cmp x (k ∷ []))
      (sym e) ∙ not-true _ j.1)))
      (λ q h.
      let i = from_removed f k q h in
      filter_in (λ r. not (has_key_of (rec_of (k, old)) r)) q (file_records f) i.0
      (not_from_false _ (values_other q.key (k ∷ []) i.1)))

-- ---- the records after a change are those of a file

put_fits : (file : FileDef) (k : Value) (vs : List Value) (rs : List Row) → Fits (key_kind file) k
    → AreFit (data_fields file) vs → AllByRecursion (IsRowOf file) rs
    → AllByRecursion (IsRowOf file) (fin.put value_cmp k vs rs)
put_fits file k vs [] is are all = ((is, are), tt)
put_fits file k vs (r ∷ rs) is are all =
    elim (value_cmp k r.0) as (λ o. AllByRecursion (IsRowOf file)
    (by_order o ((k, vs) ∷ r ∷ rs) ((r.0, vs) ∷ rs) (r ∷ fin.put value_cmp k vs rs))) [
      | Less ↦ ((is, are), all)
      | Equal ↦ ((all.0.0, are), all.1)
      | Greater ↦ (all.0, put_fits file k vs rs is are all.1)
    ]

pub insert_fits : (file : FileDef) (f : File) (k : Value) (vs : List Value) → Fits (key_kind file) k
    → AreFit (data_fields file) vs → HasRowsOf file f → HasRowsOf file (fin.insert f k vs)
insert_fits file f k vs is are fit =
    subst (AllByRecursion (IsRowOf file)) (sym (fin.entries-insert value_cmp_total f k vs))
    (put_fits file k vs (fin.entries f) is are fit)

rows_fit : (file : FileDef) (rs all : List Row) → ((r : Row) → In r rs → In r all)
    → AllByRecursion (IsRowOf file) all → AllByRecursion (IsRowOf file) rs
rows_fit file [] all to fit = tt
rows_fit file (r ∷ rs) all to fit = (
  all_in (IsRowOf file) all r fit (to r (inl refl)),
  rows_fit file rs all (λ s h. to s (inr h))
      fit,
)

row_in : (f : File) (r : Row) → In (rec_of r) (file_records f) → In r (fin.entries f)
row_in f r h =
    let s = from_map rec_of (rec_of r) (fin.entries f) h in
    let same : r ≡ s.0 = λ i. (one_key r.0 s.0.0 (ap (λ (x : Rec). x.key) s.2) i, (s.2 i).fields) in
    subst (λ (x : Row). In x (fin.entries f)) (sym same) s.1

pub remove_fits : (file : FileDef) (f : File) (k : Value) → HasRowsOf file f
    → HasRowsOf file (fin.remove f k)
remove_fits file f k fit =
    rows_fit file (fin.entries (fin.remove f k)) (fin.entries f)
    (λ r h. row_in f r (from_removed f k (rec_of r)
    (in_map rec_of r (fin.entries (fin.remove f k)) h)).0) fit

-- the values at a key fit
