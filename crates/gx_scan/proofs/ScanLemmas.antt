-- Values found in the bytes of entries.
use Rattle.std.proofs.Common.{[], ◌≡◌, ℕ, zero, suc, ◌+◌, ◌<◌, ◌≤◌, List, ◌∷◌, ◌++◌, length, take, drop, get_or, map, cond, Bool, true, false, Some, refl, sym, ap, subst, ◌∙◌, arith, append-nil, append_assoc}
use Rattle.std.specs.Prelude.{pos, filter, slice_get}
use Rattle.std.specs.List.{AllByRecursion}
use Rattle.std.proofs.lemmas.List.Elements.{filter-append}
use Rattle.std.proofs.lemmas.Option.{slice_get_within, get_or_from_slice_get}
use Rattle.gx_values.specs.declared.values.Value.{Value}
use Rattle.gx_values.specs.declared.values.Value.TheVariants as value
use Rattle.gx_values.specs.declared.records.Field.{Field}
use Rattle.gx_values.specs.Values.{Fits, AreFit}
use Rattle.gx_ports.specs.declared.leaves.Entry.{Entry}
use Rattle.gx_ports.specs.LeafMaps.{entry_of}
use Rattle.gx_actual.specs.Bodies.{field_bytes, body_of}
use Rattle.gx_model.specs.States.{Row}
use Rattle.gx_scan.proofs.EntryLemmas.{RowAt, entry_at}

abbrev none : Value
none = value.Int (pos 0)

-- past the last field there is none
pub none_past : (fs : List Field) (vs : List Value) (i : ℕ) → AreFit fs vs → length fs ≤ i
    → none ≡ get_or vs i none
none_past [] [] i fit le = refl
none_past [] (v ∷ vs) i fit le = absurd fit
none_past (f ∷ fs) [] i fit le = absurd fit
none_past (f ∷ fs) (v ∷ vs) zero fit le = absurd (omega arith)
none_past (f ∷ fs) (v ∷ vs) (suc i) fit le = none_past fs vs i fit.1 (omega arith)

-- ---- records chosen

-- the record of an entry
pub row_of : (P : Row → Type 0) (made : Row → List ℕ × List ℕ) (rs : List Row) (es : List Entry)
    (i : ℕ) (e : Entry) → AllByRecursion P rs → es ≡ map (λ (r : Row). entry_of (made r)) rs
    → slice_get es i ≡ Some e → RowAt P made rs i e
row_of P made rs es i e all same h =
    entry_at P made rs es i e all same (slice_get_within es i e h)
    (sym (get_or_from_slice_get es i e e h))

module _ (P : Row → Type 0) (made : Row → List ℕ × List ℕ) (test : Row → Bool)
    (rs before rows : List Row) (i : ℕ) (e : Entry) (at : RowAt P made rs i e)
    (so_far : rows ≡ before ++ filter test (take i rs)) where
  -- one more record was tested
  pub row_kept : (after : List Row) (row : Row) → test at.row ≡ true → row ≡ at.row
      → after ≡ rows ++ row ∷ [] → after ≡ before ++ filter test (take (i + 1) rs)
  row_kept after row met same pushed =
      pushed ∙ (λ k. so_far k ++ same k ∷ []) ∙ append_assoc before (filter test (take i rs))
      (at.row ∷ [])
      ∙ ap (λ b. before ++ (filter test (take i rs) ++ cond b (at.row ∷ []) [])) (sym met)
      ∙ sym (ap (λ l. before ++ filter test l) at.more ∙ ap (λ l. before ++ l)
      (filter-append test (take i rs) (at.row ∷ [])))

  pub row_left : test at.row ≡ false → rows ≡ before ++ filter test (take (i + 1) rs)
  row_left unmet =
      so_far ∙ ap (λ l. before ++ l) (sym (append-nil (filter test (take i rs))))
      ∙ ap (λ b. before ++ (filter test (take i rs) ++ cond b (at.row ∷ []) [])) (sym unmet)
      ∙ sym (ap (λ l. before ++ filter test l) at.more ∙ ap (λ l. before ++ l)
      (filter-append test (take i rs) (at.row ∷ [])))
