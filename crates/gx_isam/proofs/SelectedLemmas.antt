-- All entries of a map, as they are selected.
use Rattle.std.proofs.Common.{◌≡◌, ℕ, zero, suc, ◌+◌, Bool, true, false, cond, List, [], ◌∷◌, map, Some, refl, sym, ap, subst, ◌∙◌, arith}
use Rattle.std.specs.Prelude.{T, filter, slice_get}
use Rattle.std.specs.FinMap as fin
use Rattle.std.specs.FinMap.Entries.{below_all}
use Rattle.std.specs.List.{All, Contains}
use Rattle.std.specs.Ordering.{eq_by_cmp}
use Rattle.std.specs.declared.cmp.Ordering.TheVariants.{Less}
use Rattle.std.proofs.lemmas.Option.{none-some, same_Some}
use Rattle.gx_laws.proofs.OrderingLemmas.{is_less}
use Rattle.gx_laws.proofs.BoolLemmas.{first_of_both, second_of_both}
use Rattle.gx_values.specs.Keys.{is_inside}
use Rattle.gx_values.proofs.OrderLemmas.{all_inside}
use Rattle.gx_ports.specs.declared.leaves.Entry.{Entry as LeafEntry}
use Rattle.gx_ports.specs.declared.pages.Place.{Place}
use Rattle.gx_ports.specs.Keyed.{key_cmp}
use Rattle.gx_ports.specs.LeafMaps.{LeafMap, entry_of, selected}
use Rattle.gx_ports.specs.Sheets.{Sheets, Ground, bytes_at}
use Rattle.gx_ports.proofs.KeyLemmas.{same_key, tied}
use Rattle.gx_slots.specs.Entries.{Entry, IsFit}
use Rattle.gx_slots.proofs.PageLemmas.{page_of}
use Rattle.gx_chain.specs.Chain.{entries_at}
use Rattle.gx_chain.proofs.ChainLemmas.{linked_page}
use Rattle.gx_isam_index.specs.Index.{first_page_of}
use Rattle.gx_isam.specs.Isam.{IsIsam}
use Rattle.gx_isam_index.specs.Layout.{AreOrdered, keys_of}
use Rattle.gx_isam.specs.Rebuild.{AreEntriesOf}
use Rattle.gx_isam_index.proofs.LayoutLemmas.{not_itself}

abbrev Pairs : Type 0
Pairs = List (List ℕ × List ℕ)

-- ---- without bounds all are inside

filtered_all : (es : Pairs) → filter (λ e. is_inside [] [] e.0) es ≡ es
filtered_all [] = refl
filtered_all (e ∷ es) =
    ap (λ (b : Bool). cond b (e ∷ filter (λ e. is_inside [] [] e.0) es)
    (filter (λ e. is_inside [] [] e.0) es))
    (all_inside e.0) ∙ ap (λ (x : Pairs). e ∷ x) (filtered_all es)

pub all_selected : (m : LeafMap) → selected [] [] m ≡ map entry_of (fin.entries m)
all_selected m = ap (map entry_of) (filtered_all (fin.entries m))

keys_are : (es : Pairs) → keys_of (map entry_of es) ≡ map (λ e. e.0) es
keys_are [] = refl
keys_are (e ∷ es) = ap (λ (x : List (List ℕ)). e.0 ∷ x) (keys_are es)

pub keys_selected : (m : LeafMap) → keys_of (selected [] [] m) ≡ fin.keys m
keys_selected m = ap keys_of (all_selected m) ∙ keys_are (fin.entries m)

-- ---- their keys ascend

below_each : (k : List ℕ) (es : Pairs) (i : ℕ) (f : LeafEntry) → T (below_all key_cmp k es)
    → slice_get (map entry_of es) i ≡ Some f
    → key_cmp k f.key ≡ Less
below_each k [] i f all at = absurd (none-some f at)
below_each k (e ∷ es) zero f all at =
    ap (λ (x : LeafEntry). key_cmp k x.key) (sym (same_Some (entry_of e) f at))
    ∙ is_less (key_cmp k e.0) (first_of_both _ _ all)
below_each k (e ∷ es) (suc i) f all at = below_each k es i f (second_of_both _ _ all) at

ascending : (es : Pairs) → T (fin.is_sorted key_cmp es) → (i : ℕ) (e f : LeafEntry)
    → slice_get (map entry_of es) i ≡ Some e
    → slice_get (map entry_of es) (suc i) ≡ Some f → key_cmp e.key f.key ≡ Less
ascending [] up i e f at next = absurd (none-some e at)
ascending (x ∷ es) up zero e f at next =
    ap (λ (y : LeafEntry). key_cmp y.key f.key) (sym (same_Some (entry_of x) e at))
    ∙ below_each x.0 es 0 f (first_of_both _ _ up) next
ascending (x ∷ es) up (suc i) e f at next = ascending es (second_of_both _ _ up) i e f at next

-- ---- they are those of the map

found_at : (es : Pairs) (k b : List ℕ) → fin.find key_cmp k es ≡ Some b
    → (i : ℕ) × (slice_get (map entry_of es) i ≡ Some (record { key = k; body = b }))
found_at [] k b is = absurd (none-some b is)
found_at (e ∷ es) k b is = elim (eq_by_cmp key_cmp k e.0) as (λ t. eq_by_cmp key_cmp k e.0 ≡ t
    → cond t (Some e.1) (fin.find key_cmp k es) ≡ Some b
    → (i : ℕ) × (slice_get (map entry_of (e ∷ es)) i ≡ Some (record { key = k; body = b }))) [
      | true ↦ λ same at. (
        0,
        (let this : entry_of e ≡ record { key = k; body = b } =
            λ i. record { key = sym (same_key k e.0 same) i; body = same_Some e.1 b at i } in
            ap Some this),
      )
      | false ↦ λ _ at. (let later = found_at es k b at in (suc later.0, later.1))
    ] refl is

at_found : (es : Pairs) (k b : List ℕ) (i : ℕ) → T (fin.is_sorted key_cmp es)
    → slice_get (map entry_of es) i ≡ Some (record { key = k; body = b })
    → fin.find key_cmp k es ≡ Some b
at_found [] k b i up at = absurd (none-some (record { key = k; body = b }) at)
at_found (e ∷ es) k b zero up at =
    let same = same_Some (entry_of e) (record { key = k; body = b }) at in
    let tie : eq_by_cmp key_cmp k e.0 ≡ true =
    ap (λ (x : LeafEntry). eq_by_cmp key_cmp k x.key) same ∙ tied k in
    ap (λ (t : Bool). cond t (Some e.1) (fin.find key_cmp k es)) tie
    ∙ ap (λ (x : LeafEntry). Some x.body) same
at_found (e ∷ es) k b (suc i) up at =
    let less = below_each e.0 es i (record { key = k; body = b }) (first_of_both _ _ up) at in
    elim (eq_by_cmp key_cmp k e.0) as (λ t. eq_by_cmp key_cmp k e.0 ≡ t
    → cond t (Some e.1) (fin.find key_cmp k es) ≡ Some b) [
      | true ↦ λ same. absurd
          (not_itself k (ap (λ (x : List ℕ). key_cmp x k) (same_key k e.0 same) ∙ less))
      | false ↦ λ _. at_found es k b i (second_of_both _ _ up) at
    ] refl

pub selected_those : (m : LeafMap) → AreEntriesOf m (selected [] [] m)
selected_those m k b = (
  λ is. (let at = found_at (fin.entries m) k b (sym (fin.get-entries m k) ∙ is) in
      (at.0, ap (λ (x : List LeafEntry). slice_get x at.0) (all_selected m) ∙ at.1)),
  λ at. fin.get-entries m k ∙ at_found (fin.entries m) k b at.0 (fin.entries_sorted m)
      (ap (λ (x : List LeafEntry). slice_get x at.0) (sym (all_selected m)) ∙ at.1),
)

-- ---- each fits a page

fits_of : (es : List Entry) (e : Entry) → All IsFit es → Contains es e → IsFit e
fits_of es e fit c = subst IsFit c.2 (fit c.0 e c.1)

pub selected_ordered : (ground : Ground) (place : Place) (s : Sheets) (m : LeafMap)
    → IsIsam ground place s m
    → AreOrdered (selected [] [] m)
selected_ordered ground place s m h = record {
  fit = λ i e at.
      let on = (h.map_is e.key e.body).0 ((selected_those m e.key e.body).1 (i, at)) in
      let page = linked_page s (first_page_of (bytes_at s place.root) on.bucket)
      (h.pages on.bucket) on.on.page
      (h.buckets.chains on.bucket on.below).linked on.on.among in
      fits_of (entries_at s on.on.page) (record { key = e.key; body = e.body })
      (page_of (bytes_at s on.on.page) page).page.holds.fit
      on.on.here;
  ascending = λ i e f at next.
      let es = fin.entries m in
      let here = ap (λ (x : List LeafEntry). slice_get x i) (sym (all_selected m)) ∙ at in
      let behind = ap (λ (x : List LeafEntry). slice_get x (suc i)) (sym (all_selected m))
      ∙ subst (λ n. slice_get (selected [] [] m) n ≡ Some f) (let one : i + 1 ≡ suc i =
      omega arith in one) next in
      ascending es (fin.entries_sorted m) i e f here behind;
}
