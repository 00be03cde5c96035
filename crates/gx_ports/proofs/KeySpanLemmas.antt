-- The entries inside the span of one key: that at the key, if there is one, comes first.
use Rattle.std.proofs.Common.{◌≡◌, ◌≢◌, ℕ, Bool, true, false, cond, List, [], ◌∷◌, length, take, map, refl, sym, ap, subst, ◌∙◌}
use Rattle.std.specs.Prelude.{T, filter, not, None, Some, slice_get, ◌&&◌, is_some}
use Rattle.std.specs.FinMap as fin
use Rattle.std.specs.FinMap.Entries.{below_all}
use Rattle.std.specs.Ordering.{is_le, eq_by_cmp, ordering_reverse}
use Rattle.std.specs.declared.cmp.Ordering.TheVariants.{Less}
use Rattle.std.specs.Cmp.{tied_itself}
use Rattle.std.specs.Cmp.Lexicographic.{nat_list_cmp_total}
use Rattle.std.proofs.lemmas.Option.{none-some, same_Some}
use Rattle.gx_laws.proofs.OrderingLemmas.{is_less}
use Rattle.gx_laws.proofs.BoolLemmas.{first_of_both, second_of_both}
use Rattle.gx_values.specs.Keys.{is_inside}
use Rattle.gx_ports.specs.declared.leaves.Entry.{Entry}
use Rattle.gx_ports.specs.Keyed.{key_cmp}
use Rattle.gx_ports.specs.LeafMaps.{LeafMap, entry_of, selected}
use Rattle.gx_ports.proofs.KeyLemmas.{same_key, tied}

abbrev Pairs : Type 0
Pairs = List (List ℕ × List ℕ)

abbrev within : List ℕ → Pairs → Pairs
within k es = filter (λ e. is_inside k k e.0) es

whole_front : (k : List ℕ) → take (length k) k ≡ k
whole_front [] = refl
whole_front (x ∷ xs) = ap (λ (t : List ℕ). x ∷ t) (whole_front xs)

le_itself : (k : List ℕ) → is_le (key_cmp k k) ≡ true
le_itself k = ap is_le (tied_itself nat_list_cmp_total k)

inside_itself : (k : List ℕ) → is_inside k k k ≡ true
inside_itself k =
    ap (λ (b : Bool). b && is_le (key_cmp (take (length k) k) k)) (le_itself k)
    ∙ ap (λ (x : List ℕ). is_le (key_cmp x k)) (whole_front k) ∙ le_itself k

-- a key below is outside
below_outside : (k x : List ℕ) → key_cmp x k ≡ Less → is_inside k k x ≡ false
below_outside k x less =
    ap (λ (b : Bool). b && is_le (key_cmp (take (length k) x) k))
    (ap is_le (nat_list_cmp_total.antisymm k x ∙ ap ordering_reverse less))

-- a key that is found stands behind each that is below all
below_found : (x k b : List ℕ) (es : Pairs) → T (below_all key_cmp x es)
    → fin.find key_cmp k es ≡ Some b → key_cmp x k ≡ Less
below_found x k b [] below is = absurd (none-some b is)
below_found x k b (e ∷ es) below is =
    elim (eq_by_cmp key_cmp k e.0) as (λ t. eq_by_cmp key_cmp k e.0 ≡ t
    → cond t (Some e.1) (fin.find key_cmp k es) ≡ Some b → key_cmp x k ≡ Less) [
      | true ↦ λ t _. ap (key_cmp x) (same_key k e.0 t)
          ∙ is_less (key_cmp x e.0) (first_of_both _ _ below)
      | false ↦ λ _ later. below_found x k b es (second_of_both _ _ below) later
    ] refl is

first_within : (k b : List ℕ) (es : Pairs) → T (fin.is_sorted key_cmp es)
    → fin.find key_cmp k es ≡ Some b
    → slice_get (map entry_of (within k es)) 0 ≡ Some (record { key = k; body = b })
first_within k b [] up is = absurd (none-some b is)
first_within k b (e ∷ es) up is =
    elim (eq_by_cmp key_cmp k e.0) as (λ t. eq_by_cmp key_cmp k e.0 ≡ t
    → cond t (Some e.1) (fin.find key_cmp k es) ≡ Some b
    → slice_get (map entry_of (within k (e ∷ es))) 0 ≡ Some (record { key = k; body = b })) [
      | true ↦ λ t here.
          ap (λ (c : Bool). slice_get (map entry_of (cond c (e ∷ within k es) (within k es))) 0)
          (subst (λ (z : List ℕ). is_inside k k z ≡ true) (same_key k e.0 t) (inside_itself k))
          ∙ ap (λ (z : List ℕ). Some (record { key = z; body = e.1 })) (sym (same_key k e.0 t))
          ∙ ap (λ (z : List ℕ). Some (record { key = k; body = z })) (same_Some e.1 b here)
      | false ↦ λ _ later.
          ap (λ (c : Bool). slice_get (map entry_of (cond c (e ∷ within k es) (within k es))) 0)
          (below_outside k e.0 (below_found e.0 k b es (first_of_both _ _ up) later))
          ∙ first_within k b es (second_of_both _ _ up) later
    ] refl is

none_within : (k : List ℕ) (es : Pairs) (e : Entry) → fin.find key_cmp k es ≡ None
    → slice_get (map entry_of (within k es)) 0 ≡ Some e → e.key ≢ k
none_within k [] e none at = absurd (none-some e at)
none_within k (x ∷ es) e none at =
    elim (is_inside k k x.0) as (λ c.
    slice_get (map entry_of (cond c (x ∷ within k es) (within k es))) 0 ≡ Some e → e.key ≢ k) [
      | true ↦ λ here same.
          let first : entry_of x ≡ e = same_Some (entry_of x) e here in
          let key : x.0 ≡ k = ap (λ (y : Entry). y.key) first ∙ same in
          let tie : eq_by_cmp key_cmp k x.0 ≡ true =
          ap (eq_by_cmp key_cmp k) key ∙ tied k in
          none-some x.1 (sym none
          ∙ ap (λ (c : Bool). cond c (Some x.1) (fin.find key_cmp k es)) tie)
      | false ↦ λ later. elim (eq_by_cmp key_cmp k x.0) as (λ t.
          cond t (Some x.1) (fin.find key_cmp k es) ≡ None → e.key ≢ k) [
            | true ↦ λ found. absurd (none-some x.1 (sym found))
            | false ↦ λ absent. none_within k es e absent later
          ] none
    ] at

-- the entry at a key is the first one inside its span
pub first_at_key : (k b : List ℕ) (m : LeafMap) → fin.get m k ≡ Some b
    → slice_get (selected k k m) 0 ≡ Some (record { key = k; body = b })
first_at_key k b m is =
    first_within k b (fin.entries m) (fin.entries_sorted m) (sym (fin.get-entries m k) ∙ is)

-- and where there is none, the first one has another key
pub first_elsewhere : (k : List ℕ) (m : LeafMap) (e : Entry) → fin.get m k ≡ None
    → slice_get (selected k k m) 0 ≡ Some e → e.key ≢ k
first_elsewhere k m e none at =
    none_within k (fin.entries m) e (sym (fin.get-entries m k) ∙ none) at

-- so the first entry tells whether there is one at the key
pub key_there : (k : List ℕ) (m : LeafMap) (e : Entry) → slice_get (selected k k m) 0 ≡ Some e
    → e.key ≡ k → false ≡ not (fin.contains_key m k)
key_there k m e at same = elim (fin.get m k) as (λ o. fin.get m k ≡ o
    → false ≡ not (is_some o)) [
      | None ↦ λ none. absurd (first_elsewhere k m e none at same)
      | Some b ↦ λ _. refl
    ] refl

-- no entry at the key comes first
abbrev pub IsOther : List ℕ → List Entry → Type 0
IsOther k es = (b : List ℕ) → slice_get es 0 ≢ Some (record { key = k; body = b })

pub other_first : (k : List ℕ) (es : List Entry) (e : Entry) → slice_get es 0 ≡ Some e → e.key ≢ k
    → IsOther k es
other_first k es e at differs b is =
    differs (ap (λ (x : Entry). x.key) (same_Some e (record { key = k; body = b }) (sym at ∙ is)))

pub no_first : (k : List ℕ) (es : List Entry) → es ≡ [] → IsOther k es
no_first k es none b is =
    none-some (record { key = k; body = b })
    (ap (λ (x : List Entry). slice_get x 0) (sym none) ∙ is)

pub key_absent : (k : List ℕ) (m : LeafMap) (es : List Entry) → es ≡ selected k k m → IsOther k es
    → fin.contains_key m k ≡ false
key_absent k m es found other = elim (fin.get m k) as (λ o. fin.get m k ≡ o
    → is_some o ≡ false) [
      | None ↦ λ _. refl
      | Some b ↦ λ is. absurd (other b (ap (λ (x : List Entry). slice_get x 0) found
          ∙ first_at_key k b m is))
    ] refl
