-- What a map has inside a span, and the entries of its pages there.
use Rattle.std.proofs.Common.{◌≡◌, ◌↔◌, ℕ, Bool, true, false, cond, List, [], ◌∷◌, map, Option, Some, None, refl, sym, ap, subst, ◌∙◌}
use Rattle.std.specs.Prelude.{T}
use Rattle.std.specs.List.{AllByRecursion, Contains}
use Rattle.std.specs.List.Sorted.{IsStrictlySortedBy}
use Rattle.std.specs.declared.cmp.Ordering.TheVariants.{Less}
use Rattle.std.specs.Ordering.{is_lt}
use Rattle.std.specs.Cmp.Lexicographic.{nat_list_cmp_total}
use Rattle.std.specs.FinMap as fin
use Rattle.std.specs.FinMap.Entries.{below_all, where_key, find-where_key, is_sorted-where_key, same_entries}
use Rattle.std.proofs.lemmas.Option.{none-some}
use Rattle.gx_laws.proofs.BoolLemmas.{both_true}
use Rattle.gx_values.specs.Keys.{is_inside}
use Rattle.gx_ports.specs.declared.leaves.Entry.{Entry as LeafEntry}
use Rattle.gx_ports.specs.LeafMaps.{LeafMap, entry_of, selected}
use Rattle.gx_ports.specs.Sheets.{Sheets}
use Rattle.gx_ports.specs.Keyed.{key_cmp}
use Rattle.gx_ports.proofs.KeyLemmas.{only_equal}
use Rattle.gx_chain.specs.Chain.{IsOn}
use Rattle.gx_chain.specs.Collect.{AreCollected}
use Rattle.gx_chain.proofs.FoundLemmas as found

-- ---- entries as pairs

abbrev pairs : List LeafEntry → List (List ℕ × List ℕ)
pairs = found.pairs (λ e. e.key) (λ e. e.body)

back : (es : List LeafEntry) → map entry_of (pairs es) ≡ es
back [] = refl
back (e ∷ es) = ap (λ (x : List LeafEntry). e ∷ x) (back es)

below_pairs : (k : List ℕ) (es : List LeafEntry)
    → AllByRecursion (λ q. key_cmp k q ≡ Less) (map (λ (e : LeafEntry). e.key) es)
    → T (below_all key_cmp k (pairs es))
below_pairs k [] all = tt
below_pairs k (e ∷ es) all =
    both_true _ _ (subst (λ r. T (is_lt r)) (sym all.0) tt) (below_pairs k es all.1)

sorted_pairs : (es : List LeafEntry)
    → IsStrictlySortedBy key_cmp (map (λ (e : LeafEntry). e.key) es)
    → T (fin.is_sorted key_cmp (pairs es))
unfolding IsStrictlySortedBy
sorted_pairs [] up = tt
sorted_pairs (e ∷ es) up = both_true _ _ (below_pairs e.key es up.0) (sorted_pairs es up.1)

-- what is found is an entry
found_from : (es : List LeafEntry) (k b : List ℕ) → fin.find key_cmp k (pairs es) ≡ Some b
    → Contains es (record { key = k; body = b })
found_from es k b is =
    let f = found.found_from (λ (e : LeafEntry). e.key) (λ e. e.body) es k b is in
    subst (Contains es) (λ i. record { key = f.2 i; body = f.3 i }) f.1

-- where there is an entry, one is found
found_some : (es : List LeafEntry) (k b : List ℕ) → Contains es (record { key = k; body = b })
    → (c : List ℕ) × (fin.find key_cmp k (pairs es) ≡ Some c)
found_some es k b c =
    found.found_some (λ (e : LeafEntry). e.key) (λ e. e.body) es (record { key = k; body = b }) c

-- ---- the entries of the map inside a span

module _ (s : Sheets) (pages : List ℕ) (all : LeafMap) (lo hi : List ℕ) (es : List LeafEntry)
    (map_is : (k b : List ℕ) → is_inside lo hi k ≡ true
    → (fin.get all k ≡ Some b) ↔ IsOn s pages k b) (a : AreCollected s lo hi pages es) where
  -- a look-up in them
  abbrev there : (k : List ℕ) → Option (List ℕ)
  there k = cond (is_inside lo hi k) (fin.get all k) None

  there_from : (k b : List ℕ) → fin.find key_cmp k (pairs es) ≡ Some b → there k ≡ Some b
  there_from k b is =
      let on = (a.those k b).0 (found_from es k b is) in
      ap (λ t. cond t (fin.get all k) None) on.0 ∙ (map_is k b on.0).1 on.1

  there_to : (k b : List ℕ) (t : Bool) → is_inside lo hi k ≡ t
      → cond t (fin.get all k) None ≡ Some b
      → (c : List ℕ) × (fin.find key_cmp k (pairs es) ≡ Some c)
  there_to k b true inside is =
      found_some es k b ((a.those k b).1 (inside, (map_is k b inside).0 is))
  there_to k b false inside is = absurd (none-some b is)

  both : (k : List ℕ) (found held : Option (List ℕ)) → fin.find key_cmp k (pairs es) ≡ found
      → there k ≡ held → fin.find key_cmp k (pairs es) ≡ there k
  both k None None f t = f ∙ sym t
  both k None (Some b) f t =
      (let c = there_to k b (is_inside lo hi k) refl t in absurd (none-some c.0 (sym f ∙ c.1)))
  both k (Some b) held f t = f ∙ sym (there_from k b f)

  inside_at : (k : List ℕ)
      → fin.find key_cmp k (where_key key_cmp (is_inside lo hi) (fin.entries all)) ≡ there k
  inside_at k =
      find-where_key key_cmp (is_inside lo hi) k
      (λ x e. ap (is_inside lo hi) (sym (only_equal k x e))) (fin.entries all)
      ∙ ap (λ o. cond (is_inside lo hi k) o None) (sym (fin.get-entries all k))

  pub pages_selected : selected lo hi all ≡ es
  pages_selected =
      ap (map entry_of) (sym (same_entries key_cmp nat_list_cmp_total only_equal (pairs es)
      (where_key key_cmp (is_inside lo hi) (fin.entries all))
      (sorted_pairs es a.ascending)
      (is_sorted-where_key key_cmp (is_inside lo hi) (fin.entries all) (fin.entries_sorted all))
      (λ k. both k (fin.find key_cmp k (pairs es)) (there k) refl refl ∙ sym (inside_at k))))
      ∙ back es
