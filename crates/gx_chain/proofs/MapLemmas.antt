-- The map that is read on the pages of an owner is that of a list of all of them.
use Rattle.std.proofs.Common.{◌≡◌, ◌⊎◌, ◌↔◌, inl, inr, ℕ, zero, suc, ◌<◌, ◌≤◌, true, false, cond, List, [], ◌∷◌, ◌++◌, length, get_or, Option, Some, None, refl, sym, ap, subst, ◌∙◌, arith}
use Rattle.std.specs.Prelude.{◌==◌, slice_get, slice_index_or}
use Rattle.std.specs.List.{Contains}
use Rattle.std.specs.Option.{unwrap_or}
use Rattle.std.specs.Cmp.Lexicographic.{nat_list_cmp_total}
use Rattle.std.specs.FinMap as fin
use Rattle.std.proofs.lemmas.Bool.{cases_eq, cases_order, eqb-true}
use Rattle.std.proofs.lemmas.List.{get_or_default}
use Rattle.std.proofs.lemmas.Option.{none-some, unwrap_or-slice_get, slice_get_within}
use Rattle.gx_laws.proofs.NumberLemmas.{number_itself}
use Rattle.gx_ports.specs.LeafMaps.{LeafMap}
use Rattle.gx_ports.specs.Sheets.{Sheets}
use Rattle.gx_ports.specs.Keyed.{key_cmp}
use Rattle.gx_ports.proofs.KeyLemmas.{only_equal}
use Rattle.gx_slots.specs.Entries.{Entry, AreDistinct}
use Rattle.gx_chain.specs.Chain.{entries_at, IsOn}
use Rattle.gx_chain.specs.Collect.{ArePagesApart}
use Rattle.gx_chain.specs.Map.{has_owner, entries_if_owned, owned_entries, owned_map}
use Rattle.gx_chain.proofs.FoundLemmas as found
use Rattle.gx_chain.proofs.ListLemmas.{contains_here, contains_later, contains_cases, contains_none}
use Rattle.gx_chain.proofs.PutLemmas.{page_distinct}

-- ---- entries behind others

contains_left : {X : Type 0} (xs ys : List X) (x : X) → Contains xs x → Contains (xs ++ ys) x
contains_left [] ys x c = absurd (contains_none x c)
contains_left (y ∷ xs) ys x c = elim (contains_cases y x xs c) [
  | inl e ↦ subst (λ z. Contains (z ∷ (xs ++ ys)) x) (sym e) (contains_here x (xs ++ ys))
  | inr later ↦ contains_later y x (xs ++ ys) (contains_left xs ys x later)
]

contains_right : {X : Type 0} (xs ys : List X) (x : X) → Contains ys x → Contains (xs ++ ys) x
contains_right [] ys x c = c
contains_right (y ∷ xs) ys x c = contains_later y x (xs ++ ys) (contains_right xs ys x c)

contains_either : {X : Type 0} (xs ys : List X) (x : X) → Contains (xs ++ ys) x
    → Contains xs x ⊎ Contains ys x
contains_either [] ys x c = inr c
contains_either (y ∷ xs) ys x c = elim (contains_cases y x (xs ++ ys) c) [
  | inl e ↦ inl (subst (λ z. Contains (z ∷ xs) x) (sym e) (contains_here x xs))
  | inr later ↦ elim (contains_either xs ys x later)
      [ inl here ↦ inl (contains_later y x xs here) | inr there ↦ inr there ]
]

-- ---- pages by owner

-- a page of the owner has an entry
pub record IsOwnedEntry (owner : ℕ) (sheets : Sheets) (e : Entry) : Type 0 where
  pub page : ℕ
  pub owned : has_owner owner sheets page ≡ true
  pub here : Contains (entries_at sheets page) e

owned_from : (owner : ℕ) (sheets : Sheets) (n : ℕ) (e : Entry)
    → Contains (owned_entries owner sheets n) e → IsOwnedEntry owner sheets e
owned_from owner sheets zero e c = absurd (contains_none e c)
owned_from owner sheets (suc n) e c =
    elim (contains_either (entries_if_owned owner sheets n) (owned_entries owner sheets n) e c) [
      | inl here ↦ elim (has_owner owner sheets n) as (λ b. has_owner owner sheets n ≡ b
          → Contains (cond b (entries_at sheets n) []) e
          → IsOwnedEntry owner sheets e) [
            | true ↦ λ is at. record { page = n; owned = is; here = at }
            | false ↦ λ _ at. absurd (contains_none e at)
          ] refl here
      | inr later ↦ owned_from owner sheets n e later
    ]

owned_to : (owner : ℕ) (sheets : Sheets) (n p : ℕ) (e : Entry) → p < n
    → has_owner owner sheets p ≡ true → Contains (entries_at sheets p) e
    → Contains (owned_entries owner sheets n) e
owned_to owner sheets zero p e less is at = absurd (omega (arith, less))
owned_to owner sheets (suc n) p e less is at = elim (cases_eq p n) [
  | inl same ↦ contains_left (entries_if_owned owner sheets n) (owned_entries owner sheets n) e
      (subst (λ b. Contains (cond b (entries_at sheets n) []) e)
      (sym (ap (has_owner owner sheets) (sym same) ∙ is))
      (subst (λ q. Contains (entries_at sheets q) e) same at))
  | inr other ↦ contains_right (entries_if_owned owner sheets n) (owned_entries owner sheets n) e
      (owned_to owner sheets n p e (omega (arith, less, other)) is at)
]

-- ---- look-ups among entries

abbrev pairs : List Entry → List (List ℕ × List ℕ)
pairs = found.pairs (λ e. e.key) (λ e. e.body)

-- what is found is an entry
found_from : (es : List Entry) (k b : List ℕ) → fin.find key_cmp k (pairs es) ≡ Some b
    → Contains es (record { key = k; body = b })
found_from es k b is =
    let f = found.found_from (λ (e : Entry). e.key) (λ e. e.body) es k b is in
    subst (Contains es) (λ i. record { key = f.2 i; body = f.3 i }) f.1

-- where there is an entry, one is found
found_some : (es : List Entry) (k b : List ℕ) → Contains es (record { key = k; body = b })
    → (c : List ℕ) × (fin.find key_cmp k (pairs es) ≡ Some c)
found_some es k b c =
    found.found_some (λ (e : Entry). e.key) (λ e. e.body) es (record { key = k; body = b }) c

-- ---- entries of different keys

same_body : (es : List Entry) (k b c : List ℕ) → AreDistinct es
    → Contains es (record { key = k; body = b }) → Contains es (record { key = k; body = c })
    → b ≡ c
same_body es k b c distinct x y =
    let first : Entry = record { key = k; body = b } in
    let at_y : get_or es y.0 first ≡ record { key = k; body = c } =
    get_or_default es y.0 first (record { key = k; body = c }) y.1 ∙ y.2 in
    let key_x = ap (λ (e : Entry). e.key) x.2 in
    let key_y = ap (λ (e : Entry). e.key) at_y in
    elim (cases_order x.0 y.0) [
      | inl same ↦ ap (λ (e : Entry). e.body) (sym x.2 ∙ ap (λ n. get_or es n first) same ∙ at_y)
      | inr apart ↦ elim apart [
        | inl lt ↦ absurd (distinct x.0 y.0 first lt y.1 (key_x ∙ sym key_y))
        | inr gt ↦ absurd (distinct y.0 x.0 first gt x.1 (key_y ∙ sym key_x))
      ]
    ]

-- ---- the map that is read is the one of the pages

module _ (owner : ℕ) (s : Sheets) (pages : List ℕ) (some : 1 ≤ owner) (h : ArePagesApart s pages)
    (are_owned : (page : ℕ) → Contains pages page → slice_get s.owners page ≡ Some owner)
    (all_owned : (page : ℕ) → slice_get s.owners page ≡ Some owner → Contains pages page) where
  read_at : (k : List ℕ)
      → fin.get (owned_map owner s) k
      ≡ fin.find key_cmp k (pairs (owned_entries owner s (length s.owners)))
  read_at k =
      fin.get-from_entries nat_list_cmp_total (pairs (owned_entries owner s (length s.owners))) k

  shown : (o : Option ℕ) → unwrap_or o 0 ≡ owner → o ≡ Some owner
  shown None is = absurd (omega (arith, is, some))
  shown (Some n) is = ap Some is

  owner_at : (p : ℕ) → has_owner owner s p ≡ true → slice_get s.owners p ≡ Some owner
  owner_at p is =
      let here : slice_index_or s.owners p 0 ≡ owner =
      eqb-true (slice_index_or s.owners p 0) owner is in
      shown (slice_get s.owners p) (unwrap_or-slice_get s.owners p 0 ∙ here)

  has_at : (p : ℕ) → slice_get s.owners p ≡ Some owner → has_owner owner s p ≡ true
  has_at p is =
      ap (λ n. n == owner) (sym (unwrap_or-slice_get s.owners p 0) ∙ ap (λ o. unwrap_or o 0) is)
      ∙ number_itself owner

  -- what is read stands on the chain
  read_on : (k b : List ℕ) → fin.get (owned_map owner s) k ≡ Some b → IsOn s pages k b
  read_on k b is =
      let at = owned_from owner s (length s.owners) (record { key = k; body = b })
      (found_from (owned_entries owner s (length s.owners)) k b (sym (read_at k) ∙ is)) in
      record
      { page = at.page; among = all_owned at.page (owner_at at.page at.owned); here = at.here }

  -- what stands on the chain is read
  on_read : (k b : List ℕ) → IsOn s pages k b
      → (c : List ℕ) × (fin.get (owned_map owner s) k ≡ Some c)
  on_read k b on =
      let owned = are_owned on.page on.among in
      let found = found_some (owned_entries owner s (length s.owners)) k b
      (owned_to owner s (length s.owners) on.page (record { key = k; body = b })
      (slice_get_within s.owners on.page owner owned)
      (has_at on.page owned) on.here) in
      (found.0, read_at k ∙ found.1)

  -- one body at most stands on it under a key
  one_body : (k b c : List ℕ) → IsOn s pages k b → IsOn s pages k c → b ≡ c
  one_body k b c x y =
      let same = h.apart y.page x.page k c b y.among x.among y.here x.here in
      same_body (entries_at s x.page) k b c (page_distinct s x.page (h.each x.page x.among)) x.here
      (subst (λ n. Contains (entries_at s n) (record { key = k; body = c })) same y.here)

  -- the map that is read is the one of these pages, where they are all pages of the owner
  pub owned_map_is : (k b : List ℕ) → (fin.get (owned_map owner s) k ≡ Some b) ↔ IsOn s pages k b
  owned_map_is k b = (
    read_on k b,
    λ on. (let found = on_read k b on in
        found.1 ∙ ap Some (sym (one_body k b found.0 on (read_on k found.0 found.1)))),
  )

  module _ (here : LeafMap) (map_is : (k b : List ℕ) → (fin.get here k ≡ Some b) ↔ IsOn s pages k b)
    where
      both : (k : List ℕ) (read there : Option (List ℕ)) → fin.get (owned_map owner s) k ≡ read
          → fin.get here k ≡ there → fin.get (owned_map owner s) k ≡ fin.get here k
      both k None None r t = r ∙ sym t
      both k None (Some b) r t =
          (let c = on_read k b ((map_is k b).0 t) in absurd (none-some c.0 (sym r ∙ c.1)))
      both k (Some b) there r t = r ∙ sym ((map_is k b).1 (read_on k b r))

      pub one_map : owned_map owner s ≡ here
      one_map =
          fin.same_map nat_list_cmp_total only_equal (owned_map owner s) here
          (λ k. both k (fin.get (owned_map owner s) k) (fin.get here k) refl refl)
