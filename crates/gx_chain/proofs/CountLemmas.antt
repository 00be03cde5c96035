-- How many pages an owner and a chain have.
use Rattle.std.proofs.Common.{◌≡◌, ◌≢◌, inl, inr, ℕ, zero, suc, ◌+◌, ◌-◌, ◌≤◌, ◌==◌, Bool, cond, List, [], ◌∷◌, length, Some, None, refl, sym, ap, subst, ◌∙◌, arith}
use Rattle.std.specs.Prelude.{slice_get, count_by, is_some}
use Rattle.std.specs.List.{AllPairs, Contains}
use Rattle.std.specs.Ordering.{eq_by_cmp}
use Rattle.std.specs.Cmp.Lexicographic.{nat_list_cmp_total}
use Rattle.std.specs.FinMap as fin
use Rattle.std.proofs.lemmas.Bool.{cases_Bool, cases_eq, eqb-true}
use Rattle.std.proofs.lemmas.List.Sums.{sum_by-cons}
use Rattle.std.proofs.lemmas.Option.{none-some}
use Rattle.gx_ports.specs.LeafMaps.{LeafMap}
use Rattle.gx_ports.specs.Sheets.{Sheets, Ground}
use Rattle.gx_ports.specs.Keyed.{key_cmp}
use Rattle.gx_ports.proofs.KeyLemmas.{same_key}
use Rattle.gx_slots.specs.Entries.{Entry}
use Rattle.gx_chain.specs.Chain.{entries_at, IsOn, IsChain}
use Rattle.gx_chain.proofs.ListLemmas.{contains_here, contains_later, contains_cases, contains_none, pairs_head, pairs_tail}

-- a list without one of its members
abbrev HasTaken : ℕ → List ℕ → Type 0
HasTaken x ys =
    (rest : List ℕ) × (length ys ≡ length rest + 1)
    × ((q : ℕ) → q ≢ x → Contains ys q → Contains rest q)

take_away : (x : ℕ) (ys : List ℕ) → Contains ys x → HasTaken x ys
take_away x [] c = absurd (contains_none x c)
take_away x (y ∷ ys) c = elim (contains_cases y x ys c) [
  | inl e ↦ (
    ys,
    omega arith,
    λ q d j. elim (contains_cases y q ys j) [ inl f ↦ absurd (d (sym f ∙ e)) | inr k ↦ k ],
  )
  | inr i ↦ (let t = take_away x ys i in
      let l = t.1 in (
        y ∷ t.0,
        omega (arith, l),
        λ q d j. elim (contains_cases y q ys j) [
          | inl f ↦ subst (Contains (y ∷ t.0)) f (contains_here y t.0)
          | inr k ↦ contains_later y q t.0 (t.2 q d k)
        ],
      ))
]

-- those of an owner are at most as many as a list that has them all
pub count_listed : (owner : ℕ) (owners : List ℕ) (from : ℕ) (pages : List ℕ)
    → ((q : ℕ) → slice_get owners q ≡ Some owner → Contains pages (from + q))
    → count_by (λ o. o == owner) owners ≤ length pages
count_listed owner [] from pages all = omega arith
count_listed owner (o ∷ os) from pages all =
    let parts = sum_by-cons (λ (x : ℕ). cond (x == owner) 1 0) o os in
    elim (cases_Bool (o == owner)) [
      | inl e ↦ (let at = all zero (ap Some (eqb-true o owner e)) in
          let t = take_away (from + zero) pages at in
          let h = count_listed owner os (from + 1) t.0
          (λ q is. t.2 (from + 1 + q) (λ f. omega (arith, f))
          (subst (Contains pages) (omega arith) (all (suc q) is))) in
          let l = t.1 in
          let one = ap {B = ℕ} (λ (b : Bool). cond b 1 0) e in
          omega (arith, h, l, parts, one))
      | inr e ↦ (let h = count_listed owner os (from + 1) pages
          (λ q is. subst (Contains pages) (omega arith) (all (suc q) is)) in
          let none = ap {B = ℕ} (λ (b : Bool). cond b 1 0) e in
          omega (arith, h, parts, none))
    ]

some_entry : (m : LeafMap) (k b : List ℕ) → fin.get m k ≡ Some b → 1 ≤ fin.len m
some_entry m k b is = elim (cases_eq (fin.len m) 0) [
  | inl e ↦ absurd (none-some b
      (sym (ap (λ (x : LeafMap). fin.get x k) (fin.empty_of_len m e) ∙ fin.get-empty key_cmp k)
      ∙ is))
  | inr d ↦ omega (arith, d)
]

-- pages with keys of their own are at most as many as the keys of a map
pub keys_few : (sheets : Sheets) (pages : List ℕ) (m : LeafMap) → AllPairs (λ a b. a ≢ b) pages
    → ((p : ℕ) → Contains pages p
    → (k b : List ℕ) × Contains (entries_at sheets p) (record { key = k; body = b })
    × (fin.get m k ≡ Some b))
    → ((p q : ℕ) (k b c : List ℕ) → Contains pages p → Contains pages q
    → Contains (entries_at sheets p) (record { key = k; body = b })
    → Contains (entries_at sheets q) (record { key = k; body = c }) → p ≡ q)
    → length pages ≤ fin.len m
keys_few sheets [] m once has apart = omega arith
keys_few sheets (p ∷ ps) m once has apart =
    let w = has p (contains_here p ps) in
    let less = fin.remove m w.0 in
    let ih = keys_few sheets ps less (pairs_tail p ps once)
    (λ q c. (let v = has q (contains_later p q ps c) in
    let other : v.0 ≢ w.0 = λ e. pairs_head p ps once
    (subst (Contains ps) (apart q p w.0 v.1 w.1 (contains_later p q ps c) (contains_here p ps)
    (subst (λ (x : List ℕ). Contains (entries_at sheets q) (record { key = x; body = v.1 })) e v.2)
    w.2) c) in (
      v.0,
      v.1,
      v.2,
      fin.get-remove nat_list_cmp_total m w.0 v.0 ∙ elim (cases_Bool (eq_by_cmp key_cmp v.0 w.0)) [
        | inl e ↦ absurd (other (same_key v.0 w.0 e))
        | inr e ↦ ap (λ (b : Bool). cond b None (fin.get m v.0)) e ∙ v.3
      ],
    )))
    (λ q r k b c in_q in_r. apart q r k b c (contains_later p q ps in_q)
    (contains_later p r ps in_r)) in
    let some = some_entry m w.0 w.1 w.3 in
    let shorter : fin.len less ≡ fin.len m - 1 =
    fin.len-remove nat_list_cmp_total m w.0
    ∙ ap (λ (b : Bool). cond b (fin.len m - 1) (fin.len m)) (ap is_some w.3) in
    omega (arith, ih, some, shorter)

pub first_of : (es : List Entry) → es ≢ []
    → (k b : List ℕ) × Contains es (record { key = k; body = b })
first_of [] some = absurd (some refl)
first_of (e ∷ es) some = (e.key, e.body, contains_here e es)

-- a chain has at most one page more than its map has entries
pub chain_few : (ground : Ground) (owner : ℕ) (sheets : Sheets) (first : ℕ) (pages : List ℕ)
    (m : LeafMap) → IsChain ground owner sheets first pages
    → ((k b : List ℕ) → IsOn sheets pages k b → fin.get m k ≡ Some b) → length pages ≤ 1 + fin.len m
chain_few ground owner sheets first [] m chain map_is = omega arith
chain_few ground owner sheets first (p ∷ ps) m chain map_is =
    let h = keys_few sheets ps m (pairs_tail p ps chain.fit.once)
    (λ q c. (let f = first_of (entries_at sheets q)
    (chain.fit.filled q (contains_later p q ps c)
    (λ e. pairs_head p ps chain.fit.once (subst (Contains ps) (e ∙ chain.linked.0) c))) in (
      f.0,
      f.1,
      f.2,
      map_is f.0 f.1
          (record { page = q; among = contains_later p q ps c; here = f.2 }),
    )))
    (λ q r k b c in_q in_r. chain.fit.apart q r k b c (contains_later p q ps in_q)
    (contains_later p r ps in_r)) in
    omega (arith, h)
