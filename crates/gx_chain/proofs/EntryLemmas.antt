-- The entries of a page when one is taken away, or one more is put.
use Rattle.std.proofs.Common.{◌≡◌, ◌≢◌, ◌⊎◌, inl, inr, ℕ, ◌+◌, ◌-◌, ◌<◌, List, [], ◌∷◌, length, get_or, refl, sym, ap, subst, ◌∙◌, arith}
use Rattle.std.specs.List.{All, Contains, HoldsAt, insert, remove}
use Rattle.std.proofs.lemmas.Bool.{cases_lt, cases_order}
use Rattle.std.proofs.lemmas.List.{get_or_default}
use Rattle.std.proofs.lemmas.List.Edits.{length-remove, get_or-remove_below, get_or-remove_above}
use Rattle.std.proofs.lemmas.List.Elements.{All-contains}
use Rattle.std.proofs.lemmas.List.Sorted.{IsPermutation-insert, IsPermutation-sym, Contains-permutation}
use Rattle.gx_slots.specs.Entries.{Entry, AreDistinct}
use Rattle.gx_chain.proofs.ListLemmas.{contains_here, contains_later, contains_cases}

-- one entry less
module _ (es : List Entry) (i : ℕ) (key : List ℕ) (distinct : AreDistinct es) (in_i : i < length es)
    (there : HoldsAt (λ entry. entry.key ≡ key) es i) where
  less_at : (e : Entry) (k : ℕ) → k < length (remove es i) → get_or (remove es i) k e ≡ e
      → (e.key ≢ key) × Contains es e
  less_at e k below is =
      let short = length-remove es i in_i in
      elim (cases_lt k i) [
        | inl lt ↦ (let read = sym (get_or-remove_below es i e k lt in_i) ∙ is in (
          λ same. distinct k i e lt in_i (ap (λ (x : Entry). x.key) read ∙ same ∙ sym (there e)),
          (k, omega (arith, lt, in_i), read),
        ))
        | inr ge ↦ (let read = sym (get_or-remove_above es i e k ge in_i) ∙ is in
            let inside : k + 1 < length es = omega (arith, short, below) in (
              λ same. distinct i (k + 1) e (omega (arith, ge)) inside (there e ∙ sym same
                  ∙ sym (ap (λ (x : Entry). x.key) read)),
              (k + 1, inside, read),
            ))
      ]

  pub less_to : (e : Entry) → Contains (remove es i) e → (e.key ≢ key) × Contains es e
  less_to e c = less_at e c.0 c.1 c.2

  -- no other entry has the key
  pub less_other : All (λ e. e.key ≢ key) (remove es i)
  less_other k d below =
      (less_at (get_or (remove es i) k d) k below
      (get_or_default (remove es i) k (get_or (remove es i) k d) d below)).0

  kept_at : (e : Entry) (k : ℕ) → k < length es → get_or es k e ≡ e → e.key ≢ key
      → Contains (remove es i) e
  kept_at e k below is other =
      let short = length-remove es i in_i in
      elim (cases_order k i) [
        | inl same ↦ absurd (other (sym (ap (λ (x : Entry). x.key) is)
            ∙ ap (λ (n : ℕ). (get_or es n e).key) same ∙ there e))
        | inr apart ↦ elim apart [
          | inl lt ↦ (k, omega (arith, short, lt, in_i), get_or-remove_below es i e k lt in_i ∙ is)
          | inr gt ↦ (let back : k - 1 + 1 ≡ k = omega (arith, gt) in (
            k - 1,
            omega (arith, short, gt, below),
            get_or-remove_above es i e (k - 1) (omega (arith, gt)) in_i
                ∙ ap (λ (n : ℕ). get_or es n e) back ∙ is,
          ))
        ]
      ]

  pub less_from : (e : Entry) → (e.key ≢ key) × Contains es e → Contains (remove es i) e
  less_from e c = kept_at e c.1.0 c.1.1 c.1.2 c.0

-- one entry more
pub more_to : (es : List Entry) (i : ℕ) (x e : Entry) → Contains (insert es i x) e
    → (x ≡ e) ⊎ Contains es e
more_to es i x e c =
    contains_cases x e es (Contains-permutation (insert es i x) (x ∷ es) e
    (IsPermutation-sym (x ∷ es) (insert es i x) (IsPermutation-insert es i x)) c)

pub more_from : (es : List Entry) (i : ℕ) (x e : Entry) → (x ≡ e) ⊎ Contains es e
    → Contains (insert es i x) e
more_from es i x e c =
    Contains-permutation (x ∷ es) (insert es i x) e (IsPermutation-insert es i x) (elim c [
      | inl same ↦ subst (Contains (x ∷ es)) same (contains_here x es)
      | inr among ↦ contains_later x e es among
    ])

-- the key of no entry
pub no_entry : (es : List Entry) (key body : List ℕ) → All (λ entry. entry.key ≢ key) es
    → Contains es (record { key = key; body = body }) → ⊥
no_entry es key body other c =
    All-contains (λ (e : Entry). e.key ≢ key) es (record { key = key; body = body }) other c refl

-- an entry at a place
pub entry_there : (es : List Entry) (i : ℕ) (key : List ℕ) → i < length es
    → HoldsAt (λ entry. entry.key ≡ key) es i
    → (body : List ℕ) × Contains es (record { key = key; body = body })
entry_there es i key in_i there =
    let d : Entry = record { key = key; body = [] } in
    let e = get_or es i d in
    let same : record { key = key; body = e.body } ≡ e =
    λ j. record { key = sym (there d) j; body = e.body } in
    (e.body, (i, in_i, get_or_default es i (record { key = key; body = e.body }) d in_i ∙ sym same))
