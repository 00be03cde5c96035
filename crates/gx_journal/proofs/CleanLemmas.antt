-- Changed pages become unchanged ones.
use Rattle.std.proofs.Common.{◌≡◌, ◌≢◌, inl, inr, ℕ, true, false, List, [], ◌∷◌, Option, Some, None, refl, sym, ◌∙◌, ap, subst}
use Rattle.std.specs.Prelude.{IsSomeAnd, IsTrue}
use Rattle.std.proofs.lemmas.Option.{same_Some}
use Rattle.std.proofs.lemmas.Bool.{true≢false}
use Rattle.std.proofs.lemmas.Bool.Decides.{eqb_tells}
use Rattle.gx_frames.specs.Pool.{Resident, find_page, cleaned}
use Rattle.gx_frames.proofs.PoolLemmas.{find_here, cleaned_here, eqb_other}
use Rattle.gx_journal.proofs.SourceLemmas.{find_past}

cleaned_other : (p : ℕ) (r : Resident) (rs : List Resident) → r.page ≢ p
    → cleaned p (r ∷ rs) ≡ r ∷ cleaned p rs
cleaned_other p r rs ne = rw (eqb_other r.page p ne)

pub find_cleaned : (p : ℕ) (rs : List Resident) (r : Resident) → find_page p rs ≡ Some r
    → (x : Resident) × (find_page p (cleaned p rs) ≡ Some x) × (x.bytes ≡ r.bytes)
    × (x.changed ≡ false)
find_cleaned p [] r is = absurd (let e : ◌≡◌ {A = Option Resident} None (Some r) = is in cc)
find_cleaned p (y ∷ rs) r is = elim (eqb_tells y.page p) [
  | inl same ↦ (let x : Resident = record { page = y.page; bytes = y.bytes; changed = false } in (
    x,
    ap (find_page p) (cleaned_here p y rs same.1) ∙ find_here p x (cleaned p rs) same.1,
    ap (λ (z : Resident). z.bytes) (same_Some y r (sym (find_here p y rs same.1) ∙ is)),
    refl,
  ))
  | inr other ↦ (let rest = find_cleaned p rs r (sym (find_past p y rs other.1) ∙ is) in (
    rest.0,
    ap (find_page p) (cleaned_other p y rs other.1)
        ∙ find_past p y (cleaned p rs) other.1 ∙ rest.1,
    rest.2,
    rest.3,
  ))
]

pub find_cleaned_other : (p q : ℕ) (rs : List Resident) → p ≢ q
    → find_page q (cleaned p rs) ≡ find_page q rs
find_cleaned_other p q [] ne = refl
find_cleaned_other p q (y ∷ rs) ne = elim (eqb_tells y.page p) [
  | inl same ↦ (let x : Resident = record { page = y.page; bytes = y.bytes; changed = false } in
      let off : y.page ≢ q = λ e. ne (sym same.1 ∙ e) in
      ap (find_page q) (cleaned_here p y rs same.1) ∙ find_past q x (cleaned p rs) off
      ∙ find_cleaned_other p q rs ne
      ∙ sym (find_past q y rs off))
  | inr other ↦ ap (find_page q) (cleaned_other p y rs other.1) ∙ (elim (eqb_tells y.page q) [
    | inl at ↦ find_here q y (cleaned p rs) at.1 ∙ sym (find_here q y rs at.1)
    | inr off ↦ find_past q y (cleaned p rs) off.1 ∙ find_cleaned_other p q rs ne
        ∙ sym (find_past q y rs off.1)
  ])
]

-- a page is changed
abbrev pub AtChanged : ℕ → List Resident → Type 0
AtChanged p rs = IsSomeAnd (find_page p rs) (λ r. IsTrue r.changed)

pub changed_at : (o : Option Resident) → IsSomeAnd o (λ r. IsTrue r.changed)
    → (r : Resident) × (o ≡ Some r) × (r.changed ≡ true)
changed_at None h = absurd h
changed_at (Some r) h = (r, refl, h)

pub unchanged_at : (o : Option Resident) (r : Resident) → o ≡ Some r → r.changed ≡ false
    → IsSomeAnd o (λ x. IsTrue x.changed) → ⊥
unchanged_at o r is plain h =
    let on : r.changed ≡ true =
    subst (λ (k : Option Resident). IsSomeAnd k (λ x. IsTrue x.changed)) is h in
    true≢false (sym on ∙ plain)
