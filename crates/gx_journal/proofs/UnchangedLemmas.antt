-- Working pages of which none has changed.
use Rattle.std.proofs.Common.{◌≡◌, ℕ, Bool, true, false, List, [], ◌∷◌, length, get_or, Option, Some, inl, inr, refl, ap, sym, subst, ◌∙◌, arith}
use Rattle.std.specs.Prelude.{◌==◌, IsSomeAnd, IsTrue}
use Rattle.std.proofs.lemmas.Bool.{true≢false}
use Rattle.std.proofs.lemmas.Bool.Decides.{eqb_tells}
use Rattle.gx_frames.specs.Pool.{Resident, Pool, IsPool, IsLast, IsChanged, find_page, without}
use Rattle.gx_frames.specs.Calls.{placed_first}
use Rattle.gx_frames.proofs.PoolLemmas.{find_here}
use Rattle.gx_journal.specs.declared.working.WorkingPages.{WorkingPages}
use Rattle.gx_journal.specs.Working.{IsUnchangedIn}
use Rattle.gx_journal.proofs.CleanLemmas.{changed_at, unchanged_at}
use Rattle.gx_journal.proofs.SourceLemmas.{find_past, find_without_same, find_without_other, last_found}

-- where no page had changed, none has in the same working pages
pub never_changed : (old new : WorkingPages) (p : ℕ) → ((q : ℕ) → IsChanged old.frames q → ⊥)
    → new ≡ old → IsChanged new.frames p → ⊥
never_changed old new p none same is =
    none p (subst (λ (w : WorkingPages). IsChanged w.frames p) same is)

-- where no page was spilled, none is listed in the same working pages
pub never_listed : (old new : WorkingPages) (n : ℕ) → IsUnchangedIn old → new ≡ old
    → length new.listed.items ≡ n → (n == 0) ≡ false → ⊥
never_listed old new n is same many some = elim (eqb_tells n 0) [
  | inl none ↦ true≢false (sym none.0 ∙ some)
  | inr listed ↦ (let unspilled = subst IsUnchangedIn (sym same) is in
      let more = listed.1 in
      true≢false (sym (new.named.flagged 0 (omega (arith, many, more)))
      ∙ unspilled.unspilled (get_or new.listed.items 0 0)))
]

-- a page that stands in the frames as before has changed only if it had
pub still_unchanged : (old new : List Resident) (p : ℕ) → find_page p new ≡ find_page p old
    → (IsSomeAnd (find_page p old) (λ r. IsTrue r.changed) → ⊥)
    → IsSomeAnd (find_page p new) (λ r. IsTrue r.changed) → ⊥
still_unchanged old new p same none is =
    none (subst (λ (o : Option Resident). IsSomeAnd o (λ r. IsTrue r.changed)) same is)

-- the page that was used longest ago has not changed where none has
pub last_unchanged : (pool : Pool) (page : ℕ) (changed : Bool) → IsPool pool
    → IsLast pool page changed → (IsChanged pool page → ⊥) → changed ≡ false
last_unchanged pool page false whole last none = refl
last_unchanged pool page true whole last none =
    absurd (none (subst (λ (o : Option Resident). IsSomeAnd o (λ r. IsTrue r.changed))
    (sym (last_found pool page true whole last).1) refl))

-- where no page has changed, none has once one has left the frames
pub none_left : (residents : List Resident) (p q : ℕ)
    → (IsSomeAnd (find_page q residents) (λ r. IsTrue r.changed) → ⊥)
    → IsSomeAnd (find_page q (without p residents)) (λ r. IsTrue r.changed) → ⊥
none_left residents p q none is = elim (eqb_tells p q) [
  | inl same ↦ absurd (subst (λ (o : Option Resident). IsSomeAnd o (λ r. IsTrue r.changed))
      (ap (λ (k : ℕ). find_page k (without p residents)) (sym same.1)
      ∙ find_without_same p residents) is)
  | inr other ↦ none (subst (λ (o : Option Resident). IsSomeAnd o (λ r. IsTrue r.changed))
      (find_without_other p q residents other.1) is)
]

-- nor once one has come into them as it is stored
pub none_placed : (residents : List Resident) (p q : ℕ) (bytes : List ℕ)
    → (IsSomeAnd (find_page q residents) (λ r. IsTrue r.changed) → ⊥)
    → IsSomeAnd (find_page q (placed_first p bytes residents)) (λ r. IsTrue r.changed) → ⊥
none_placed residents p q bytes none is =
    let first : Resident = record { page = p; bytes = bytes; changed = false } in
    elim (eqb_tells p q) [
      | inl same ↦ unchanged_at (find_page q (first ∷ residents)) first
          (find_here q first residents same.1) refl is
      | inr other ↦ none (subst (λ (o : Option Resident). IsSomeAnd o (λ r. IsTrue r.changed))
          (find_past q first residents other.1) is)
    ]

-- no page that isn't in a frame has changed
pub none_changed : (residents : List Resident) (p : ℕ) → residents ≡ []
    → IsSomeAnd (find_page p residents) (λ r. IsTrue r.changed) → ⊥
none_changed residents p none is =
    subst (λ (rs : List Resident). IsSomeAnd (find_page p rs) (λ r. IsTrue r.changed)) none is

-- where each page in a frame is as it was read, none has changed
pub all_unchanged : (residents : List Resident) (p : ℕ)
    → ((r : Resident) → find_page p residents ≡ Some r → r.changed ≡ false)
    → IsSomeAnd (find_page p residents) (λ r. IsTrue r.changed) → ⊥
all_unchanged residents p plain is =
    let found = changed_at (find_page p residents) is in
    true≢false (sym found.2 ∙ plain found.0 found.1)
