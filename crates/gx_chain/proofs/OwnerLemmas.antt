-- What a change of one chain of an owner makes of the pages of others.
use Rattle.std.proofs.Common.{◌≡◌, ◌≢◌, ◌⊎◌, inl, inr, ℕ, ◌≤◌, List, Some, Ok, Err, refl, sym, ap, ◌∙◌, arith}
use Rattle.std.specs.Prelude.{slice_get, Result, OnOk, IsErrOf}
use Rattle.std.specs.List.{Contains}
use Rattle.std.proofs.lemmas.Option.{same_Some}
use Rattle.gx_ports.specs.declared.page_view.PageView.{Ghosts}
use Rattle.gx_ports.specs.declared.stop.Stop.{Stop}
use Rattle.gx_ports.specs.declared.stop.Stop.TheVariants as stop
use Rattle.gx_ports.specs.Files.{OthersStay, EndsFile}
use Rattle.gx_ports.specs.Sheets.{Sheets, Ground}
use Rattle.gx_chain.specs.Changes.{StaysBeside}
use Rattle.gx_chain.proofs.ListLemmas.{contains_or_not}

-- ---- the pages of other owners

module _ (ground : Ground) (owner : ℕ) (s t : Sheets) (before now : List ℕ)
    (was : (q : ℕ) → Contains before q → slice_get s.owners q ≡ Some owner)
    (is : (q : ℕ) → Contains now q → slice_get t.owners q ≡ Some owner)
    (b : StaysBeside ground s t before now) where
  off_before : (other q : ℕ) → other ≢ owner → slice_get s.owners q ≡ Some other → Contains before q
      → ⊥
  off_before other q d o c = d (sym (same_Some owner other (sym (was q c) ∙ o)))

  off_now : (other q : ℕ) → other ≢ owner → other ≢ 0 → slice_get s.owners q ≡ Some other
      → Contains now q → ⊥
  off_now other q d z o c = elim (b.came q c) [
    | inl old ↦ off_before other q d o old
    | inr free ↦ z (sym (same_Some 0 other (sym free ∙ o)))
  ]

  new_off_now : (other q : ℕ) → other ≢ owner → slice_get t.owners q ≡ Some other → Contains now q
      → ⊥
  new_off_now other q d o c = d (sym (same_Some owner other (sym (is q c) ∙ o)))

  new_off_before : (other q : ℕ) → other ≢ owner → other ≢ 0 → slice_get t.owners q ≡ Some other
      → Contains before q → ⊥
  new_off_before other q d z o c = elim (b.left q c) [
    | inl here ↦ new_off_now other q d o here
    | inr free ↦ z (sym (same_Some 0 other (sym free ∙ o)))
  ]

  pub others_beside : OthersStay ground owner s t
  others_beside other d z = record {
    owned = λ q. (
      λ o. b.owners q (off_before other q d o) (off_now other q d z o) ∙ o,
      λ o. sym (b.owners q (new_off_before other q d z o) (new_off_now other q d o)) ∙ o,
    );
    bytes = λ q past o. b.bytes q past (off_before other q d o) (off_now other q d z o);
  }

-- ---- the pages of the owner

module _ (ground : Ground) (owner : ℕ) (s t : Sheets) (before now : List ℕ) (some : 1 ≤ owner)
    (b : StaysBeside ground s t before now) where
  -- each is one of those now, or was the owner's beside those before
  pub owned_after : (q : ℕ) → slice_get t.owners q ≡ Some owner
      → Contains now q ⊎ ((Contains before q → ⊥) × (slice_get s.owners q ≡ Some owner))
  owned_after q o = elim (contains_or_not now q) [
    | inl here ↦ inl here
    | inr off ↦ elim (contains_or_not before q) [
      | inl old ↦ elim (b.left q old) [
        | inl here ↦ inl here
        | inr free ↦ (let zero : owner ≡ 0 = same_Some owner 0 (sym o ∙ free) in
            absurd (omega (arith, zero, some)))
      ]
      | inr out ↦ inr (out, sym (b.owners q out off) ∙ o)
    ]
  ]

  pub owned_beside : ((q : ℕ) → slice_get s.owners q ≡ Some owner → Contains before q) → (q : ℕ)
      → slice_get t.owners q ≡ Some owner → Contains now q
  owned_beside all q o = elim (owned_after q o) [
    | inl here ↦ here
    | inr old ↦ absurd (old.0 (all q old.1))
  ]

others_same : (ground : Ground) (owner : ℕ) (s t : Sheets) → t ≡ s → OthersStay ground owner s t
others_same ground owner s t same other d z = record {
  owned = λ q. (
    λ o. ap (λ x. slice_get x.owners q) same ∙ o,
    λ o. ap (λ x. slice_get x.owners q) (sym same) ∙ o,
  );
  bytes = λ q past o. ap (λ x. slice_get x.bytes q) same;
}

-- a change that didn't fail spares others: it is done, or found no page
pub spared : {S : Type 0} (g : Ghosts S) (sound : Type 0) (ground : Ground) (owner : ℕ)
    (old new : S) (result : Result (Unit {0}) Stop) → sound → EndsFile g sound old new result
    → OnOk result (OthersStay ground owner (g.working old) (g.working new))
    → (IsErrOf result stop.Full → g.working new ≡ g.working old) → ¬ IsErrOf result stop.NoMemory
    → ¬ IsErrOf result stop.Fault
    → OthersStay ground owner (g.working old) (g.working new)
spared g sound ground owner old new (Ok u) whole ends ok full frugal fault = ok
spared g sound ground owner old new (Err stop.Fault) whole ends ok full frugal fault =
    absurd (fault refl)
spared g sound ground owner old new (Err stop.Full) whole ends ok full frugal fault =
    others_same ground owner (g.working old) (g.working new) (full refl)
spared g sound ground owner old new (Err (stop.Damaged n)) whole ends ok full frugal fault =
    absurd (ends.cause.damaged n refl whole)
spared g sound ground owner old new (Err stop.NoMemory) whole ends ok full frugal fault =
    absurd (frugal refl)
