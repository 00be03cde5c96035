-- The pages of an owner are sought on the table, one of its pages after the other.
use Rattle.std.proofs.Common.{◌≡◌, inl, inr, ℕ, ◌+◌, ◌*◌, ◌-◌, ◌<◌, Bool, true, List, length, IsTrue, subst, sym, ap, ◌∙◌, arith}
use Rattle.std.specs.Prelude.{slice_get, Some}
use Rattle.std.proofs.lemmas.Bool.{cases_lt}
use Rattle.std.proofs.lemmas.Option.{slice_get_within}
use Rattle.gx_ports.specs.declared.page_view.PageView.{Ghosts}
use Rattle.gx_ports.specs.PageCalls.{ReadsPages}
use Rattle.gx_ports.specs.Sheets.{Sheets, AreOwnersOn}

-- those of the owner before this page are marked
abbrev pub AreSeenBefore : Sheets → ℕ → List Bool → ℕ → Type 0
AreSeenBefore sheets owner seen end = (page : ℕ) → page < end
    → slice_get sheets.owners page ≡ Some owner → slice_get seen page ≡ Some true

-- so are those that stand on the pages of the table before this one
pub record IsSeekingUnseen {S : Type 0} (g : Ghosts S) (owner : ℕ) (seen : List Bool)
    (start now : S) (table : ℕ) : Type 0 where
  pub reads : ReadsPages g start now
  pub faults : g.faults now ≡ g.faults start
  pub all : IsTrue g.tells → AreSeenBefore (g.working start) owner seen (2048 * table)

module _ (size : ℕ) (sheets : Sheets) (many : length sheets.owners ≡ size) (table first : ℕ)
    (part : List ℕ) (on : AreOwnersOn sheets.owners table part) (first_is : first ≡ 2048 * table)
  where
    -- one page of the table more
    pub seen_more : (owner : ℕ) (seen : List Bool) (count : ℕ)
        → ((i : ℕ) → i < 2048 → first + i < size → i < count)
        → ((i : ℕ) → i < count → slice_get part i ≡ Some owner
        → slice_get seen (first + i) ≡ Some true)
        → AreSeenBefore sheets owner seen (2048 * table)
        → AreSeenBefore sheets owner seen (2048 * (table + 1))
    seen_more owner seen count full here before page less at = elim (cases_lt page (2048 * table)) [
      | inl low ↦ before page low at
      | inr high ↦ (let within = slice_get_within sheets.owners page owner at in
          let same : 2048 * table + (page - first) ≡ page = omega (arith, high, first_is) in
          let low : page - first < 2048 = omega (arith, high, less, first_is) in
          let there : slice_get part (page - first) ≡ Some owner =
          on (page - first) low (omega (arith, within, same)) ∙ ap (slice_get sheets.owners) same
          ∙ at in
          subst (λ (n : ℕ). slice_get seen n ≡ Some true) (omega (arith, high, first_is))
          (here (page - first) (full (page - first) low
          (omega (arith, within, many, high, first_is))) there))
    ]

    -- an owner that stands there is that of its page
    pub owned_there : (owner i : ℕ) → i < 2048 → first + i < size → slice_get part i ≡ Some owner
        → slice_get sheets.owners (first + i) ≡ Some owner
    owned_there owner i low below at = ap (λ (n : ℕ). slice_get sheets.owners (n + i)) first_is
        ∙ sym (on i low (omega (arith, below, many, first_is))) ∙ at
