-- The table of owners is examined, one of its pages after the other.
use Rattle.std.proofs.Common.{◌≡◌, inl, inr, ℕ, ◌+◌, ◌*◌, ◌-◌, ◌<◌, ◌≤◌, List, length, IsTrue, get_or, subst, sym, ap, ◌∙◌, arith}
use Rattle.std.specs.Prelude.{slice_get, Some}
use Rattle.std.proofs.lemmas.Bool.{cases_lt}
use Rattle.std.proofs.lemmas.Option.{slice_get-get_or, slice_get_within, same_Some}
use Rattle.gx_ports.specs.declared.page_view.PageView.{Ghosts}
use Rattle.gx_ports.specs.PageCalls.{ReadsPages}
use Rattle.gx_ports.specs.Sheets.{Sheets, Ground, AreOwnersOn}
use Rattle.gx_leaves.specs.Checks.{IsDueOwner}
use Rattle.gx_leaves.specs.Wholeness.{IsTable, table_owner}

-- the owners of the pages before this one are such as they may have
abbrev pub AreDue : Ground → ℕ → Sheets → ℕ → Type 0
AreDue base leaves sheets end = (page owner : ℕ) → page < end
    → slice_get sheets.owners page ≡ Some owner → IsDueOwner base.tables leaves page owner

-- so do those that stand on the pages of the table before this one
pub record IsCheckingTable {S : Type 0} (g : Ghosts S) (leaves : ℕ) (start now : S)
    (table : ℕ) : Type 0 where
  pub reads : ReadsPages g start now
  pub faults : g.faults now ≡ g.faults start
  pub due : IsTrue g.tells → AreDue (g.ground start) leaves (g.working start) (2048 * table)

module _ (base : Ground) (leaves : ℕ) (sheets : Sheets) (many : length sheets.owners ≡ base.size)
  where
    module _ (table first : ℕ) (part : List ℕ) (on : AreOwnersOn sheets.owners table part)
        (first_is : first ≡ 2048 * table) where
      -- one page of the table more
      pub due_more : (count : ℕ) → ((i : ℕ) → i < 2048 → first + i < base.size → i < count)
          → ((i owner : ℕ) → i < count → slice_get part i ≡ Some owner
          → IsDueOwner base.tables leaves (first + i) owner)
          → AreDue base leaves sheets (2048 * table)
          → AreDue base leaves sheets (2048 * (table + 1))
      due_more count full here before page owner less at = elim (cases_lt page (2048 * table)) [
        | inl low ↦ before page owner low at
        | inr high ↦ (let within = slice_get_within sheets.owners page owner at in
            let same : 2048 * table + (page - first) ≡ page = omega (arith, high, first_is) in
            let low : page - first < 2048 = omega (arith, high, less, first_is) in
            let there : slice_get part (page - first) ≡ Some owner =
            on (page - first) low (omega (arith, within, same))
            ∙ ap (slice_get sheets.owners) same ∙ at in
            subst (λ (n : ℕ). IsDueOwner base.tables leaves n owner) (omega (arith, high, first_is))
            (here (page - first) owner
            (full (page - first) low (omega (arith, within, many, high, first_is))) there))
      ]

      -- an owner there that may not be is none of a whole table
      pub undue : (i owner : ℕ) → i < 2048 → first + i < base.size → slice_get part i ≡ Some owner
          → IsTable base leaves sheets → IsDueOwner base.tables leaves (first + i) owner
      undue i owner low below at whole =
          let at_all : slice_get sheets.owners (first + i) ≡ Some owner =
          ap (λ (n : ℕ). slice_get sheets.owners (n + i)) first_is
          ∙ sym (on i low (omega (arith, below, many, first_is))) ∙ at in
          record {
            own = λ less. same_Some owner table_owner (sym at_all ∙ whole.own (first + i) less);
            owned = λ past. whole.owned (first + i) owner (record { past = past; below = below })
                at_all;
          }

    -- where each page has an owner that it may have, the table is whole
    pub table_due : (end : ℕ) → base.tables ≤ base.size → base.size ≤ end
        → AreDue base leaves sheets end → IsTable base leaves sheets
    table_due end room all due = record {
      own = λ page below.
          let at = slice_get-get_or sheets.owners page 0 (omega (arith, below, room, many)) in
          at ∙ ap Some ((due page (get_or sheets.owners page 0) (omega (arith, below, room, all))
          at).own below);
      owned = λ page owner past is.
          (due page owner (let b = past.below in omega (arith, b, all)) is).owned past.past;
    }
