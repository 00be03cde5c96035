-- A leaf that was examined.
use Rattle.std.proofs.Common.{◌≡◌, ℕ, List, length, sym, subst, ◌∙◌}
use Rattle.std.specs.Prelude.{slice_get, Some, Result, Ok, Err, OnOk}
use Rattle.std.proofs.lemmas.Option.{same_Some}
use Rattle.gx_ports.specs.declared.page_view.PageView.{Ghosts}
use Rattle.gx_ports.specs.declared.pages.Place.{Place}
use Rattle.gx_ports.specs.Files.{IsWhole}
use Rattle.gx_ports.specs.LeafMaps.{LeafMap}
use Rattle.gx_ports.specs.PageCalls.{ReadsPages}
use Rattle.gx_ports.specs.Sheets.{Sheets, Ground}
use Rattle.gx_leaves.specs.Kinds.{IsFileAt}
use Rattle.gx_leaves.specs.Wholeness.{AreLaid, AreWhole, IsTable, IsWholeAt}

module _ {S : Type 0} (g : Ghosts S) (places : List Place) (old new : S)
    (reads : ReadsPages g old new) where
  file_read : (place : Place) (m : LeafMap) → IsFileAt (g.ground new) place (g.working new) m
      → IsFileAt (g.ground old) place (g.working old) m
  file_read place m file =
      subst (λ (b : Ground). IsFileAt b place (g.working old) m) reads.keeps.ground
      (subst (λ (s : Sheets). IsFileAt (g.ground new) place s m) reads.working file)

  file_still : (place : Place) (m : LeafMap) → IsFileAt (g.ground old) place (g.working old) m
      → IsFileAt (g.ground new) place (g.working new) m
  file_still place m file =
      subst (λ (b : Ground). IsFileAt b place (g.working new) m) (sym reads.keeps.ground)
      (subst (λ (s : Sheets). IsFileAt (g.ground old) place s m) (sym reads.working) file)

  -- with a table that is whole, a whole file makes its leaf whole
  pub whole_by : (leaf : ℕ) (place : Place) → slice_get places leaf ≡ Some place → (count : ℕ)
      → count ≡ length places
      → IsTable (g.ground old) count (g.working old) → IsWhole g (IsFileAt (g.ground new) place) new
      → IsWholeAt g.tells (g.ground old) places (g.working old) leaf
  whole_by leaf place at count many table file = record {
    told = file.1.told;
    table = subst (λ (n : ℕ). IsTable (g.ground old) n (g.working old)) many table;
    held = λ other there. (let same = same_Some place other (sym at ∙ there) in (
      file.0,
      subst (λ (p : Place). IsFileAt (g.ground old) p (g.working old) file.0) same
          (file_read place file.0 file.1.file),
    ));
  }

  -- the file of a whole leaf is whole
  pub file_of : (leaf : ℕ) (place : Place) → slice_get places leaf ≡ Some place
      → IsWholeAt g.tells (g.ground old) places (g.working old) leaf
      → IsWhole g (IsFileAt (g.ground new) place) new
  file_of leaf place at whole = let h = whole.held place at in
      (h.0, record { told = whole.told; file = file_still place h.0 h.1 })

  -- leaves that are read stay whole
  pub whole_read : {T E : Type 0} (result : Result T E)
      → OnOk result (AreWhole g.tells (g.steady old) (g.ground old) places (g.working old)
      → AreWhole g.tells (g.steady new) (g.ground new) places (g.working new))
  whole_read (Ok x) = λ whole. record {
    told = whole.told;
    settled = reads.keeps.steady.0 whole.settled;
    laid = subst (λ (b : Ground). AreLaid b places (g.working new)) (sym reads.keeps.ground)
        (subst (λ (s : Sheets). AreLaid (g.ground old) places s) (sym reads.working) whole.laid);
  }
  whole_read (Err e) = tt
