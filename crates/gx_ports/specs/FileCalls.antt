-- What each call on a file gives, of every kind of file alike: `IsFile` says which sheets hold
-- which map at the place.
use Rattle.std.specs.Prelude.{◌≡◌, ℕ, List, ◌++◌, Result, IsTrue, OnOk, IsErrOf}
use Rattle.std.specs.FinMap.{empty, insert, remove}
use Rattle.gx_device.specs.declared.device.Failed.{Failed}
use Rattle.gx_values.specs.declared.keys.Span.{Span}
use Rattle.gx_ports.specs.declared.leaves.Entry.{Entry}
use Rattle.gx_ports.specs.declared.page_view.PageView.{Ghosts}
use Rattle.gx_ports.specs.declared.pages.Place.{Place}
use Rattle.gx_ports.specs.declared.stop.Stop.{Stop}
use Rattle.gx_ports.specs.declared.stop.Stop.TheVariants.{Full, NoMemory}
use Rattle.gx_ports.specs.Files.{IsVacant, ClaimsRoots, OthersStay, EndsFile, Holds, IsWhole, SparesOthers, IsFull}
use Rattle.gx_ports.specs.LeafMaps.{LeafMap, Extends, selected}
use Rattle.gx_ports.specs.PageCalls.{KeepsPages, ReadsPages, CountsPageFaults}
use Rattle.gx_ports.specs.Sheets.{Sheets, HasNone}

-- What a call that claims one page at most keeps, and when it is given up. `Full`: nothing has
-- changed. Damage is found only where something was not sound.
pub record ClaimsOnePage {S T : Type 0} (g : Ghosts S) (sound : Type 0) (old new : S)
    (result : Result T Stop) : Type 0
  where
    pub full : IsTrue g.tells → IsErrOf result Full → HasNone (g.ground old) (g.working old)
    pub unchanged : IsErrOf result Full → g.working new ≡ g.working old
    pub keeps : KeepsPages g old new
    pub ends : EndsFile g sound old new result
    pub frugal : ¬ IsErrOf result NoMemory

module _ {S : Type 0} (g : Ghosts S) (IsFile : Sheets → LeafMap → Type 0) where
  -- an empty file is made, where the roots are free and the owner has no page
  pub record MakesFile (place : Place) (old new : S)
      (result : Result (Unit {0}) Failed) : Type 0 where
    pub made : IsTrue g.tells → IsVacant place (g.working old)
        → OnOk result (IsFile (g.working new) empty)
    pub others : IsTrue g.tells → IsVacant place (g.working old)
        → OnOk result (OthersStay (g.ground old) place.owner (g.working old) (g.working new))
    pub roots : IsTrue g.tells → IsVacant place (g.working old)
        → OnOk result (ClaimsRoots place (g.working old) (g.working new))
    pub keeps : KeepsPages g old new
    pub faults : CountsPageFaults g old new result

  -- a body is set at a key
  pub record PutsInFile (place : Place) (key body : List ℕ) (old new : S)
      (result : Result (Unit {0}) Stop) : Type 0 where
    pub ok : (map : LeafMap) → Holds g IsFile old map
        → OnOk result (IsFile (g.working new) (insert map key body))
    pub others : SparesOthers g IsFile place.owner old new result
    pub full : IsFull g IsFile place old new result
    pub keeps : KeepsPages g old new
    pub ends : EndsFile g (IsWhole g IsFile old) old new result
    pub frugal : ¬ IsErrOf result NoMemory

  -- the entry at a key is taken away, if there is one
  pub record RemovesFromFile (place : Place) (key : List ℕ) (old new : S)
      (result : Result (Unit {0}) Stop) : Type 0 where
    pub ok : (map : LeafMap) → Holds g IsFile old map
        → OnOk result (IsFile (g.working new) (remove map key))
    pub others : SparesOthers g IsFile place.owner old new result
    pub keeps : KeepsPages g old new
    pub ends : EndsFile g (IsWhole g IsFile old) old new result
    pub not_full : ¬ IsErrOf result Full
    pub frugal : ¬ IsErrOf result NoMemory

  -- the entries inside a span are appended to a list, in the order of their keys
  pub record SelectsInFile (span : Span) (old_out new_out : List Entry) (old new : S)
      (result : Result (Unit {0}) Stop) : Type 0 where
    pub ok : (map : LeafMap) → Holds g IsFile old map
        → OnOk result (new_out ≡ old_out ++ selected span.lo span.hi map)
    pub extends : Extends old_out new_out
    pub reads : ReadsPages g old new
    pub ends : EndsFile g (IsWhole g IsFile old) old new result
    pub not_full : ¬ IsErrOf result Full

  -- the file is examined: `Ok` tells that it is whole
  pub record ChecksFile (old new : S) (result : Result (Unit {0}) Stop) : Type 0 where
    pub ok : IsTrue g.tells → OnOk result (IsWhole g IsFile old)
    pub reads : ReadsPages g old new
    pub ends : EndsFile g (IsWhole g IsFile old) old new result
    pub not_full : ¬ IsErrOf result Full
