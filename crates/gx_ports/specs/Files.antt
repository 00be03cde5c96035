-- Files. A file is the pages of one owner, and holds one leaf map. Each kind of file says by a
-- relation `IsFile` which sheets hold which map at a place; what its calls promise is the same for
-- all kinds.
use Rattle.std.specs.Prelude.{◌≡◌, ◌≢◌, ◌↔◌, ℕ, ◌+◌, ◌*◌, ◌<◌, ◌≤◌, ◌==◌, count_by, slice_get, Some, Result, IsTrue, IsErrOf}
use Rattle.std.specs.FinMap.{len}
use Rattle.gx_ports.specs.declared.pages.Place.{Place}
use Rattle.gx_ports.specs.declared.pages.TheConstants.{MAX_OWNER}
use Rattle.gx_ports.specs.declared.page_view.PageView.{Ghosts}
use Rattle.gx_ports.specs.declared.stop.Stop.{Stop}
use Rattle.gx_ports.specs.declared.stop.Stop.TheVariants.{Fault, Full, Damaged}
use Rattle.gx_ports.specs.LeafMaps.{LeafMap}
use Rattle.gx_ports.specs.Roots.{roots_of}
use Rattle.gx_ports.specs.Sheets.{Sheets, Ground, HasNone, IsHome}
use Rattle.gx_ports.specs.Stops.{HasStopCause}

-- the root pages lie past the table and are pages, and the owner is no mark of a free page or of
-- the table
pub record IsPlace (ground : Ground) (place : Place) : Type 0 where
  pub past : ground.tables ≤ place.root
  pub below : place.root + roots_of place.spec ≤ ground.size
  pub least : 1 ≤ place.owner
  pub most : place.owner ≤ MAX_OWNER

-- the same pages have the owner, and those past the table have the same bytes
pub record SameFor (ground : Ground) (owner : ℕ) (old new : Sheets) : Type 0 where
  pub owned : (page : ℕ) → (slice_get old.owners page ≡ Some owner)
      ↔ (slice_get new.owners page ≡ Some owner)
  pub bytes : (page : ℕ) → ground.tables ≤ page → slice_get old.owners page ≡ Some owner
      → slice_get new.bytes page ≡ slice_get old.bytes page

-- the pages of all other owners stay. Free pages are nobody's
abbrev pub OthersStay : Ground → ℕ → Sheets → Sheets → Type 0
OthersStay ground owner old new = (other : ℕ) → other ≢ owner → other ≢ 0
    → SameFor ground other old new

-- how many pages an owner has
abbrev pub page_count : ℕ → Sheets → ℕ
page_count owner sheets = count_by (λ o. o == owner) sheets.owners

-- What each kind of file proves of `IsFile`, and of the map that is read where the file is whole.
pub record AreFileLaws (ground : Ground) (place : Place) (IsFile : Sheets → LeafMap → Type 0)
    (map_of : Sheets → LeafMap) : Type 0 where
  -- the sheets hold one map at most
  pub one : (sheets : Sheets) (map : LeafMap) → IsFile sheets map → map_of sheets ≡ map
  -- it depends on the pages of the owner alone
  pub same : (old new : Sheets) (map : LeafMap) → SameFor ground place.owner old new
      → IsFile old map → IsFile new map
  -- these are few
  pub few : (sheets : Sheets) (map : LeafMap) → IsFile sheets map
      → page_count place.owner sheets ≤ roots_of place.spec + 2 * len map

-- The root pages are free, and the owner has no page: here a file can be made.
pub record IsVacant (place : Place) (sheets : Sheets) : Type 0 where
  pub free : (page : ℕ) → place.root ≤ page → page < place.root + roots_of place.spec
      → slice_get sheets.owners page ≡ Some 0
  pub none : (page : ℕ) → slice_get sheets.owners page ≢ Some place.owner

-- no page but the roots of the place has another owner than before
abbrev pub ClaimsRoots : Place → Sheets → Sheets → Type 0
ClaimsRoots place old new =
    (page : ℕ) → ¬ ((place.root ≤ page) × (page < place.root + roots_of place.spec))
    → slice_get new.owners page ≡ slice_get old.owners page

-- When a call on a file is given up: faults are counted, and damage is found only where something
-- was not sound, at the home of a page.
pub record EndsFile {S T : Type 0} (g : Ghosts S) (sound : Type 0) (old new : S)
    (result : Result T Stop) : Type 0 where
  pub cause : HasStopCause (g.faults old) (g.faults new) sound result
  pub home : (block : ℕ) → IsErrOf result (Damaged block) → IsHome (g.ground old) block

module _ {S : Type 0} (g : Ghosts S) (IsFile : Sheets → LeafMap → Type 0) where
  -- the pages tell what the device holds, and hold this map
  pub record Holds (p : S) (map : LeafMap) : Type 0 where
    pub told : IsTrue g.tells
    pub file : IsFile (g.working p) map

  -- the file is whole
  abbrev pub IsWhole : S → Type 0
  IsWhole p = (map : LeafMap) × Holds p map

  -- A change of a whole file leaves the pages of other owners as they were. After `Fault` nothing
  -- is known.
  abbrev pub SparesOthers : {T : Type 0} → ℕ → S → S → Result T Stop → Type 0
  SparesOthers owner old new result =
      IsWhole old → ¬ IsErrOf result Fault
      → OthersStay (g.ground old) owner (g.working old) (g.working new)

  -- `Full` comes only where no page is free, and the pages of the file are then few.
  pub record IsFull {T : Type 0} (place : Place) (old new : S)
      (result : Result T Stop) : Type 0 where
    pub none : IsTrue g.tells → IsErrOf result Full → HasNone (g.ground old) (g.working new)
    pub few : (map : LeafMap) → Holds old map → IsErrOf result Full
        → page_count place.owner (g.working new) ≤ roots_of place.spec + 2 * len map + 1
