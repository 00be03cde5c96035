-- What the pages of a heap hold.
use Rattle.std.specs.Prelude.{◌≡◌, ◌↔◌, ℕ, List, slice_get, Some}
use Rattle.std.specs.FinMap.{get}
use Rattle.std.specs.List.{Contains}
use Rattle.gx_ports.specs.declared.pages.Place.{Place}
use Rattle.gx_ports.specs.LeafMaps.{LeafMap}
use Rattle.gx_ports.specs.Sheets.{Sheets, Ground}
use Rattle.gx_chain.specs.Chain.{IsChain, IsOn}

-- The pages of the owner are those of one chain from the root on, and the map is the union of the
-- entries on them.
pub record IsHeap (ground : Ground) (place : Place) (sheets : Sheets) (map : LeafMap) : Type 0 where
  pub pages : List ℕ
  pub chain : IsChain ground place.owner sheets place.root pages
  pub owned : (page : ℕ) → slice_get sheets.owners page ≡ Some place.owner → Contains pages page
  pub map_is : (key body : List ℕ) → (get map key ≡ Some body) ↔ IsOn sheets pages key body
