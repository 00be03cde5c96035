-- What the pages of a hashed file hold.
use Rattle.std.specs.Prelude.{◌≡◌, ◌↔◌, ℕ, ◌+◌, ◌<◌, List, slice_get, Some}
use Rattle.std.specs.FinMap.{get}
use Rattle.std.specs.List.{Contains}
use Rattle.gx_ports.specs.declared.pages.Place.{Place}
use Rattle.gx_ports.specs.LeafMaps.{LeafMap}
use Rattle.gx_ports.specs.Roots.{roots_of}
use Rattle.gx_ports.specs.Sheets.{Sheets, Ground}
use Rattle.gx_chain.specs.Chain.{IsChain, IsOn}
use Rattle.gx_chain.specs.Chains.{IsOfChain, IsOnChain}
use Rattle.gx_hash.specs.Buckets.{hash_bucket}

-- The pages of the owner are those of one chain from each root on, each once. An entry stands in
-- the chain of its bucket, and the map is the union of the entries.
pub record IsHash (ground : Ground) (place : Place) (sheets : Sheets) (map : LeafMap) : Type 0 where
  -- those of each chain
  pub pages : ℕ → List ℕ
  pub chains : (bucket : ℕ) → bucket < roots_of place.spec
      → IsChain ground place.owner sheets (place.root + bucket) (pages bucket)
  pub once : (bucket other page : ℕ) → bucket < roots_of place.spec → other < roots_of place.spec
      → Contains (pages bucket) page → Contains (pages other) page → bucket ≡ other
  pub owned : (page : ℕ) → slice_get sheets.owners page ≡ Some place.owner
      → IsOfChain pages (roots_of place.spec) page
  pub placed : (bucket : ℕ) (key body : List ℕ) → bucket < roots_of place.spec
      → IsOn sheets (pages bucket) key body → hash_bucket place.spec key ≡ bucket
  pub map_is : (key body : List ℕ) → (get map key ≡ Some body)
      ↔ IsOnChain sheets pages (roots_of place.spec) key body
