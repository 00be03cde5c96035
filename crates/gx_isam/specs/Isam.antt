-- What the pages of an indexed sequential file hold.
use Rattle.std.specs.Prelude.{◌≡◌, ◌≢◌, ◌↔◌, ◌⊎◌, ℕ, ◌<◌, List, [], slice_get, Some, IsTrue}
use Rattle.std.specs.FinMap.{get}
use Rattle.std.specs.List.{Contains}
use Rattle.gx_ports.specs.declared.page_view.PageView.{Ghosts}
use Rattle.gx_ports.specs.declared.pages.Place.{Place}
use Rattle.gx_ports.specs.LeafMaps.{LeafMap}
use Rattle.gx_ports.specs.Sheets.{Sheets, Ground, bytes_at}
use Rattle.gx_chain.specs.Chain.{entries_at, IsChain, IsOn}
use Rattle.gx_chain.specs.Chains.{IsOfChain, IsOnChain}
use Rattle.gx_isam_index.specs.Index.{IsIndexPage, bucket_count, bucket_of, first_page_of}

-- The chain of each bucket of an index begins at its first page, and has no page where there is
-- none. Each page has an entry, each entry the bucket of its chain.
pub record AreBuckets (ground : Ground) (owner : ℕ) (sheets : Sheets) (index : List ℕ)
    (pages : ℕ → List ℕ) : Type 0 where
  pub chains : (bucket : ℕ) → bucket < bucket_count index
      → IsChain ground owner sheets (first_page_of index bucket) (pages bucket)
  pub filled : (bucket page : ℕ) → bucket < bucket_count index → Contains (pages bucket) page
      → entries_at sheets page ≢ []
  pub placed : (bucket : ℕ) (key body : List ℕ) → bucket < bucket_count index
      → IsOn sheets (pages bucket) key body → bucket_of index key ≡ bucket

-- The root is an index page. The pages of the owner are the root and those of the chains of its
-- buckets, and the map is the union of the entries.
pub record IsIsam (ground : Ground) (place : Place) (sheets : Sheets) (map : LeafMap) : Type 0 where
  pub index : IsIndexPage (bytes_at sheets place.root)
  pub root : slice_get sheets.owners place.root ≡ Some place.owner
  -- those of each chain
  pub pages : ℕ → List ℕ
  pub buckets : AreBuckets ground place.owner sheets (bytes_at sheets place.root) pages
  pub owned : (page : ℕ) → slice_get sheets.owners page ≡ Some place.owner
      → (page ≡ place.root) ⊎ IsOfChain pages (bucket_count (bytes_at sheets place.root)) page
  pub map_is : (key body : List ℕ) → (get map key ≡ Some body)
      ↔ IsOnChain sheets pages (bucket_count (bytes_at sheets place.root)) key body

-- the pages tell what the device holds, and an index page stands there
abbrev pub IsIndexAt : {S : Type 0} → Ghosts S → S → ℕ → Type 0
IsIndexAt g p page = IsTrue g.tells × IsIndexPage (bytes_at (g.working p) page)
