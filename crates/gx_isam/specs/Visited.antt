-- What is found of an indexed sequential file that is checked.
use Rattle.std.specs.Prelude.{◌≡◌, ◌≢◌, ◌⊎◌, ℕ, true, Bool, List, [], slice_get, Some, IsTrue}
use Rattle.std.specs.List.{Contains}
use Rattle.gx_ports.specs.declared.page_view.PageView.{Ghosts}
use Rattle.gx_ports.specs.Sheets.{Sheets, Ground, bytes_at}
use Rattle.gx_slots.specs.Page.{IsEntryPage}
use Rattle.gx_chain.specs.Chain.{entries_at}
use Rattle.gx_chain.specs.Placed.{HaveBucket, IsPlacedChain, HasPlacedChain, ArePlacedChains}
use Rattle.gx_isam_index.specs.Index.{bucket_of, first_page_of}

-- the keys of these pages are those of a bucket of the index, and each of the pages has one
pub record ArePlaced (index : List ℕ) (sheets : Sheets) (bucket : ℕ) (pages : List ℕ) : Type 0 where
  pub placed : HaveBucket (bucket_of index) sheets bucket pages
  pub filled : (page : ℕ) → Contains pages page → entries_at sheets page ≢ []

-- One chain with the keys of the bucket stands there, and its pages are marked beside those that
-- were marked before.
abbrev pub IsVisitedBucket : Ground → ℕ → Sheets → List ℕ → ℕ → List Bool → List Bool → Type 0
IsVisitedBucket the_ground owner sheets index bucket =
    IsPlacedChain the_ground owner sheets (first_page_of index bucket)
    (ArePlaced index sheets bucket)

-- the pages tell what the device holds, and such a chain stands there of which no page is marked
abbrev pub HasUnseenBucket : {S : Type 0} → Ghosts S → S → ℕ → List ℕ → ℕ → List Bool → Type 0
HasUnseenBucket g p owner index bucket =
    HasPlacedChain g p owner (first_page_of index bucket) (ArePlaced index (g.working p) bucket)

-- the chains of the first buckets were visited, and their pages are marked
abbrev pub AreVisitedBuckets : Ground → ℕ → Sheets → List ℕ → ℕ → List Bool → Type 0
AreVisitedBuckets the_ground owner sheets index =
    ArePlacedChains the_ground owner sheets (first_page_of index) (ArePlaced index sheets)

-- the owner has the root, and each other page that it has is marked
pub record IsRootAndSeen (sheets : Sheets) (owner root : ℕ) (seen : List Bool) : Type 0 where
  pub root_owned : slice_get sheets.owners root ≡ Some owner
  pub others : (page : ℕ) → slice_get sheets.owners page ≡ Some owner
      → (page ≡ root) ⊎ (slice_get seen page ≡ Some true)

abbrev pub HasRootAndSeen : {S : Type 0} → Ghosts S → S → ℕ → ℕ → List Bool → Type 0
HasRootAndSeen g p owner root seen = IsTrue g.tells × IsRootAndSeen (g.working p) owner root seen

-- the pages tell what the device holds, and an entry page with an entry stands there
abbrev pub HasEntryAt : {S : Type 0} → Ghosts S → S → ℕ → Type 0
HasEntryAt g p page =
    IsTrue g.tells × IsEntryPage (bytes_at (g.working p) page)
    × (entries_at (g.working p) page ≢ [])
