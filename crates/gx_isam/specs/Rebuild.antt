-- A file whose entries are laid out anew.
use Rattle.std.specs.Prelude.{◌≡◌, ◌≢◌, ◌↔◌, ℕ, ◌+◌, ◌^◌, ◌<◌, ◌≤◌, List, [], map, slice_get, Some, IsTrue}
use Rattle.std.specs.FinMap.{get, empty, len}
use Rattle.std.specs.List.{Contains}
use Rattle.gx_bytes.specs.declared.page.TheConstants.{NONE}
use Rattle.gx_ports.specs.declared.leaves.Entry.{Entry as LeafEntry}
use Rattle.gx_ports.specs.declared.page_view.PageView.{Ghosts}
use Rattle.gx_ports.specs.declared.pages.Place.{Place}
use Rattle.gx_ports.specs.Files.{OthersStay, page_count}
use Rattle.gx_ports.specs.LeafMaps.{LeafMap}
use Rattle.gx_ports.specs.Sheets.{Sheets, Ground, bytes_at}
use Rattle.gx_slots.specs.Entries.{Entry}
use Rattle.gx_isam_index.specs.Index.{bucket_count, bucket_of, first_page_of, separators_of}
use Rattle.gx_isam.specs.Isam.{IsIsam}

-- an entry is one of those from a place up to another
pub record IsWithin (entries : List LeafEntry) (start end : ℕ) (key body : List ℕ) : Type 0 where
  pub place : ℕ
  pub from : start ≤ place
  pub below : place < end
  pub there : slice_get entries place ≡ Some (record { key = key; body = body })

-- a page has the entries from a place up to another, which have one bucket
pub record IsRun (index : List ℕ) (entries : List LeafEntry) (start end bucket : ℕ)
    (page : List Entry) : Type 0 where
  pub some : start < end
  pub filled : page ≢ []
  pub those : (key body : List ℕ) → Contains page (record { key = key; body = body })
      ↔ IsWithin entries start end key body
  pub placed : (key body : List ℕ) → Contains page (record { key = key; body = body })
      → bucket_of index key ≡ bucket

-- these are the entries of a map
abbrev pub AreEntriesOf : LeafMap → List LeafEntry → Type 0
AreEntriesOf map entries = (key body : List ℕ) → (get map key ≡ Some body)
    ↔ ((place : ℕ) × (slice_get entries place ≡ Some (record { key = key; body = body })))

-- A whole file stands there, whose index this is.
pub record HasIndex (ground : Ground) (place : Place) (sheets : Sheets)
    (index : List ℕ) : Type 0 where
  pub map : LeafMap
  pub file : IsIsam ground place sheets map
  pub index_is : index ≡ bytes_at sheets place.root

-- the pages tell what the device holds, and such a file stands there
abbrev pub HasIndexAt : {S : Type 0} → Ghosts S → S → Place → List ℕ → Type 0
HasIndexAt g p place index = IsTrue g.tells × HasIndex (g.ground p) place (g.working p) index

-- The chain of a bucket has no page any more. The others begin where they did.
pub record IsFreed (ground : Ground) (place : Place) (bucket : ℕ) (before index : List ℕ)
    (old new : Sheets) : Type 0 where
  pub small : ground.size < 2 ^ 32
  pub whole : HasIndex ground place new index
  pub count : bucket_count index ≡ bucket_count before
  pub none : first_page_of index bucket ≡ NONE
  pub firsts : (other : ℕ) → other < bucket_count before → other ≢ bucket
      → first_page_of index other ≡ first_page_of before other
  pub others : OthersStay ground place.owner old new

-- the owner has the root alone
pub record IsEmptied (ground : Ground) (place : Place) (old new : Sheets) : Type 0 where
  pub root : slice_get new.owners place.root ≡ Some place.owner
  pub only : (page : ℕ) → slice_get new.owners page ≡ Some place.owner → page ≡ place.root
  pub others : OthersStay ground place.owner old new

-- an index without pages stands there, and the entries are those of a map
pub record IsBlankFor (ground : Ground) (place : Place) (sheets : Sheets) (index : List ℕ)
    (entries : List LeafEntry) (map : LeafMap) : Type 0 where
  pub file : IsIsam ground place sheets empty
  pub index_is : index ≡ bytes_at sheets place.root
  pub those : AreEntriesOf map entries

-- the map stands there, by the same separators
pub record IsFilled (ground : Ground) (place : Place) (index : List ℕ) (new : Sheets)
    (map : LeafMap) : Type 0 where
  pub file : IsIsam ground place new map
  pub count : bucket_count (bytes_at new place.root) ≡ bucket_count index
  pub separators : separators_of (bytes_at new place.root) ≡ separators_of index

-- a part of the map stands there
pub record IsPartlyFilled (ground : Ground) (place : Place) (old new : Sheets)
    (map : LeafMap) : Type 0 where
  pub others : OthersStay ground place.owner old new
  pub few : page_count place.owner new ≤ 1 + len map
