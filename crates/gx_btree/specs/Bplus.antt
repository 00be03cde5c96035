-- What the pages of a B+ tree hold.
use Rattle.std.specs.Prelude.{◌≡◌, ◌↔◌, ℕ, List, slice_get, slice_set, Some}
use Rattle.std.specs.FinMap.{get}
use Rattle.gx_ports.specs.declared.pages.Place.{Place}
use Rattle.gx_ports.specs.LeafMaps.{LeafMap}
use Rattle.gx_ports.specs.Sheets.{Sheets, Ground, IsPast, bytes_at}
use Rattle.gx_bytes.specs.declared.page.TheConstants.{NONE}
use Rattle.gx_slots.specs.Page.{IsAscendingPage, next_of}
use Rattle.gx_bnode.specs.Page.{IsInnerPage}
use Rattle.gx_btree.specs.declared.reading.Shape.{Shape}
use Rattle.gx_btree.specs.declared.reading.Shape.TheVariants as shape
use Rattle.gx_btree.specs.Tree.{In, BplusTree, entries, pages, IsWhole}

-- a page is written
abbrev pub IsWritten : ℕ → List ℕ → Sheets → Sheets → Type 0
IsWritten page bytes old new = new ≡ record old { bytes = slice_set old.bytes page bytes }

-- the page belongs to the owner
abbrev pub IsOwned : ℕ → Sheets → ℕ → Type 0
IsOwned owner sheets page = slice_get sheets.owners page ≡ Some owner

-- all pages of the owner lie past the table
abbrev pub ArePast : Ground → ℕ → Sheets → Type 0
ArePast ground owner sheets = (page : ℕ) → IsOwned owner sheets page → IsPast ground page

-- The pages of the owner are those of one tree, whose top is the root, and the map is that of the
-- entries on them.
pub record IsBplus (ground : Ground) (place : Place) (sheets : Sheets) (map : LeafMap) : Type 0
  where
    pub tree : BplusTree
    pub whole : IsWhole (bytes_at sheets) place.root tree
    pub past : (page : ℕ) → In page (pages tree) → IsPast ground page
    pub owned : (page : ℕ) → IsOwned place.owner sheets page ↔ In page (pages tree)
    pub map_is : (key body : List ℕ)
        → (get map key ≡ Some body) ↔ In (record { key = key; body = body }) (entries tree)

-- the bytes are a page of a tree: an entry page with ascending keys and no next page, or an inner
-- page
abbrev pub Shows : Shape → List ℕ → Type 0
Shows shape.Entries bytes = IsAscendingPage bytes × (next_of bytes ≡ NONE)
Shows shape.Inner bytes = IsInnerPage bytes

-- the bytes are a page of a tree of no other shape
abbrev pub Seems : Shape → List ℕ → Type 0
Seems shape bytes = (other : Shape) → Shows other bytes → other ≡ shape

-- a page past the table is a page of a tree
pub record IsTreePage (ground : Ground) (sheets : Sheets) (page : ℕ) : Type 0 where
  pub past : IsPast ground page
  pub shape : Shape
  pub shows : Shows shape (bytes_at sheets page)
