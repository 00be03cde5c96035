-- Several chains of one owner, each at a number, which is that of a bucket.
use Rattle.std.specs.Prelude.{◌≡◌, ◌↔◌, ℕ, zero, suc, ◌<◌, true, List, [], ◌++◌, Some}
use Rattle.std.specs.FinMap.{get}
use Rattle.std.specs.List.{Contains}
use Rattle.gx_values.specs.Keys.{is_inside}
use Rattle.gx_ports.specs.declared.leaves.Entry.{Entry as LeafEntry}
use Rattle.gx_ports.specs.LeafMaps.{LeafMap}
use Rattle.gx_ports.specs.Sheets.{Sheets}
use Rattle.gx_chain.specs.Chain.{IsOn}
use Rattle.gx_chain.specs.Collect.{inside_on, ArePagesApart}

-- a page is one of the first chains
pub record IsOfChain (pages : ℕ → List ℕ) (count page : ℕ) : Type 0 where
  pub bucket : ℕ
  pub below : bucket < count
  pub among : Contains (pages bucket) page

-- an entry stands on one of the first chains
pub record IsOnChain (sheets : Sheets) (pages : ℕ → List ℕ) (count : ℕ) (key body : List ℕ) : Type 0
  where
    pub bucket : ℕ
    pub below : bucket < count
    pub on : IsOn sheets (pages bucket) key body

-- the pages of so many chains, one chain after the other
abbrev pub pages_below : (ℕ → List ℕ) → ℕ → List ℕ
pages_below pages zero = []
pages_below pages (suc count) = pages_below pages count ++ pages count

-- These are the entries inside the span on pages on which all entries of the map inside it stand.
pub record AreGathered (sheets : Sheets) (lo hi : List ℕ) (map : LeafMap) (found : List LeafEntry) :
    Type 0 where
  pub pages : List ℕ
  pub apart : ArePagesApart sheets pages
  pub found_is : found ≡ inside_on sheets lo hi pages
  pub map_is : (key body : List ℕ) → is_inside lo hi key ≡ true
      → (get map key ≡ Some body) ↔ IsOn sheets pages key body
