-- Chains of one owner that are checked, each that of a bucket.
use Rattle.std.specs.Prelude.{◌≡◌, ◌↔◌, ℕ, ◌<◌, true, Bool, List, slice_get, Some, IsTrue}
use Rattle.gx_ports.specs.declared.page_view.PageView.{Ghosts}
use Rattle.gx_ports.specs.Sheets.{Sheets, Ground}
use Rattle.gx_chain.specs.Chain.{IsChain, IsOn}
use Rattle.gx_chain.specs.Chains.{IsOfChain}
use Rattle.gx_chain.specs.Check.{AreSeen, AreUnseen}

-- the keys of these pages are those of a bucket
abbrev pub HaveBucket : (List ℕ → ℕ) → Sheets → ℕ → List ℕ → Type 0
HaveBucket bucket_of sheets bucket pages =
    (key body : List ℕ) → IsOn sheets pages key body → bucket_of key ≡ bucket

-- One chain begins at a number, and its pages are as they are to be. They are marked beside those
-- that were marked before.
pub record IsPlacedChain (ground : Ground) (owner : ℕ) (sheets : Sheets) (first : ℕ)
    (IsPlaced : List ℕ → Type 0) (before after : List Bool) : Type 0 where
  pub pages : List ℕ
  pub chain : IsChain ground owner sheets first pages
  pub only : (other : List ℕ) → IsChain ground owner sheets first other → other ≡ pages
  pub placed : IsPlaced pages
  pub seen : AreSeen before pages after

-- the pages tell what the device holds, and such a chain stands there of which no page is marked
pub record HasPlacedChain {S : Type 0} (g : Ghosts S) (p : S) (owner first : ℕ)
    (IsPlaced : List ℕ → Type 0) (seen : List Bool) : Type 0 where
  pub told : IsTrue g.tells
  pub pages : List ℕ
  pub chain : IsChain (g.ground p) owner (g.working p) first pages
  pub unseen : AreUnseen seen pages
  pub placed : IsPlaced pages

-- the first chains are such chains, and their pages are marked
pub record ArePlacedChains (ground : Ground) (owner : ℕ) (sheets : Sheets) (first_of : ℕ → ℕ)
    (IsPlaced : ℕ → List ℕ → Type 0) (count : ℕ) (marks : List Bool) : Type 0 where
  pub pages : ℕ → List ℕ
  pub chains : (bucket : ℕ) → bucket < count
      → IsChain ground owner sheets (first_of bucket) (pages bucket)
  pub only : (bucket : ℕ) (other : List ℕ) → bucket < count
      → IsChain ground owner sheets (first_of bucket) other → other ≡ pages bucket
  pub placed : (bucket : ℕ) → bucket < count → IsPlaced bucket (pages bucket)
  pub seen : (page : ℕ) → (slice_get marks page ≡ Some true) ↔ IsOfChain pages count page
