-- Chains of entry pages.
use Rattle.std.specs.Prelude.{◌≡◌, ◌≢◌, ◌⊎◌, ℕ, List, [], ◌∷◌, slice_get, Option, Some, MatchOption, IsTrue}
use Rattle.std.specs.List.{AllPairs, Contains}
use Rattle.gx_ports.specs.declared.page_view.PageView.{Ghosts}
use Rattle.gx_ports.specs.Sheets.{Sheets, Ground, IsPast, bytes_at}
use Rattle.gx_bytes.specs.declared.page.TheConstants.{NONE}
use Rattle.gx_slots.specs.Entries.{Entry}
use Rattle.gx_slots.specs.Page.{IsEntryPage, entries_of, next_of}

-- the entries of an entry page
abbrev pub entries_at : Sheets → ℕ → List Entry
entries_at sheets page = entries_of (bytes_at sheets page)

-- the page behind it
abbrev pub next_at : Sheets → ℕ → ℕ
next_at sheets page = next_of (bytes_at sheets page)

-- these are entry pages, of which each has the number of the one behind it, and the last has none
abbrev pub AreLinked : Sheets → ℕ → List ℕ → Type 0
AreLinked sheets first [] = first ≡ NONE
AreLinked sheets first (page ∷ pages) =
    (first ≡ page) × IsEntryPage (bytes_at sheets page)
    × AreLinked sheets (next_at sheets page) pages

-- an entry stands on one of the pages
pub record IsOn (sheets : Sheets) (pages : List ℕ) (key body : List ℕ) : Type 0 where
  pub page : ℕ
  pub among : Contains pages page
  pub here : Contains (entries_at sheets page) (record { key = key; body = body })

-- These pages are fit for a chain that begins at the first one: each stands once and belongs to the
-- owner, no key stands twice, and each page but the first has an entry.
pub record AreFitPages (ground : Ground) (owner : ℕ) (sheets : Sheets) (first : ℕ)
    (pages : List ℕ) : Type 0 where
  pub once : AllPairs (λ a b. a ≢ b) pages
  pub past : (page : ℕ) → Contains pages page → IsPast ground page
  pub owned : (page : ℕ) → Contains pages page → slice_get sheets.owners page ≡ Some owner
  pub filled : (page : ℕ) → Contains pages page → page ≢ first → entries_at sheets page ≢ []
  pub apart : (page other : ℕ) (key body again : List ℕ) → Contains pages page
      → Contains pages other
      → Contains (entries_at sheets page) (record { key = key; body = body })
      → Contains (entries_at sheets other) (record { key = key; body = again })
      → page ≡ other

-- These are the pages of a chain that begins at the first one.
pub record IsChain (ground : Ground) (owner : ℕ) (sheets : Sheets) (first : ℕ) (pages : List ℕ) :
    Type 0 where
  pub linked : AreLinked sheets first pages
  pub fit : AreFitPages ground owner sheets first pages

-- the pages tell what the device holds, and an entry page stands there
abbrev pub IsEntryAt : {S : Type 0} → Ghosts S → S → ℕ → Type 0
IsEntryAt g p page = IsTrue g.tells × IsEntryPage (bytes_at (g.working p) page)

-- the number leads to a page past the table, or to none
abbrev pub LeadsOn : Ground → ℕ → Type 0
LeadsOn ground next = (next ≡ NONE) ⊎ IsPast ground next

-- the page that a number leads to
abbrev pub IsBehind : Ground → ℕ → Option ℕ → Type 0
IsBehind ground next found =
    MatchOption found (next ≡ NONE) (λ page. (next ≡ page) × IsPast ground page)

-- the pages tell what the device holds, and a chain begins there
abbrev pub HasChain : {S : Type 0} → Ghosts S → S → ℕ → Type 0
HasChain g p first =
    IsTrue g.tells × (owner : ℕ) × (pages : List ℕ)
    × IsChain (g.ground p) owner (g.working p) first pages

-- the same of a chain of this owner
pub record HasChainOf {S : Type 0} (g : Ghosts S) (p : S) (owner first : ℕ) : Type 0 where
  pub told : IsTrue g.tells
  pub pages : List ℕ
  pub chain : IsChain (g.ground p) owner (g.working p) first pages
