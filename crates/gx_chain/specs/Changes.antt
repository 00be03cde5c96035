-- What changes make of a chain.
use Rattle.std.specs.Prelude.{◌≡◌, ◌≢◌, ◌↔◌, ◌⊎◌, ℕ, ◌<◌, ◌≤◌, List, [], ◌∷◌, length, slice_get, Some, IsTrue}
use Rattle.std.specs.List.{All, Contains, HoldsAt, insert, remove}
use Rattle.gx_bytes.specs.declared.page.TheConstants.{NONE, PAGE_LEN}
use Rattle.gx_ports.specs.declared.page_view.PageView.{Ghosts}
use Rattle.gx_ports.specs.Sheets.{Sheets, Ground, IsClaimed, IsOwnedAnew, bytes_at}
use Rattle.gx_slots.specs.Entries.{Entry}
use Rattle.gx_slots.specs.Page.{IsEntryPage, used_by}
use Rattle.gx_chain.specs.Chain.{entries_at, next_at, IsChain, IsOn}

-- a page was written anew, as an entry page with these entries and this next page
pub record IsRewritten (page next : ℕ) (entries : List Entry) (old new : Sheets) : Type 0 where
  pub owners : new.owners ≡ old.owners
  pub is_page : IsEntryPage (bytes_at new page)
  pub entries_are : entries_at new page ≡ entries
  pub next_is : next_at new page ≡ next
  pub others : (other : ℕ) → other ≢ page → slice_get new.bytes other ≡ slice_get old.bytes other

-- an entry page has an entry with the key
pub record HasKey (sheets : Sheets) (page : ℕ) (key : List ℕ) : Type 0 where
  pub is_page : IsEntryPage (bytes_at sheets page)
  pub body : List ℕ
  pub here : Contains (entries_at sheets page) (record { key = key; body = body })

-- no entry has the key, and one with this body has room behind them
pub record HasRoomFor (entries : List Entry) (key body : List ℕ) : Type 0 where
  pub other : All (λ entry. entry.key ≢ key) entries
  pub room : used_by (insert entries (length entries) (record { key = key; body = body }))
      ≤ PAGE_LEN

-- an entry page has such room
pub record HasRoom (sheets : Sheets) (page : ℕ) (key body : List ℕ) : Type 0 where
  pub is_page : IsEntryPage (bytes_at sheets page)
  pub room : HasRoomFor (entries_at sheets page) key body

-- the entry with the key was taken from a page
pub record IsTaken (page : ℕ) (key : List ℕ) (old new : Sheets) : Type 0 where
  pub place : ℕ
  pub within : place < length (entries_at old page)
  pub there : HoldsAt (λ entry. entry.key ≡ key) (entries_at old page) place
  pub rewritten : IsRewritten page (next_at old page) (remove (entries_at old page) place) old new

-- an entry was added behind those of a page
abbrev pub IsAdded : ℕ → List ℕ → List ℕ → Sheets → Sheets → Type 0
IsAdded page key body old new =
    IsRewritten page (next_at old page) (insert (entries_at old page) (length (entries_at old page))
    (record { key = key; body = body })) old new

-- the body of a key was exchanged on a page
pub record IsReplaced (page : ℕ) (key body : List ℕ) (old new : Sheets) : Type 0 where
  pub place : ℕ
  pub within : place < length (entries_at old page)
  pub there : HoldsAt (λ entry. entry.key ≡ key) (entries_at old page) place
  pub rewritten : IsRewritten page (next_at old page)
      (insert (remove (entries_at old page) place) place (record { key = key; body = body })) old
      new

-- a page with one entry was hung behind the last one
pub record IsAppended (last fresh : ℕ) (key body : List ℕ) (old new : Sheets) : Type 0 where
  pub between : Sheets
  pub begun : IsRewritten fresh NONE (record { key = key; body = body } ∷ []) old between
  pub hung : IsRewritten last fresh (entries_at old last) between new

-- a page was left out, and is free
pub record IsUnlinked (ground : Ground) (previous next page : ℕ) (old new : Sheets) : Type 0 where
  pub between : Sheets
  pub hung : IsRewritten previous next (entries_at old previous) old between
  pub freed : IsOwnedAnew page 0 ground between new

-- Only pages of two lists have changed. Those that came had no owner, and those that left have
-- none.
pub record StaysBeside (ground : Ground) (old new : Sheets) (before now : List ℕ) : Type 0 where
  pub owners : (page : ℕ) → ¬ Contains before page → ¬ Contains now page
      → slice_get new.owners page ≡ slice_get old.owners page
  pub bytes : (page : ℕ) → ground.tables ≤ page → ¬ Contains before page → ¬ Contains now page
      → slice_get new.bytes page ≡ slice_get old.bytes page
  pub came : (page : ℕ) → Contains now page
      → Contains before page ⊎ (slice_get old.owners page ≡ Some 0)
  pub left : (page : ℕ) → Contains before page
      → Contains now page ⊎ (slice_get new.owners page ≡ Some 0)

-- the chain has this body at the key, and else what it had
pub record IsPutIn (ground : Ground) (owner first : ℕ) (key body : List ℕ) (old new : Sheets)
    (before : List ℕ) : Type 0 where
  pub pages : List ℕ
  pub chain : IsChain ground owner new first pages
  pub entries : (k b : List ℕ)
      → IsOn new pages k b ↔ (((k ≡ key) × (b ≡ body)) ⊎ ((k ≢ key) × IsOn old before k b))
  pub beside : StaysBeside ground old new before pages

-- the chain has no entry with the key, and else what it had
pub record IsRemovedFrom (ground : Ground) (owner first : ℕ) (key : List ℕ) (old new : Sheets)
    (before : List ℕ) : Type 0 where
  pub pages : List ℕ
  pub chain : IsChain ground owner new first pages
  pub entries : (k b : List ℕ) → IsOn new pages k b ↔ ((k ≢ key) × IsOn old before k b)
  pub beside : StaysBeside ground old new before pages

-- the pages tell what the device holds, and the key stands there, or there is room for it
abbrev pub HasKeyAt : {S : Type 0} → Ghosts S → S → ℕ → List ℕ → Type 0
HasKeyAt g p page key = IsTrue g.tells × HasKey (g.working p) page key

abbrev pub HasRoomAt : {S : Type 0} → Ghosts S → S → ℕ → List ℕ → List ℕ → Type 0
HasRoomAt g p page key body = IsTrue g.tells × HasRoom (g.working p) page key body

-- a free page was given to the owner, and is an empty entry page
pub record IsMade (ground : Ground) (owner first : ℕ) (old new : Sheets) : Type 0 where
  pub between : Sheets
  pub claimed : IsClaimed first owner ground old between
  pub written : IsRewritten first NONE [] between new
