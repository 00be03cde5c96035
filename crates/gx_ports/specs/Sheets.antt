-- Pages and their owners.
use Rattle.std.specs.Prelude.{◌≡◌, ◌≢◌, ℕ, ◌+◌, ◌*◌, ◌<◌, ◌≤◌, List, length, slice_set, slice_get, slice_index_or, Some, []}
use Rattle.gx_ports.specs.declared.pages.TheConstants.{OWNERS}

-- for each page the number of its owner, 0 where it is free, and its bytes
pub record Sheets : Type 0 where
  pub owners : List ℕ
  pub bytes : List (List ℕ)

-- the bytes of a page
abbrev pub bytes_at : Sheets → ℕ → List ℕ
bytes_at sheets page = slice_index_or sheets.bytes page []

-- what no call of pages changes
pub record Ground : Type 0 where
  -- how many pages there are, and how many of them are the table of the owners
  pub size : ℕ
  pub tables : ℕ
  -- how many blocks the device has on which they lie
  pub blocks : ℕ
  -- the home block of the first page; those of the others come right behind it
  pub first : ℕ
  -- the blocks that tell which database it is
  pub head : List (List ℕ)

-- what is stored: the pages as they were last committed, and on which device
pub record Stored : Type 0 where
  pub ground : Ground
  pub sheets : Sheets

-- a block of the device is the home of this page
pub record IsHomeOf (ground : Ground) (page block : ℕ) : Type 0 where
  pub paged : page < ground.size
  pub is : block ≡ ground.first + page
  pub within : block < ground.blocks

-- the block is the home of a page
abbrev pub IsHome : Ground → ℕ → Type 0
IsHome ground block = (page : ℕ) × IsHomeOf ground page block

-- a page past the table
pub record IsPast (ground : Ground) (page : ℕ) : Type 0 where
  pub past : ground.tables ≤ page
  pub below : page < ground.size

-- a page has another owner, and all else is as it was
pub record IsOwnedAnew (page owner : ℕ) (ground : Ground) (old new : Sheets) : Type 0 where
  pub owners : new.owners ≡ slice_set old.owners page owner
  -- the table has changed with them
  pub bytes : (other : ℕ) → ground.tables ≤ other
      → slice_get new.bytes other ≡ slice_get old.bytes other

-- a free page past the table has been given to the owner
pub record IsClaimed (page owner : ℕ) (ground : Ground) (old new : Sheets) : Type 0 where
  pub past : IsPast ground page
  pub was_free : slice_get old.owners page ≡ Some 0
  pub owned : IsOwnedAnew page owner ground old new

-- these are the owners that stand on one page of the table
abbrev pub AreOwnersOn : List ℕ → ℕ → List ℕ → Type 0
AreOwnersOn owners table part = (i : ℕ) → i < OWNERS → OWNERS * table + i < length owners
    → slice_get part i ≡ slice_get owners (OWNERS * table + i)

-- no page past the table is free
abbrev pub HasNone : Ground → Sheets → Type 0
HasNone ground sheets = (page : ℕ) → IsPast ground page → slice_get sheets.owners page ≢ Some 0
