-- What changes make of the index page and of the chains behind it.
use Rattle.std.specs.Prelude.{◌≡◌, ◌≢◌, ◌⊎◌, ℕ, ◌<◌, List, [], slice_get, Option, MatchOption}
use Rattle.gx_bytes.specs.declared.page.TheConstants.{NONE}
use Rattle.gx_ports.specs.declared.pages.Place.{Place}
use Rattle.gx_ports.specs.Sheets.{Sheets, Ground, IsPast, IsClaimed, IsOwnedAnew, bytes_at}
use Rattle.gx_slots.specs.Entries.{Entry}
use Rattle.gx_chain.specs.Chain.{entries_at, next_at}
use Rattle.gx_chain.specs.Changes.{IsRewritten}
use Rattle.gx_isam_index.specs.Index.{IsIndexPage, bucket_count, first_page_of, separators_of}

-- the first page that a number of an index leads to
abbrev pub IsFirst : Ground → ℕ → Option ℕ → Type 0
IsFirst ground number found =
    MatchOption found (number ≡ NONE) (λ page. (number ≡ page) × IsPast ground page × (page ≢ NONE))

-- the root was written as an index that differs from another one in the first page of a bucket
-- alone
pub record IsIndexWritten (root : ℕ) (index : List ℕ) (bucket first : ℕ)
    (old new : Sheets) : Type 0 where
  pub owners : new.owners ≡ old.owners
  pub is_page : IsIndexPage (bytes_at new root)
  pub count : bucket_count (bytes_at new root) ≡ bucket_count index
  pub first_is : first_page_of (bytes_at new root) bucket ≡ first
  pub firsts : (other : ℕ) → other < bucket_count index → other ≢ bucket
      → first_page_of (bytes_at new root) other ≡ first_page_of index other
  pub separators : separators_of (bytes_at new root) ≡ separators_of index
  pub others : (page : ℕ) → page ≢ root → slice_get new.bytes page ≡ slice_get old.bytes page

-- a claimed page with these entries stands before the first page of a bucket
pub record IsHungBefore (ground : Ground) (place : Place) (index : List ℕ) (bucket : ℕ)
    (entries : List Entry) (old new : Sheets) : Type 0 where
  pub fresh : ℕ
  pub claimed : Sheets
  pub filled : Sheets
  pub claim : IsClaimed fresh place.owner ground old claimed
  pub page : IsRewritten fresh (first_page_of index bucket) entries claimed filled
  pub written : IsIndexWritten place.root index bucket fresh filled new

-- the first page of a chain was left out, and is free
pub record IsLeftOut (ground : Ground) (place : Place) (index : List ℕ) (bucket first next : ℕ)
    (old new : Sheets) : Type 0 where
  pub between : Sheets
  pub written : IsIndexWritten place.root index bucket next old between
  pub freed : IsOwnedAnew first 0 ground between new

-- it was left out where it had no entry
abbrev pub IsLeftOutIfEmpty : Ground → Place → List ℕ → ℕ → ℕ → Sheets → Sheets → Type 0
IsLeftOutIfEmpty ground place index bucket first old new =
    ((entries_at old first ≢ []) × (new ≡ old))
    ⊎ ((entries_at old first ≡ [])
    × IsLeftOut ground place index bucket first (next_at old first) old new)
