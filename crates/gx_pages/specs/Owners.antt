-- The owners of pages, which stand in the table that the first pages are.
use Rattle.std.specs.Prelude.{◌≡◌, ◌≢◌, ℕ, ◌*◌, ◌/◌, ◌%◌, ◌<◌, ◌≤◌, List, [], map, length, drop, slice_index_or, slice_get, Option, Some, MatchOption}
use Rattle.std.specs.Int.{w16, from_be_bytes}
use Rattle.std.specs.List.{range_with_len}
use Rattle.gx_ports.specs.Sheets.{Sheets, Ground, IsPast}
use Rattle.gx_ports.specs.declared.pages.TheConstants.{OWNERS}
use Rattle.gx_pages.specs.declared.table.TheConstants.{TABLE_OWNER}

-- the number that a page of the table has for this page
abbrev pub owner_number : List ℕ → ℕ → ℕ
owner_number table page = from_be_bytes w16 (drop (2 * (page % OWNERS)) table)

-- the owner of a page
abbrev pub owner_at : List (List ℕ) → ℕ → ℕ
owner_at pages page = owner_number (slice_index_or pages (page / OWNERS) []) page

-- the owners of all pages
abbrev pub page_owners : List (List ℕ) → List ℕ
page_owners pages = map (owner_at pages) (range_with_len 0 (length pages))

-- pages with these bytes, of which the first ones are the table
abbrev pub sheets_of : List (List ℕ) → Sheets
sheets_of pages = record { owners = page_owners pages; bytes = pages }

-- The page that was found is in the range and has no owner. Where none was found, each page in it
-- has one.
abbrev pub IsFreeBetween : List ℕ → ℕ → ℕ → Option ℕ → Type 0
IsFreeBetween table from end found = MatchOption found
    ((page : ℕ) → from ≤ page → page < end → owner_number table page ≢ 0)
    (λ page. (from ≤ page) × (page < end) × (owner_number table page ≡ 0))

-- The page that was found has no owner. Where none was found, each page past the table has one if
-- its number stands on these pages of the table.
abbrev pub IsFoundFree : ℕ → ℕ → Ground → List (List ℕ) → Option ℕ → Type 0
IsFoundFree from end base pages found = MatchOption found
    ((page : ℕ) → from ≤ page / OWNERS → page / OWNERS < end
    → IsPast base page → owner_at pages page ≢ 0)
    (λ page. owner_at pages page ≡ 0)

-- a page of a table of so many pages, by its number, on which the table's pages have its owner, and
-- no other page has an owner
pub record IsClear (tables table : ℕ) (bytes : List ℕ) : Type 0 where
  pub own : (page : ℕ) → page / OWNERS ≡ table → page < tables
      → owner_number bytes page ≡ TABLE_OWNER
  pub free : (page : ℕ) → page / OWNERS ≡ table → tables ≤ page → owner_number bytes page ≡ 0

-- the table's pages have its owner, and each page past it is free
pub record IsAllFree (base : Ground) (sheets : Sheets) : Type 0 where
  pub own : (page : ℕ) → page < base.tables → page < base.size
      → slice_get sheets.owners page ≡ Some TABLE_OWNER
  pub free : (page : ℕ) → IsPast base page → slice_get sheets.owners page ≡ Some 0
