-- How the table of owners is examined.
use Rattle.std.specs.Prelude.{◌≡◌, ℕ, ◌+◌, ◌<◌, ◌≤◌, List, slice_get, Option, Some, MatchOption, IsTrue}
use Rattle.gx_ports.specs.declared.page_view.PageView as page_view
use Rattle.gx_leaves.specs.Wholeness.{table_owner, IsTable}

-- a page of the table is the table's own, and another one is free or belongs to one of so many
-- leaves
pub record IsDueOwner (tables leaves page owner : ℕ) : Type 0 where
  pub own : page < tables → owner ≡ table_owner
  pub owned : tables ≤ page → owner ≤ leaves

-- Of so many pages from the first one on, whose owners these are, the one that was found has
-- another owner. Where none was found, each one has an owner that it may have.
abbrev pub IsFoundUndue : ℕ → ℕ → List ℕ → ℕ → ℕ → Option ℕ → Type 0
IsFoundUndue tables leaves owners first count found = MatchOption found
    ((i owner : ℕ) → i < count → slice_get owners i ≡ Some owner
    → IsDueOwner tables leaves (first + i) owner)
    (λ page. (i owner : ℕ) × (i < count) × (page ≡ first + i) × (slice_get owners i ≡ Some owner)
    × ¬ IsDueOwner tables leaves page owner)

-- the pages tell what the device holds, and each one has an owner that it may have
abbrev pub HasTable : {S : Type 0} → page_view.Ghosts S → S → ℕ → Type 0
HasTable g p leaves = IsTrue g.tells × IsTable (g.ground p) leaves (g.working p)
