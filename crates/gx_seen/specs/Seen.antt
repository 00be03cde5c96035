-- Pages of an owner, of which some are marked.
use Rattle.std.specs.Prelude.{◌≡◌, ◌≢◌, ℕ, ◌+◌, ◌<◌, Bool, true, List, slice_get, Option, Some, MatchOption, IsTrue}
use Rattle.gx_ports.specs.declared.page_view.PageView.{Ghosts}
use Rattle.gx_ports.specs.Sheets.{Sheets}

-- the owner has the page, which isn't marked
abbrev pub IsUnseen : Sheets → ℕ → List Bool → ℕ → Type 0
IsUnseen sheets owner seen page =
    (slice_get sheets.owners page ≡ Some owner) × (slice_get seen page ≢ Some true)

-- each page of the owner is marked
abbrev pub AreAllSeen : Sheets → ℕ → List Bool → Type 0
AreAllSeen sheets owner seen = (page : ℕ) → slice_get sheets.owners page ≡ Some owner
    → slice_get seen page ≡ Some true

-- the pages tell what the device holds, and each page of the owner is marked
abbrev pub HasAllSeen : {S : Type 0} → Ghosts S → S → ℕ → List Bool → Type 0
HasAllSeen g p owner seen = IsTrue g.tells × AreAllSeen (g.working p) owner seen

-- Of so many pages from the first one on, whose owners these are, the one that was found is the
-- owner's, and isn't marked. Where none was found, each of the owner is marked.
abbrev pub IsFoundUnseen : ℕ → List Bool → List ℕ → ℕ → ℕ → Option ℕ → Type 0
IsFoundUnseen owner seen owners first count found = MatchOption found
    ((i : ℕ) → i < count → slice_get owners i ≡ Some owner → slice_get seen (first + i) ≡ Some true)
    (λ page. (i : ℕ) × (i < count) × (page ≡ first + i) × (slice_get owners i ≡ Some owner)
    × (slice_get seen page ≢ Some true))
