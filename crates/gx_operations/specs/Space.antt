-- How many pages the leaves of a device take.
use Rattle.std.specs.Prelude.{ℕ, ◌+◌, ◌*◌, ◌≤◌, List}
use Rattle.gx_layout.specs.Recovered.{replayed_pages}
use Rattle.gx_pages.specs.Owners.{sheets_of}
use Rattle.gx_leaves.specs.Space.{taken_pages}
use Rattle.gx_operations.specs.Given.{Given, limit_of}

-- the pages that aren't free, of those that recovery finds
abbrev pub taken_on : List (List ℕ) → ℕ
taken_on blocks = taken_pages (sheets_of (replayed_pages blocks))

-- they are at most those of the table and the roots, and two for each of so many entries
abbrev pub HasFewPages : Given → ℕ → List (List ℕ) → Type 0
HasFewPages g entries blocks = taken_on blocks ≤ (limit_of g blocks).fixed + 2 * entries
