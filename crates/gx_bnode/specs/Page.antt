-- Inner pages: what the bytes of a page say, and which bytes are one.
use Rattle.std.specs.Prelude.{ℕ, ◌+◌, ◌<◌, ◌≤◌, List, ◌∷◌, length, map}
use Rattle.std.specs.List.{sum_by}
use Rattle.gx_bytes.specs.declared.page.TheConstants.{PAGE_LEN}
use Rattle.gx_bytes.specs.Page.{IsRecordPage, records_of, number_of}
use Rattle.gx_bnode.specs.declared.format.TheConstants.{MAX_SEPARATOR_LEN}
use Rattle.gx_bnode.specs.Branches.{Branch, IsFit, AreAscending, branch_bytes, first_branch}

-- the separators of some branches
abbrev pub separators_in : List Branch → List (List ℕ)
separators_in = map (λ branch. branch.separator)

-- the bytes are an inner page with this first child and these branches, one at least, in their
-- order
pub record IsPageOf (first : ℕ) (branches : List Branch) (bytes : List ℕ) : Type 0 where
  pub page : IsRecordPage branch_bytes IsFit 0x49 branches first bytes
  pub some : 0 < length branches
  pub ascending : AreAscending (separators_in branches)

-- the bytes are an inner page
pub record IsInnerPage (bytes : List ℕ) : Type 0 where
  pub first : ℕ
  pub branches : List Branch
  pub is : IsPageOf first branches bytes

-- the first child of an inner page, and its branches
unfoldable pub first_of : List ℕ → ℕ
first_of = number_of

unfoldable pub branches_of : List ℕ → List Branch
branches_of = records_of branch_bytes first_branch

-- the separators of an inner page
abbrev pub separators_of : List ℕ → List (List ℕ)
separators_of bytes = separators_in (branches_of bytes)

-- the children of an inner page, of which there is one more
abbrev pub children_of : List ℕ → List ℕ
children_of bytes = first_of bytes ∷ map (λ branch. branch.child) (branches_of bytes)

-- how many bytes of a page are taken up to the end of these separators and their children
abbrev pub used_by : List (List ℕ) → ℕ
used_by separators = 8 + sum_by (λ separator. 6 + length separator) separators

-- a separator of MAX_SEPARATOR_LEN bytes and its child fit beside these
abbrev pub HasRoom : List (List ℕ) → Type 0
HasRoom separators = used_by separators + (6 + MAX_SEPARATOR_LEN) ≤ PAGE_LEN
