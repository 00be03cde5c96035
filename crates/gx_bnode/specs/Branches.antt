-- Branches: a separator and the child right of it, and how they are written.
use Rattle.std.specs.Prelude.{◌≡◌, ℕ, ◌+◌, ◌^◌, ◌<◌, ◌≤◌, List, ◌++◌, length, take, drop}
use Rattle.std.specs.Borrow.{Bor}
use Rattle.std.specs.Cmp.Lexicographic.{slice_cmp}
use Rattle.std.specs.Int.{w16, w32, to_be_bytes, from_be_bytes}
use Rattle.std.specs.List.{AllPairs}
use Rattle.std.specs.Ordering.{nat_cmp}
use Rattle.std.specs.declared.cmp.Ordering.TheVariants.{Less}
use Rattle.gx_bytes.specs.Records.{records, HoldsRecordCount}
use Rattle.gx_bnode.specs.declared.format.TheConstants.{MAX_SEPARATOR_LEN}

-- a separator and the page number of the child right of it
pub record Branch : Type 0 where
  pub separator : List ℕ
  pub child : ℕ

-- a separator has at most MAX_SEPARATOR_LEN bytes
pub record IsFit (branch : Branch) : Type 0 where
  pub separator : length branch.separator ≤ MAX_SEPARATOR_LEN
  pub child : branch.child < 2 ^ 32

-- a branch is written as the length of its separator, the separator, and the child
unfoldable pub branch_bytes : Branch → List ℕ
branch_bytes branch =
    to_be_bytes w16 (length branch.separator) ++ (branch.separator ++ to_be_bytes w32 branch.child)

-- how many bytes a branch takes
abbrev pub branch_len : Branch → ℕ
branch_len branch = 6 + length branch.separator

-- the branch that bytes begin with
unfoldable pub first_branch : List ℕ → Branch
first_branch bytes =
    let len = from_be_bytes w16 bytes in
    record { separator = take len (drop 2 bytes); child = from_be_bytes w32 (drop (2 + len) bytes) }

-- the first n branches of bytes
abbrev pub branches_in : ℕ → List ℕ → List Branch
branches_in = records branch_bytes first_branch

-- the bytes begin with n branches
abbrev pub HoldsCount : ℕ → List ℕ → Type 0
HoldsCount = HoldsRecordCount branch_bytes IsFit

-- each stands before those behind it in the order of bytes
abbrev pub AreAscending : List (List ℕ) → Type 0
AreAscending = AllPairs (λ a b. slice_cmp nat_cmp a b ≡ Less)

-- a branch as it is lent: its separator and its child
abbrev pub lent : Bor (List ℕ) × ℕ → Branch
lent branch = record { separator = branch.0.now; child = branch.1 }
