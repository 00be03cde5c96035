-- A scan for branches with ascending separators.
use Rattle.std.specs.Prelude.{ℕ, List}
use Rattle.gx_bytes.specs.Records.{HoldsAscendingRecords}
use Rattle.gx_bnode.specs.Branches.{IsFit, branch_bytes}

-- the bytes begin with n branches whose separators ascend
abbrev pub HoldsAscending : ℕ → List ℕ → Type 0
HoldsAscending = HoldsAscendingRecords branch_bytes IsFit (λ branch. branch.separator)
