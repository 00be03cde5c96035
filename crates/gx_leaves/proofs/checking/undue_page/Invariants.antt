use Rattle.std.proofs.Common.{◌≡◌, ℕ, ◌+◌, ◌<◌}
use Rattle.std.specs.Prelude.{slice_get, Some}
use Rattle.gx_leaves.specs.Checks.{IsDueOwner}
use Rattle.gx_leaves.proofs.checking.undue_page.Given as goal

abbrev pub invariant-loop-i : goal.invariant-loop-i
invariant-loop-i l = (j owner : ℕ) → j < l.i → slice_get l.owners j ≡ Some owner
    → IsDueOwner l.tables l.leaves (l.first + j) owner
