use Rattle.std.proofs.Common.{◌≡◌, ℕ, ◌+◌, ◌<◌, true}
use Rattle.std.specs.Prelude.{slice_get, Some}
use Rattle.gx_seen.proofs.seen.unseen_page.Given as goal

abbrev pub invariant-loop-i : goal.invariant-loop-i
invariant-loop-i l = (j : ℕ) → j < l.i → slice_get l.owners j ≡ Some l.owner
    → slice_get l.seen (l.first + j) ≡ Some true
