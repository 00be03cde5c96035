use Rattle.std.proofs.Common.{◌≡◌, ◌<◌, ℕ, get_or}
use Rattle.gx_layout.proofs.texts.first_difference.Given as goal

abbrev pub invariant-loop-k : goal.invariant-loop-k
invariant-loop-k l = record {
  same : (j : ℕ) → j < l.k → get_or l.xs j 0 ≡ get_or l.ys j 0;
}
