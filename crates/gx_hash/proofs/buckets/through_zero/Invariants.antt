use Rattle.std.proofs.Common.{◌≡◌, ℕ, ◌<◌, get_or}
use Rattle.gx_hash.proofs.buckets.through_zero.Given as goal

abbrev pub invariant-loop-last : goal.invariant-loop-last
invariant-loop-last l = (k : ℕ) → k < l.last → get_or l.key k 0 ≡ 0 → ⊥
