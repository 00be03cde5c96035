use Rattle.std.proofs.Common.{◌≡◌}
use Rattle.std.specs.Prelude.{replicate}
use Rattle.gx_memory_leaves.specs.Pairs.{empty_pair}
use Rattle.gx_memory_leaves.proofs.plain.empty_leaves.Given as goal

abbrev pub invariant-loop : goal.invariant-loop
invariant-loop l = l.leaves.items ≡ replicate l.counter empty_pair
