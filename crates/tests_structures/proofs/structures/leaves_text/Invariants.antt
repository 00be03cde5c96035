use Rattle.std.proofs.Common.{◌≡◌, length}
use Rattle.tests_structures.proofs.structures.leaves_text.Given as goal

abbrev pub invariant-loop-leaf : goal.invariant-loop-leaf
invariant-loop-leaf g l = length (g.B.View.working l.leaves) ≡ length (g.B.View.working l.fn.leaves)
