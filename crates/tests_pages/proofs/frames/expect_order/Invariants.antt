use Rattle.std.proofs.Common.{◌≡◌}
use Rattle.tests_pages.proofs.frames.expect_order.Given as goal

abbrev pub invariant-loop-more : goal.invariant-loop-more
invariant-loop-more g l = l.frames.pages ≡ 4000

abbrev pub invariant-loop-place : goal.invariant-loop-place
invariant-loop-place g l = l.frames.pages ≡ 4000
