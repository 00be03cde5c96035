use Rattle.std.proofs.Common.{◌≡◌}
use Rattle.tests_pages.proofs.frames.take_all.Given as goal

abbrev pub invariant-loop-step : goal.invariant-loop-step
invariant-loop-step l = l.frames.pages ≡ 4000
