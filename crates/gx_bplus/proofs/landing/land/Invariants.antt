use Rattle.std.proofs.Common.{◌≡◌, length}
use Rattle.gx_bplus.proofs.LandingLemmas.{IsLanding}
use Rattle.gx_bplus.proofs.landing.land.Given as goal

abbrev pub invariant-loop : goal.invariant-loop
invariant-loop g l =
    (length l.page ≡ 4096)
    × IsLanding g.P.PageView l.place l.key l.fn.pages l.pages l.at l.page l.step l.counter
