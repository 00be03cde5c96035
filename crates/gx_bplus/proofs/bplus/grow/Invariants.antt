use Rattle.gx_bplus.proofs.PuttingLemmas.{IsGrowing}
use Rattle.gx_bplus.proofs.bplus.grow.Given as goal

abbrev pub invariant-loop : goal.invariant-loop
invariant-loop g l = IsGrowing g.P.PageView l.place l.key l.fn.pages l.pages l.at l.page l.counter
