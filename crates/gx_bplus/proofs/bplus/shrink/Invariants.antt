use Rattle.gx_bplus.proofs.FileLemmas.{IsDescent}
use Rattle.gx_bplus.proofs.bplus.shrink.Given as goal

abbrev pub invariant-loop : goal.invariant-loop
invariant-loop g l = IsDescent g.P.PageView l.place l.key l.fn.pages l.pages l.at l.page l.counter
