use Rattle.gx_chain.proofs.WalkLemmas.{IsOnWay}
use Rattle.gx_chain.proofs.walk.find_spot.Given as goal

abbrev pub invariant-loop : goal.invariant-loop
invariant-loop g l = IsOnWay g.P.PageView l.first l.key l.body l.fn.pages l.pages l.counter l.away
