use Rattle.gx_chain.proofs.VisitLemmas.{IsVisiting}
use Rattle.gx_chain.proofs.check.visit_chain.Given as goal

abbrev pub invariant-loop : goal.invariant-loop
invariant-loop g l =
    IsVisiting g.P.PageView l.owner l.first l.fn.visits.seen.items l.fn.pages l.pages l.counter
    l.number l.visits
