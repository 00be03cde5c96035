use Rattle.gx_chain.proofs.GatherLemmas.{IsGathering}
use Rattle.gx_chain.proofs.gather.gather_from.Given as goal

abbrev pub invariant-loop : goal.invariant-loop
invariant-loop g l =
    IsGathering g.P.PageView l.first l.span.lo l.span.hi l.fn.pages l.pages l.fn.found.items
    l.found.items l.counter l.number
