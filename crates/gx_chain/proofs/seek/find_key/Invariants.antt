use Rattle.gx_chain.proofs.WalkLemmas.{IsSeeking}
use Rattle.gx_chain.proofs.seek.find_key.Given as goal

abbrev pub invariant-loop : goal.invariant-loop
invariant-loop g l =
    IsSeeking g.P.PageView l.first l.key l.fn.pages l.pages l.counter l.number l.previous
