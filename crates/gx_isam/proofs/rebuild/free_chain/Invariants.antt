use Rattle.gx_isam.proofs.RebuildLemmas.{IsFreeingChain}
use Rattle.gx_isam.proofs.rebuild.free_chain.Given as goal

abbrev pub invariant-loop : goal.invariant-loop
invariant-loop g l = IsFreeingChain g.P.PageView l.place l.bucket l.fn.pages l.pages l.fn.index
    l.index l.counter
