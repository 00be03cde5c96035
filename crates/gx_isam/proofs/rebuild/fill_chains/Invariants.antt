use Rattle.gx_isam.proofs.RebuildLemmas.{IsFilling}
use Rattle.gx_isam.proofs.rebuild.fill_chains.Given as goal

abbrev pub invariant-loop-end : goal.invariant-loop-end
invariant-loop-end g l =
    IsFilling g.P.PageView l.place l.fn.pages l.pages l.fn.index l.index l.entries l.end

abbrev pub decreases-loop-end : goal.decreases-loop-end
decreases-loop-end g l = l.end
