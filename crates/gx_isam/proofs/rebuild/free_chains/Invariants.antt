use Rattle.gx_isam.proofs.RebuildLemmas.{IsFreeing}
use Rattle.gx_isam.proofs.rebuild.free_chains.Given as goal

abbrev pub invariant-loop-bucket : goal.invariant-loop-bucket
invariant-loop-bucket g l =
    IsFreeing g.P.PageView l.place l.fn.pages l.pages l.index l.count l.bucket
