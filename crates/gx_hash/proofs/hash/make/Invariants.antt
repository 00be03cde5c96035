use Rattle.gx_hash.proofs.MakeLemmas.{IsMaking}
use Rattle.gx_hash.proofs.hash.make.Given as goal

abbrev pub invariant-loop-bucket : goal.invariant-loop-bucket
invariant-loop-bucket g l = IsMaking g.P.PageView l.place l.fn.pages l.pages l.bucket
