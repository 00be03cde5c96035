use Rattle.gx_hash.proofs.VisitedLemmas.{IsVisitingBuckets}
use Rattle.gx_hash.proofs.visits.visit_buckets.Given as goal

abbrev pub invariant-loop-bucket : goal.invariant-loop-bucket
invariant-loop-bucket g l =
    IsVisitingBuckets g.P.PageView l.place l.fn.pages l.pages l.bucket l.visits.seen.items
