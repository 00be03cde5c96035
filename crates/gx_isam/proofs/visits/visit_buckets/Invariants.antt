use Rattle.gx_chain.proofs.PlacedChainLemmas.{IsVisiting}
use Rattle.gx_isam_index.specs.Index.{bucket_count, first_page_of}
use Rattle.gx_isam.specs.Visited.{ArePlaced}
use Rattle.gx_isam.proofs.visits.visit_buckets.Given as goal

abbrev pub invariant-loop-bucket : goal.invariant-loop-bucket
invariant-loop-bucket g l =
    IsVisiting g.P.PageView l.place.owner (first_page_of l.index) (ArePlaced l.index) l.fn.pages
    l.pages
    l.bucket
    (bucket_count l.index) l.visits.seen.items
