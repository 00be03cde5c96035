use Rattle.gx_chain.proofs.SpanLemmas.{IsGathering}
use Rattle.gx_isam_index.specs.Index.{bucket_count, first_page_of}
use Rattle.gx_isam.proofs.spans.gather_inside.Given as goal

abbrev pub invariant-loop-bucket : goal.invariant-loop-bucket
invariant-loop-bucket g l =
    IsGathering g.P.PageView l.place.owner (first_page_of l.index) (bucket_count l.index) l.span.lo
    l.span.hi l.fn.pages
    l.pages l.found.items l.from l.bucket
