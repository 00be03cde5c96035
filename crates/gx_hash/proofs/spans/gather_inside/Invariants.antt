use Rattle.std.proofs.Common.{◌+◌}
use Rattle.gx_ports.specs.Roots.{roots_of}
use Rattle.gx_chain.proofs.SpanLemmas.{IsGathering}
use Rattle.gx_hash.proofs.spans.gather_inside.Given as goal

abbrev pub invariant-loop-bucket : goal.invariant-loop-bucket
invariant-loop-bucket g l =
    IsGathering g.P.PageView l.place.owner (λ n. l.place.root + n) (roots_of l.place.spec) l.span.lo
    l.span.hi
    l.fn.pages l.pages l.found.items l.from l.bucket
