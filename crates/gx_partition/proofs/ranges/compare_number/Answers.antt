use Rattle.std.proofs.Common.{◌∙◌}
use Rattle.std.specs.Ordering.{ordering_then}
use Rattle.gx_partition.proofs.KeyLemmas.{number_cmp}
use Rattle.gx_partition.proofs.ranges.compare_number.Goals as goal

pub returns-in-Some : goal.returns-in-Some
returns-in-Some c =
    c.then.ensures
    ∙ (λ i. ordering_then (c.cmp.ensures i) (c.cmp-in-Some.ensures i))
    ∙ number_cmp c.args.number c.in-Some.first c.args.bytes.now c.in-Some.rest.now
    c.ranges.number.fits c.in-Some.ensures.0 c.in-Some.ensures.1
