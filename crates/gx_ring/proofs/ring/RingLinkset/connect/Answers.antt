use Rattle.std.proofs.Common.{◌<◌, List, length, sym, subst}
use Rattle.gx_ports.specs.LeafMaps.{LeafMap}
use Rattle.gx_ring.proofs.ring.RingLinkset.connect.Goals as goal

pub put_among-requires-clause-below : goal.put_among-requires-clause-below
put_among-requires-clause-below g c =
    λ n h. subst (λ (maps : List LeafMap). n < length maps)
    (sym c.in_ok-members.ensures.reads.reads.working) (c.requires.below n h)
