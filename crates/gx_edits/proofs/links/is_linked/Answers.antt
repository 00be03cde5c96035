use Rattle.std.proofs.Common.{List, sym, subst}
use Rattle.gx_ports.specs.LeafMaps.{LeafMap}
use Rattle.gx_stack.proofs.PassLemmas.{reads_given_after}
use Rattle.gx_states.specs.Internal.{AreInternal}
use Rattle.gx_edits.proofs.links.is_linked.Goals as goal

pub returns-in_err-is_end_of-clause-reads : goal.returns-in_err-is_end_of-clause-reads
returns-in_err-is_end_of-clause-reads g c =
    let inv = c.loop-link.invariant in
    reads_given_after g.B.View c.from_residual.result c.from_residual.ensures.1
    (record { reads = inv.reads; whole = inv.whole; counted = inv.counted })
    (λ sound. (
      inv.whole sound.0,
      (
        sound.1.0,
        subst (λ (maps : List LeafMap). AreInternal c.args.schema.now c.args.built.now maps
            sound.1.0)
            (sym inv.reads.working) sound.1.1,
      ),
    ))
    c.in_err-is_end_of.ensures.reads
