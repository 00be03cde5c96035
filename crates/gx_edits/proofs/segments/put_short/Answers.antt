use Rattle.std.proofs.Common.{◌≤◌, ap, sym, subst, arith}
use Rattle.gx_ports.specs.LeafMaps.{entry_count, IsCrowdedBy}
use Rattle.gx_stack.proofs.Maps.{count_removed}
use Rattle.gx_states.proofs.CountLemmas.{crowded_more}
use Rattle.gx_edits.proofs.segments.put_short.Goals.{then-has_record+in_ok-remove, else-has_record}
use Rattle.gx_edits.proofs.segments.put_short.Goals as goal

pub returns-clause-full : goal.returns-clause-full
returns-clause-full g c =
    let b = g.B.View in
    let maps = b.working c.args.leaves.now in
    elim c.if-has_record.branch [
      | then-has_record+in_ok-remove w ↦ λ whole e.
          let gone = w.in_ok-remove.ensures in
          let mid = w.remove.new.self in
          let then = c.put.ensures.full (subst (λ s. b.whole s) (sym w.leaves-is)
          (gone.edits.ends.whole whole)) e in
          let here = subst (λ s. IsCrowdedBy (b.limit s) (entry_count (b.working s))) w.leaves-is
          then in
          let few : entry_count (b.working mid) ≤ entry_count maps = omega (
            arith,
            ap entry_count (gone.ok whole),
            count_removed maps c.args.second
                w.as_slice.result.now c.requires.second,
          ) in
          crowded_more (b.limit c.args.leaves.now) (entry_count (b.working mid)) (entry_count maps)
          few (subst (λ limit. IsCrowdedBy limit (entry_count (b.working mid)))
          gone.edits.keeps.limit
          here)
      | else-has_record w ↦ λ whole e.
          subst (λ s. IsCrowdedBy (b.limit s) (entry_count (b.working s))) w.leaves-is
          (c.put.ensures.full (subst (λ s. b.whole s) (sym w.leaves-is) whole) e)
    ]
