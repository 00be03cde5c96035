use Rattle.std.proofs.Common.{◌≤◌, ◌+◌, ap, subst, arith}
use Rattle.gx_ports.specs.LeafMaps.{entry_count, IsCrowdedBy}
use Rattle.gx_stack.proofs.Maps.{count_put}
use Rattle.gx_states.proofs.CountLemmas.{crowded_more}
use Rattle.gx_edits.proofs.segments.put_each.Goals as goal

pub returns-clause-full : goal.returns-clause-full
returns-clause-full g c = λ whole e.
    let b = g.B.View in
    let maps = b.working c.args.leaves.now in
    let first = c.in_ok-put.ensures in
    let then = c.put-2.ensures.full (first.edits.ends.whole whole) e in
    let few : entry_count (b.working c.put.new.self) ≤ entry_count maps + 1 = omega (
      arith,
      ap entry_count (first.ok whole),
      count_put maps c.args.first c.as_slice.result.now
          c.as_slice-2.result.now c.requires.first,
    ) in
    crowded_more (b.limit c.args.leaves.now) (entry_count (b.working c.put.new.self))
    (entry_count maps + 1) few
    (subst (λ limit. IsCrowdedBy limit (entry_count (b.working c.put.new.self)))
    first.edits.keeps.limit
    then)
