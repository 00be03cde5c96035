use Rattle.std.proofs.Common.{◌<◌, List, length, sym, subst}
use Rattle.gx_ports.specs.LeafMaps.{LeafMap}
use Rattle.gx_stack.proofs.PassLemmas.{read_passes, reads_given, reads_given_after}
use Rattle.gx_pairs.proofs.LinkedLemmas.{members_there, link_there, have_still}
use Rattle.gx_pairs.proofs.SearchLemmas.{linked_stopped}
use Rattle.gx_pairs.proofs.changes.owner_to_leave.Goals as goal

pub returns-in_err-has_record-clause-read : goal.returns-in_err-has_record-clause-read
returns-in_err-has_record-clause-read g c =
    let rule = g.L.Linkset.rule in
    let held = g.L.Linkset.held in
    let s = c.args.stored.now in
    linked_stopped g.B.View rule held s _ _ _ _ c.from_residual.result c.from_residual.ensures.1
    (reads_given g.B.View c.from_residual.result c.from_residual.ensures.1
    (λ h. (h.0, members_there rule held s _ h.1)) c.in_err-has_record.ensures.reads)

pub owner-requires-clause-below : goal.owner-requires-clause-below
owner-requires-clause-below g c = λ n h.
    subst (λ (maps : List LeafMap). n < length maps) (sym c.has_record.ensures.reads.reads.working)
    (c.requires.stored.linkset.below n h)

pub returns-in_err-owner-clause-read : goal.returns-in_err-owner-clause-read
returns-in_err-owner-clause-read g c =
    let b = g.B.View in
    let rule = g.L.Linkset.rule in
    let held = g.L.Linkset.held in
    let s = c.args.stored.now in
    let old = b.working c.args.leaves.now in
    let new = b.working c.has_record.new.leaves in
    let first = c.in_ok-has_record.ensures.reads in
    let given = c.from_residual-in_err-owner.ensures.1 in
    linked_stopped b rule held s _ _ _ _ c.from_residual-in_err-owner.result given
    (reads_given_after b c.from_residual-in_err-owner.result given (read_passes b first)
    (λ h. (
      first.ends.whole h.0,
      link_there rule held s new (have_still rule held s old new first.reads.working h.1),
    ))
    c.in_err-owner.ensures.reads)
