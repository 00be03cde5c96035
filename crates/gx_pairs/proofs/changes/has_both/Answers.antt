use Rattle.std.proofs.Common.{◌≡◌, ◌∙◌, List, Bool, true, sym, ap, subst}
use Rattle.std.specs.Prelude.{◌&&◌, is_some}
use Rattle.std.specs.FinMap as fin
use Rattle.gx_ports.specs.LeafMaps.{LeafMap}
use Rattle.gx_scan.specs.Files.{IsInternal}
use Rattle.gx_scan.proofs.CallLemmas.{ok_one, reads_passed}
use Rattle.gx_stack.proofs.PassLemmas.{read_passes, reads_after, reads_given}
use Rattle.gx_pairs.specs.Stored.{file_of, node_tree}
use Rattle.gx_pairs.proofs.LinkedLemmas.{owners_there, members_there, have_still}
use Rattle.gx_pairs.proofs.SearchLemmas.{linked_stopped}
use Rattle.gx_pairs.proofs.changes.has_both.Goals as goal

pub returns-in_err-has_record : goal.returns-in_err-has_record
returns-in_err-has_record g c =
    let rule = g.L.Linkset.rule in
    let held = g.L.Linkset.held in
    let s = c.args.stored.now in
    linked_stopped g.B.View rule held s _ _ _ _ c.from_residual.result c.from_residual.ensures.1
    (reads_given g.B.View c.from_residual.result c.from_residual.ensures.1
    (λ h. (h.0, owners_there rule held s _ h.1)) c.in_err-has_record.ensures.reads)

pub returns-then-not-branch : goal.returns-then-not-branch
returns-then-not-branch g c = record {
  found = λ owners members link whole are.
      let none = sym c.if-not-branch.true
      ∙ c.in_ok-has_record.ensures.found owners whole are.owners in
      ap (λ (there : Bool). there && is_some (fin.get members c.args.member.now)) none;
  reads = reads_passed g.B.View _ (read_passes g.B.View c.in_ok-has_record.ensures.reads);
}

pub returns : goal.returns
returns g c =
    let b = g.B.View in
    let rule = g.L.Linkset.rule in
    let held = g.L.Linkset.held in
    let s = c.args.stored.now in
    let old = b.working c.args.leaves.now in
    let new = b.working c.has_record.new.leaves in
    let first = c.in_ok-has_record.ensures.reads in
    record {
      found = λ owners members link whole are.
          let has = is_some (fin.get members c.args.member.now) in
          let there : is_some (fin.get owners c.args.owner.now) ≡ true =
          sym (c.in_ok-has_record.ensures.found owners whole are.owners) ∙ c.if-not-branch.false in
          let at = subst (λ (maps : List LeafMap). IsInternal (file_of s.members)
          (node_tree s.members) maps members) (sym first.reads.working) are.members in
          ok_one c.has_record-2.result _ _
          (c.has_record-2.ensures.found members (first.ends.whole whole) at)
          (λ both is. is ∙ sym (ap (λ (owner : Bool). owner && has) there));
      reads = reads_after b c.has_record-2.result (read_passes b first)
          (λ h. (
            first.ends.whole h.0,
            members_there rule held s new (have_still rule held s old new first.reads.working h.1),
          ))
          c.has_record-2.ensures.reads;
    }
