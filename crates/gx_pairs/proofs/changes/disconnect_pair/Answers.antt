use Rattle.std.proofs.Common.{◌<◌, ◌∙◌, List, length, sym, ap, subst}
use Rattle.gx_ports.specs.declared.stop.Stop.TheVariants as stop
use Rattle.gx_ports.specs.LeafMaps.{LeafMap, map_at}
use Rattle.gx_ports.proofs.CallLemmas.{keeps_joined, reads_keep}
use Rattle.gx_links.specs.Linksets.{CanDisconnect}
use Rattle.gx_stack.proofs.PassLemmas.{same_stop, read_passes, ends_after, ends_given_after, reads_given}
use Rattle.gx_scan.proofs.CallLemmas.{ends_now}
use Rattle.gx_links.proofs.JoinLemmas.{crowded_still}
use Rattle.gx_pairs.proofs.LinkedLemmas.{link_there, have_still}
use Rattle.gx_pairs.proofs.SearchLemmas.{if_stopped}
use Rattle.gx_pairs.proofs.ChangeLemmas.{change_stopped, change_refused}
use Rattle.gx_pairs.proofs.changes.disconnect_pair.Goals as goal

pub returns-in_err-owner : goal.returns-in_err-owner
returns-in_err-owner g c =
    change_stopped g.B.View g.L.Linkset.rule g.L.Linkset.held c.args.stored.now _ _ _ _ _ _
    c.from_residual.result c.from_residual.ensures.1
    (reads_given g.B.View c.from_residual.result c.from_residual.ensures.1 (λ h. h)
    c.in_err-owner.ensures.read.reads)

pub returns-in-Err : goal.returns-in-Err
returns-in-Err g c =
    change_refused g.B.View g.L.Linkset.rule g.L.Linkset.held c.args.stored.now _ _ _ _ _ _
    (read_passes g.B.View c.in_ok-owner.ensures.read.reads)
    (λ owners members link whole are.
    let found = rw c.in-Err.is at
    (c.in_ok-owner.ensures.read.found owners members link whole are) in
    found.0)

pub disconnect_from-requires-clause-below : goal.disconnect_from-requires-clause-below
disconnect_from-requires-clause-below g c = λ n h.
    subst (λ (maps : List LeafMap). n < length maps)
    (sym c.owner_to_leave.ensures.read.reads.reads.working) (c.requires.stored.linkset.below n h)

pub returns-in_err-disconnect_from : goal.returns-in_err-disconnect_from
returns-in_err-disconnect_from g c =
    let b = g.B.View in
    let rule = g.L.Linkset.rule in
    let held = g.L.Linkset.held in
    let s = c.args.stored.now in
    let m = c.args.member.now in
    let owner = c.in_ok-owner.ensures.read in
    let passed = read_passes b owner.reads in
    let result = c.from_residual-in_err-disconnect_from.result in
    let given = c.from_residual-in_err-disconnect_from.ensures.1 in
    record {
      refused = λ owners members link whole are. if_stopped _ result _ given;
      changed = λ owners members link whole are. if_stopped _ result _ given;
      keeps = keeps_joined b (reads_keep b passed.reads) c.in_err-disconnect_from.ensures.keeps;
      ends = ends_given_after b result given passed
          (λ h. (
            passed.whole h.0,
            link_there rule held s _ (have_still rule held s _ _ passed.reads.working h.1),
          ))
          c.in_err-disconnect_from.ensures.ends;
      block = λ n is whole.
          c.in_err-disconnect_from.ensures.block n (same_stop result (stop.Damaged n) given is)
          (passed.whole whole);
      full = λ owners members link whole are full.
          let found = rw c.in-Ok.is at (owner.found owners members link whole are) in
          let new = b.working c.owner_to_leave.new.leaves in
          let can : CanDisconnect (rule s.linkset) (held s.linkset) new link c.in-Ok.owner m =
          record {
            is_link = are.is_link;
            is_held = subst (held s.linkset link) (sym passed.reads.working) are.link;
            owned = found.1;
          } in
          let crowded = c.in_err-disconnect_from.ensures.full link (passed.whole whole) can
          (same_stop result stop.Full given full) in (
            sym found.0,
            c.in-Ok.owner,
            found.1,
            crowded_still (b.limit c.args.leaves.now) _ _ _ _ passed.reads.limit
                passed.reads.working crowded,
          );
    }

pub returns : goal.returns
returns g c =
    let b = g.B.View in
    let s = c.args.stored.now in
    let rule = g.L.Linkset.rule s.linkset in
    let held = g.L.Linkset.held s.linkset in
    let m = c.args.member.now in
    let owner = c.in_ok-owner.ensures.read in
    record {
      refused = λ owners members link whole are.
          let found = rw c.in-Ok.is at (owner.found owners members link whole are) in
          found.0;
      changed = λ owners members link whole are.
          let found = rw c.in-Ok.is at (owner.found owners members link whole are) in
          let new = b.working c.owner_to_leave.new.leaves in
          let same = owner.reads.reads.working in
          let after = owner.reads.ends.whole whole in
          let can : CanDisconnect rule held new link c.in-Ok.owner m =
          record {
            is_link = are.is_link;
            is_held = subst (held link) (sym same) are.link;
            owned = found.1;
          } in
          record {
            link = c.in_ok-disconnect_from.ensures.disconnected link after can;
            others = λ n away.
                c.in_ok-disconnect_from.ensures.others n after (λ e. cc) away
                ∙ ap (λ (maps : List LeafMap). map_at maps n) same;
          };
      keeps = keeps_joined b (reads_keep b owner.reads.reads) c.in_ok-disconnect_from.ensures.keeps;
      ends = ends_now b _ _ _ _ _ (ends_after b _ (read_passes b owner.reads)
          (λ h. (
            owner.reads.ends.whole h.0,
            link_there g.L.Linkset.rule g.L.Linkset.held s _ (have_still g.L.Linkset.rule
                g.L.Linkset.held s _ _ owner.reads.reads.working h.1),
          ))
          c.in_ok-disconnect_from.ensures.ends);
      block = λ n is whole. let clash : ⊥ = cc in absurd clash;
      full = λ owners members link whole are is. let clash : ⊥ = cc in absurd clash;
    }
