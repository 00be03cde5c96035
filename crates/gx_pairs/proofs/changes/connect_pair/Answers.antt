use Rattle.std.proofs.Common.{rules, ◌<◌, ◌∙◌, List, length, refl, sym, ap, subst}
use Rattle.gx_ports.specs.declared.stop.Stop.TheVariants as stop
use Rattle.gx_ports.specs.LeafMaps.{LeafMap, map_at}
use Rattle.gx_ports.proofs.CallLemmas.{keeps_joined, reads_keep}
use Rattle.gx_stack.proofs.PassLemmas.{same_stop, passes_joined, read_passes, ends_after, ends_given_after, reads_given, reads_given_after}
use Rattle.gx_scan.proofs.CallLemmas.{ends_now}
use Rattle.gx_links.proofs.JoinLemmas.{crowded_still}
use Rattle.gx_links.specs.Linksets.{IsJoined}
use Rattle.gx_pairs.specs.Stored.{IsStoredLinkset}
use Rattle.gx_pairs.proofs.LinkedLemmas.{link_there, have_still, not_both, not_free, may_join}
use Rattle.gx_pairs.proofs.SearchLemmas.{if_stopped}
use Rattle.gx_pairs.proofs.ChangeLemmas.{change_stopped, change_refused}
use Rattle.gx_pairs.proofs.changes.connect_pair.Goals as goal

pub returns-in_err-has_both : goal.returns-in_err-has_both
returns-in_err-has_both g c =
    change_stopped g.B.View g.L.Linkset.rule g.L.Linkset.held c.args.stored.now _ _ _ _ _ _
    c.from_residual.result c.from_residual.ensures.1
    (reads_given g.B.View c.from_residual.result c.from_residual.ensures.1 (λ h. h)
    c.in_err-has_both.ensures.reads)

pub returns-then-not-branch : goal.returns-then-not-branch
returns-then-not-branch g c =
    change_refused g.B.View g.L.Linkset.rule g.L.Linkset.held c.args.stored.now _ _ _ _ _ _
    (read_passes g.B.View c.in_ok-has_both.ensures.reads)
    (λ owners members link whole are.
    not_both owners members link c.args.owner.now c.args.member.now _
    (c.in_ok-has_both.ensures.found owners members link whole are) c.if-not-branch.true)

pub has_owner-requires-clause-stored : goal.has_owner-requires-clause-stored
has_owner-requires-clause-stored g c =
    subst (λ (maps : List LeafMap). IsStoredLinkset g.L.Linkset.rule g.L.Linkset.valid
    c.args.stored.now.linkset (length maps)) (sym c.has_both.ensures.reads.reads.working)
    c.requires.stored.linkset

pub returns-in_err-has_owner : goal.returns-in_err-has_owner
returns-in_err-has_owner g c =
    let b = g.B.View in
    let rule = g.L.Linkset.rule in
    let held = g.L.Linkset.held in
    let s = c.args.stored.now in
    let passed = read_passes b c.in_ok-has_both.ensures.reads in
    let given = c.from_residual-in_err-has_owner.ensures.1 in
    change_stopped b rule held s _ _ _ _ _ _ c.from_residual-in_err-has_owner.result given
    (reads_given_after b c.from_residual-in_err-has_owner.result given passed
    (λ h. (
      passed.whole h.0,
      link_there rule held s _ (have_still rule held s _ _ passed.reads.working h.1),
    ))
    c.in_err-has_owner.ensures.reads)

pub returns-then-branch : goal.returns-then-branch
returns-then-branch g c =
    let s = c.args.stored.now in
    let first = c.in_ok-has_both.ensures in
    let second = c.in_ok-has_owner.ensures in
    change_refused g.B.View g.L.Linkset.rule g.L.Linkset.held s _ _ _ _ _ _
    (passes_joined g.B.View (read_passes g.B.View first.reads) (read_passes g.B.View second.reads))
    (λ owners members link whole are.
    let has = second.found link (first.reads.ends.whole whole) are.is_link
    (subst (g.L.Linkset.held s.linkset link) (sym first.reads.reads.working) are.link) in
    not_free owners members link c.args.owner.now c.args.member.now _ _
    (first.found owners members link whole are) c.if-not-branch.false has c.if-branch.true)

pub connect-requires-clause-below : goal.connect-requires-clause-below
connect-requires-clause-below g c = λ n h.
    subst (λ (maps : List LeafMap). n < length maps)
    (sym (c.has_owner.ensures.reads.reads.working ∙ c.has_both.ensures.reads.reads.working))
    (c.requires.stored.linkset.below n h)

pub returns-in_err-connect : goal.returns-in_err-connect
returns-in_err-connect g c =
    let b = g.B.View in
    let rule = g.L.Linkset.rule in
    let held = g.L.Linkset.held in
    let s = c.args.stored.now in
    let passed = passes_joined b (read_passes b c.in_ok-has_both.ensures.reads)
    (read_passes b c.in_ok-has_owner.ensures.reads) in
    let result = c.from_residual-in_err-connect.result in
    let given = c.from_residual-in_err-connect.ensures.1 in
    record {
      refused = λ owners members link whole are. if_stopped _ result _ given;
      changed = λ owners members link whole are. if_stopped _ result _ given;
      keeps = keeps_joined b (reads_keep b passed.reads) c.in_err-connect.ensures.keeps;
      ends = ends_given_after b result given passed
          (λ h. (
            passed.whole h.0,
            link_there rule held s _ (have_still rule held s _ _ passed.reads.working h.1),
          ))
          c.in_err-connect.ensures.ends;
      block = λ n is whole.
          c.in_err-connect.ensures.block n (same_stop result (stop.Damaged n) given is)
          (passed.whole whole);
      full = λ owners members link whole are full.
          let half = c.has_both.ensures.reads.reads.working in
          let between = c.in_ok-has_both.ensures.reads.ends.whole whole in
          let has = c.in_ok-has_owner.ensures.found link between are.is_link
          (subst (g.L.Linkset.held c.args.stored.now.linkset link) (sym half) are.link) in
          let may = may_join owners members link c.args.owner.now c.args.member.now _ _
          (c.in_ok-has_both.ensures.found owners members link whole are) (search rules) has
          (search rules) g.L.Linkset.rule g.L.Linkset.held c.args.stored.now _ _
          (c.has_owner.ensures.reads.reads.working ∙ half) are in
          let crowded = c.in_err-connect.ensures.full link
          (c.in_ok-has_owner.ensures.reads.ends.whole between) may.can
          (same_stop result stop.Full given full) in (
            may.room crowded.0,
            c.args.owner.now,
            refl,
            crowded_still (b.limit c.args.leaves.now) _ _ _ _
                (c.has_owner.ensures.reads.reads.limit ∙ c.has_both.ensures.reads.reads.limit)
                (c.has_owner.ensures.reads.reads.working ∙ half) crowded.1,
          );
    }

pub returns-in-Joined : goal.returns-in-Joined
returns-in-Joined g c =
    let b = g.B.View in
    let rule = g.L.Linkset.rule in
    let held = g.L.Linkset.held in
    let s = c.args.stored.now in
    let passed = passes_joined b (read_passes b c.in_ok-has_both.ensures.reads)
    (read_passes b c.in_ok-has_owner.ensures.reads) in
    record {
      refused = λ owners members link whole are.
          let half = c.has_both.ensures.reads.reads.working in
          let between = c.in_ok-has_both.ensures.reads.ends.whole whole in
          let has = c.in_ok-has_owner.ensures.found link between are.is_link
          (subst (g.L.Linkset.held c.args.stored.now.linkset link) (sym half) are.link) in
          let may = may_join owners members link c.args.owner.now c.args.member.now _ _
          (c.in_ok-has_both.ensures.found owners members link whole are) (search rules) has
          (search rules) g.L.Linkset.rule g.L.Linkset.held c.args.stored.now _ _
          (c.has_owner.ensures.reads.reads.working ∙ half) are in
          let joined = subst (IsJoined (g.L.Linkset.held c.args.stored.now.linkset)
          (g.B.View.working c.connect.new.leaves) link c.args.owner.now c.args.member.now)
          c.in-Joined.is (c.in_ok-connect.ensures.joined link
          (c.in_ok-has_owner.ensures.reads.ends.whole between) may.can) in
          sym (may.room joined.0);
      changed = λ owners members link whole are.
          let half = c.has_both.ensures.reads.reads.working in
          let between = c.in_ok-has_both.ensures.reads.ends.whole whole in
          let has = c.in_ok-has_owner.ensures.found link between are.is_link
          (subst (g.L.Linkset.held c.args.stored.now.linkset link) (sym half) are.link) in
          let may = may_join owners members link c.args.owner.now c.args.member.now _ _
          (c.in_ok-has_both.ensures.found owners members link whole are) (search rules) has
          (search rules) g.L.Linkset.rule g.L.Linkset.held c.args.stored.now _ _
          (c.has_owner.ensures.reads.reads.working ∙ half) are in
          let joined = subst (IsJoined (g.L.Linkset.held c.args.stored.now.linkset)
          (g.B.View.working c.connect.new.leaves) link c.args.owner.now c.args.member.now)
          c.in-Joined.is (c.in_ok-connect.ensures.joined link
          (c.in_ok-has_owner.ensures.reads.ends.whole between) may.can) in
          record {
            link = joined.1;
            others = λ n away. c.in_ok-connect.ensures.others n
                (c.in_ok-has_owner.ensures.reads.ends.whole between) (λ e. cc) away
                ∙ ap (λ (maps : List LeafMap). map_at maps n)
                (c.has_owner.ensures.reads.reads.working ∙ half);
          };
      keeps = keeps_joined b (reads_keep b passed.reads) c.in_ok-connect.ensures.keeps;
      ends = ends_now b _ _ _ _ _ (ends_after b _ passed
          (λ h. (
            passed.whole h.0,
            link_there rule held s _ (have_still rule held s _ _ passed.reads.working h.1),
          ))
          c.in_ok-connect.ensures.ends);
      block = λ n is whole. let clash : ⊥ = cc in absurd clash;
      full = λ owners members link whole are is. let clash : ⊥ = cc in absurd clash;
    }

pub returns-in-NoRoom : goal.returns-in-NoRoom
returns-in-NoRoom g c =
    let b = g.B.View in
    let rule = g.L.Linkset.rule in
    let held = g.L.Linkset.held in
    let s = c.args.stored.now in
    let passed = passes_joined b (read_passes b c.in_ok-has_both.ensures.reads)
    (read_passes b c.in_ok-has_owner.ensures.reads) in
    record {
      refused = λ owners members link whole are.
          let half = c.has_both.ensures.reads.reads.working in
          let between = c.in_ok-has_both.ensures.reads.ends.whole whole in
          let has = c.in_ok-has_owner.ensures.found link between are.is_link
          (subst (g.L.Linkset.held c.args.stored.now.linkset link) (sym half) are.link) in
          let may = may_join owners members link c.args.owner.now c.args.member.now _ _
          (c.in_ok-has_both.ensures.found owners members link whole are) (search rules) has
          (search rules) g.L.Linkset.rule g.L.Linkset.held c.args.stored.now _ _
          (c.has_owner.ensures.reads.reads.working ∙ half) are in
          let joined = subst (IsJoined (g.L.Linkset.held c.args.stored.now.linkset)
          (g.B.View.working c.connect.new.leaves) link c.args.owner.now c.args.member.now)
          c.in-NoRoom.is (c.in_ok-connect.ensures.joined link
          (c.in_ok-has_owner.ensures.reads.ends.whole between) may.can) in
          sym (may.no_room joined.0);
      changed = λ owners members link whole are.
          let half = c.has_both.ensures.reads.reads.working in
          let between = c.in_ok-has_both.ensures.reads.ends.whole whole in
          let has = c.in_ok-has_owner.ensures.found link between are.is_link
          (subst (g.L.Linkset.held c.args.stored.now.linkset link) (sym half) are.link) in
          let may = may_join owners members link c.args.owner.now c.args.member.now _ _
          (c.in_ok-has_both.ensures.found owners members link whole are) (search rules) has
          (search rules) g.L.Linkset.rule g.L.Linkset.held c.args.stored.now _ _
          (c.has_owner.ensures.reads.reads.working ∙ half) are in
          let joined = subst (IsJoined (g.L.Linkset.held c.args.stored.now.linkset)
          (g.B.View.working c.connect.new.leaves) link c.args.owner.now c.args.member.now)
          c.in-NoRoom.is (c.in_ok-connect.ensures.joined link
          (c.in_ok-has_owner.ensures.reads.ends.whole between) may.can) in
          record {
            link = joined.1;
            others = λ n away. c.in_ok-connect.ensures.others n
                (c.in_ok-has_owner.ensures.reads.ends.whole between) (λ e. cc) away
                ∙ ap (λ (maps : List LeafMap). map_at maps n)
                (c.has_owner.ensures.reads.reads.working ∙ half);
          };
      keeps = keeps_joined b (reads_keep b passed.reads) c.in_ok-connect.ensures.keeps;
      ends = ends_now b _ _ _ _ _ (ends_after b _ passed
          (λ h. (
            passed.whole h.0,
            link_there rule held s _ (have_still rule held s _ _ passed.reads.working h.1),
          ))
          c.in_ok-connect.ensures.ends);
      block = λ n is whole. let clash : ⊥ = cc in absurd clash;
      full = λ owners members link whole are is. let clash : ⊥ = cc in absurd clash;
    }
