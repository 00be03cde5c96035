use Rattle.std.proofs.Common.{◌∙◌, ◌++◌, List, length, sym, ap, subst}
use Rattle.std.specs.Prelude.{filter}
use Rattle.std.specs.List.{AllByRecursion}
use Rattle.std.proofs.lemmas.Bool.{true≢false}
use Rattle.gx_values.specs.declared.values.Kind.{Kind}
use Rattle.gx_values.specs.Values.{Fits}
use Rattle.gx_schema.specs.Lookups.{key_kind}
use Rattle.gx_ports.specs.LeafMaps.{LeafMap}
use Rattle.gx_model.specs.States.{Row}
use Rattle.gx_scan.specs.Files.{IsInternal}
use Rattle.gx_scan.proofs.StepLemmas.{leaves_few}
use Rattle.gx_pairs.specs.Stored.{file_of, node_tree, IsStoredLinkset}
use Rattle.gx_pairs.specs.Members.{rows_meeting_at}
use Rattle.gx_stack.proofs.PassLemmas.{passes_joined, read_passes, reads_given, reads_given_after}
use Rattle.gx_pairs.proofs.LinkedLemmas.{owners_there, members_there, link_there, have_still}
use Rattle.gx_pairs.proofs.MemberLemmas.{one_owner_steps, one_member_steps}
use Rattle.gx_scan.proofs.CallLemmas.{reads_passed}
use Rattle.gx_pairs.proofs.SearchLemmas.{finds_stopped}
use Rattle.gx_pairs.proofs.members.add_member_at.Goals as goal

pub returns-in_err-has_record : goal.returns-in_err-has_record
returns-in_err-has_record g c =
    let rule = g.L.Linkset.rule in
    let held = g.L.Linkset.held in
    let s = c.args.stored.now in
    finds_stopped g.B.View rule held s _ _ _ _ _ _ c.from_residual.result c.from_residual.ensures.1
    (reads_given g.B.View c.from_residual.result c.from_residual.ensures.1
    (λ h. (h.0, owners_there rule held s _ h.1)) c.in_err-has_record.ensures.reads)

pub returns-then-not-branch : goal.returns-then-not-branch
returns-then-not-branch g c = record {
  there = λ owners members link whole linked.
      sym c.if-not-branch.true ∙ c.in_ok-has_record.ensures.found owners whole linked.owners;
  those = λ owners members link whole linked yes. absurd (true≢false (sym yes));
  steps = λ owners members link most whole linked few_o few_m few_l.
      let tree = c.requires.stored.owners.tree in
      one_owner_steps _ most _ _ _ _
      (leaves_few (node_tree c.args.stored.now.owners) _ tree.valid tree.below)
      (c.in_ok-has_record.ensures.steps owners most whole linked.owners few_o);
  reads = reads_passed g.B.View _ (read_passes g.B.View c.in_ok-has_record.ensures.reads);
}

pub returns-in_err-add_record : goal.returns-in_err-add_record
returns-in_err-add_record g c =
    let b = g.B.View in
    let rule = g.L.Linkset.rule in
    let held = g.L.Linkset.held in
    let s = c.args.stored.now in
    let first = c.in_ok-has_record.ensures.reads in
    let given = c.from_residual-in_err-add_record.ensures.1 in
    finds_stopped b rule held s _ _ _ _ _ _ c.from_residual-in_err-add_record.result given
    (reads_given_after b c.from_residual-in_err-add_record.result given (read_passes b first)
    (λ h. (
      first.ends.whole h.0,
      members_there rule held s _ (have_still rule held s _ _ first.reads.working h.1),
    ))
    c.in_err-add_record.ensures.looks.reads)

pub keep_members-requires-clause-stored : goal.keep_members-requires-clause-stored
keep_members-requires-clause-stored g c =
    let first = c.has_record.ensures.reads.reads.working in
    let second = c.add_record.ensures.looks.reads.reads.working in
    subst (λ (maps : List LeafMap). IsStoredLinkset g.L.Linkset.rule g.L.Linkset.valid
    c.args.stored.now.linkset (length maps)) (sym (second ∙ first)) c.requires.stored.linkset

pub keep_members-requires-clause-members : goal.keep_members-requires-clause-members
keep_members-requires-clause-members g c =
    let fits = λ (k : Kind) (rs : List Row). AllByRecursion (λ (r : Row). Fits k r.0) rs in
    let before = subst (fits (key_kind (file_of c.args.stored.now.members)))
    (sym c.new-found.ensures.items) tt in
    subst (λ (k : Kind). fits k c.add_record.new.rows.items) (sym c.requires.stored.member_kind)
    (c.in_ok-add_record.ensures.fit before)

pub returns-in_err-rows : goal.returns-in_err-rows
returns-in_err-rows g c =
    let b = g.B.View in
    let rule = g.L.Linkset.rule in
    let held = g.L.Linkset.held in
    let s = c.args.stored.now in
    let first = c.in_ok-has_record.ensures.reads in
    let second = c.in_ok-add_record.ensures.looks.reads in
    let passed = passes_joined b (read_passes b first) (read_passes b second) in
    let given = c.from_residual-in_err-rows.ensures.1 in
    finds_stopped b rule held s _ _ _ _ _ _ c.from_residual-in_err-rows.result given
    (reads_given_after b c.from_residual-in_err-rows.result given passed
    (λ h. (
      passed.whole h.0,
      link_there rule held s _ (have_still rule held s _ _ passed.reads.working h.1),
    ))
    c.in_err-rows.ensures.answer.reads)

pub returns : goal.returns
returns g c = record {
  there = λ owners members link whole linked.
      sym c.if-not-branch.false ∙ c.in_ok-has_record.ensures.found owners whole linked.owners;
  those = λ owners members link whole linked there.
      let x = c.args.stored.now in
      let first = c.in_ok-has_record.ensures in
      let found = c.in_ok-add_record.ensures in
      let after = first.reads.ends.whole whole in
      let at = subst (λ (maps : List LeafMap). IsInternal (file_of x.members)
      (node_tree x.members) maps members) (sym first.reads.reads.working) linked.members in
      let same = found.looks.reads.reads.working ∙ first.reads.reads.working in
      let held = subst (g.L.Linkset.held x.linkset link) (sym same) linked.link in
      let one = (found.looks.found members after at).1
      ∙ ap (λ (before : List Row). before
      ++ rows_meeting_at members c.args.conds.now c.args.key.now) c.new-found.ensures.items in
      c.in_ok-rows.ensures.answer.found link (found.looks.reads.ends.whole after) linked.is_link
      held ∙ ap (filter _) one;
  steps = λ owners members link most whole linked few_o few_m few_l.
      let x = c.args.stored.now in
      let first = c.in_ok-has_record.ensures in
      let found = c.in_ok-add_record.ensures in
      let after = first.reads.ends.whole whole in
      let at = subst (λ (maps : List LeafMap). IsInternal (file_of x.members)
      (node_tree x.members) maps members) (sym first.reads.reads.working) linked.members in
      let same = found.looks.reads.reads.working ∙ first.reads.reads.working in
      let held = subst (g.L.Linkset.held x.linkset link) (sym same) linked.link in
      let one = (found.looks.found members after at).1
      ∙ ap (λ (before : List Row). before
      ++ rows_meeting_at members c.args.conds.now c.args.key.now) c.new-found.ensures.items in
      let kept = c.in_ok-rows.ensures.steps link most (found.looks.reads.ends.whole after)
      linked.is_link held few_l in
      let own = c.requires.stored.owners.tree in
      let other = c.requires.stored.members.tree in
      one_member_steps _ _ most _ _ _ _ _ _ _ _ (ap (λ (rs : List Row). length rs) one)
      (ap (λ (maps : List LeafMap). length maps) same)
      (leaves_few (node_tree x.owners) _ own.valid own.below)
      (leaves_few (node_tree x.members) _ other.valid other.below)
      (first.steps owners most whole linked.owners few_o)
      (found.looks.steps members most after at few_m) kept;
  reads = reads_passed g.B.View _
      (passes_joined g.B.View (passes_joined g.B.View
      (read_passes g.B.View c.in_ok-has_record.ensures.reads)
      (read_passes g.B.View c.in_ok-add_record.ensures.looks.reads))
      (read_passes g.B.View c.in_ok-rows.ensures.answer.reads));
}
