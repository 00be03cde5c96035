use Rattle.std.proofs.Common.{rules, ◌≡◌, ◌≤◌, ◌<◌, ◌∙◌, ◌+◌, ◌*◌, ◌++◌, List, length, sym, ap, subst}
use Rattle.std.proofs.lemmas.Bool.{true≢false}
use Rattle.gx_values.specs.declared.values.Value.{Value}
use Rattle.gx_ports.specs.LeafMaps.{LeafMap}
use Rattle.gx_stack.specs.Tree.{leaves_of}
use Rattle.gx_scan.specs.Files.{IsInternal}
use Rattle.gx_stack.proofs.PassLemmas.{passes_joined, read_passes, reads_given, reads_given_after}
use Rattle.gx_scan.proofs.StepLemmas.{leaves_few}
use Rattle.gx_links.specs.Links.{members_of}
use Rattle.gx_pairs.specs.Stored.{file_of, node_tree}
use Rattle.gx_pairs.specs.Members.{member_rows}
use Rattle.gx_pairs.proofs.MemberLemmas.{are_members, members_many, all_there, owner_steps, member_steps}
use Rattle.gx_scan.proofs.CallLemmas.{reads_passed}
use Rattle.gx_pairs.proofs.SearchLemmas.{finds_stopped}
use Rattle.gx_pairs.proofs.members.add_members.Goals as goal

pub returns-in_err-has_record : goal.returns-in_err-has_record
returns-in_err-has_record g c =
    finds_stopped g.B.View g.L.Linkset.rule g.L.Linkset.held c.args.stored.now _ _ _ _ _ _
    c.from_residual.result c.from_residual.ensures.1
    (reads_given g.B.View c.from_residual.result c.from_residual.ensures.1
    (λ h. (h.0, (h.1.0, h.1.3.owners))) c.in_err-has_record.ensures.reads)

pub returns-then-not-branch : goal.returns-then-not-branch
returns-then-not-branch g c = record {
  there = λ owners members link whole linked.
      sym c.if-not-branch.true ∙ c.in_ok-has_record.ensures.found owners whole linked.owners;
  those = λ owners members link whole linked yes. absurd (true≢false (sym yes));
  steps = λ owners members link most whole linked few_owners few_members few_entries.
      let s = c.args.stored.now in
      let maps = g.B.View.working c.args.leaves.now in
      let tree = c.requires.stored.owners.tree in
      let own = leaves_few (node_tree s.owners) (length maps) tree.valid tree.below in
      owner_steps (length maps) most (length (leaves_of (node_tree s.owners)))
      (length (member_rows members link c.args.owner.now)) _ _ own
      (c.in_ok-has_record.ensures.steps owners most whole linked.owners few_owners);
  reads = reads_passed g.B.View _ (read_passes g.B.View c.in_ok-has_record.ensures.reads);
}

pub members-requires-clause-below : goal.members-requires-clause-below
members-requires-clause-below g c = λ n h.
    subst (λ (maps : List LeafMap). n < length maps)
    (sym c.in_ok-has_record.ensures.reads.reads.working)
    (c.requires.stored.linkset.below n h)

pub returns-in_err-members : goal.returns-in_err-members
returns-in_err-members g c =
    let owner = c.in_ok-has_record.ensures.reads in
    let held = g.L.Linkset.held c.args.stored.now.linkset in
    let given = c.from_residual-in_err-members.ensures.1 in
    finds_stopped g.B.View g.L.Linkset.rule g.L.Linkset.held c.args.stored.now _ _ _ _ _ _
    c.from_residual-in_err-members.result given
    (reads_given_after g.B.View c.from_residual-in_err-members.result given
    (read_passes g.B.View owner)
    (λ sound.
    let link = sound.1.2 in
    let linked = sound.1.3 in (
      owner.ends.whole sound.0,
      (link, linked.is_link, subst (held link) (sym owner.reads.working) linked.link),
    ))
    c.in_err-members.ensures.reads)

pub returns-in_err-add_records : goal.returns-in_err-add_records
returns-in_err-add_records g c =
    let b = g.B.View in
    let s = c.args.stored.now in
    let o = c.args.owner.now in
    let owner = c.in_ok-has_record.ensures.reads in
    let them = c.in_ok-members.ensures in
    let passed = passes_joined b (read_passes b owner) (read_passes b them.reads) in
    let given = c.from_residual-in_err-add_records.ensures.1 in
    finds_stopped b g.L.Linkset.rule g.L.Linkset.held s _ _ _ _ _ _
    c.from_residual-in_err-add_records.result given
    (reads_given_after b c.from_residual-in_err-add_records.result given passed
    (λ sound.
    let members = sound.1.1 in
    let link = sound.1.2 in
    let linked = sound.1.3 in
    let whole = owner.ends.whole sound.0 in
    let those = them.found.those whole link linked.is_link
    (subst (g.L.Linkset.held s.linkset link) (sym owner.reads.working) linked.link) in
    let all = them.found.appended
    ∙ ap (λ (before : List Value). before ++ them.found.found) c.new.ensures.items in
    let slice : c.deref.result.now ≡ c.members.new.out = search rules in (
      passed.whole sound.0,
      (
        members,
        subst (λ (maps : List LeafMap). IsInternal (file_of s.members)
            (node_tree s.members) maps members) (sym passed.reads.working) linked.members,
        all_there members link o (λ m e. (linked.there m o e).0) c.deref.result.now
            (slice ∙ all ∙ those),
      ),
    ))
    c.in_err-add_records.ensures.reads)

pub returns : goal.returns
returns g c = record {
  there = λ owners members link whole linked.
      sym c.if-not-branch.false ∙ c.in_ok-has_record.ensures.found owners whole linked.owners;
  those = λ owners members link whole linked yes.
      let s = c.args.stored.now in
      let o = c.args.owner.now in
      let owner = c.in_ok-has_record.ensures in
      let them = c.in_ok-members.ensures in
      let held = subst (g.L.Linkset.held s.linkset link) (sym owner.reads.reads.working)
      linked.link in
      let those = them.found.those (owner.reads.ends.whole whole) link linked.is_link held in
      let all = them.found.appended
      ∙ ap (λ (before : List Value). before ++ them.found.found) c.new.ensures.items in
      let slice : c.deref.result.now ≡ c.members.new.out = search rules in
      let same = them.reads.reads.working ∙ owner.reads.reads.working in
      let internal = subst (λ (maps : List LeafMap). IsInternal (file_of s.members)
      (node_tree s.members) maps members) (sym same) linked.members in
      are_members members link o (λ m e. (linked.there m o e).0) c.args.conds.now
      c.deref.result.now c.args.rows.now.items _ (slice ∙ all ∙ those) c.requires.none
      (c.in_ok-add_records.ensures.rows members
      (them.reads.ends.whole (owner.reads.ends.whole whole)) internal);
  steps = λ owners members link most whole linked few_owners few_members few_entries.
      let s = c.args.stored.now in
      let o = c.args.owner.now in
      let b = g.B.View in
      let rule = g.L.Linkset.rule s.linkset in
      let laws = g.met.L.Linkset.laws s.linkset c.requires.stored.linkset.valid in
      let leaves = length (b.working c.args.leaves.now) in
      let owner = c.in_ok-has_record.ensures in
      let them = c.in_ok-members.ensures in
      let held = subst (g.L.Linkset.held s.linkset link) (sym owner.reads.reads.working)
      linked.link in
      let those = them.found.those (owner.reads.ends.whole whole) link linked.is_link held in
      let all = them.found.appended
      ∙ ap (λ (before : List Value). before ++ them.found.found) c.new.ensures.items in
      let slice : c.deref.result.now ≡ c.members.new.out = search rules in
      let same = them.reads.reads.working ∙ owner.reads.reads.working in
      let internal = subst (λ (maps : List LeafMap). IsInternal (file_of s.members)
      (node_tree s.members) maps members) (sym same) linked.members in
      let owners_tree = c.requires.stored.owners.tree in
      let members_tree = c.requires.stored.members.tree in
      let own = leaves_few (node_tree s.owners) leaves owners_tree.valid owners_tree.below in
      let each = leaves_few (node_tree s.members) leaves members_tree.valid members_tree.below in
      let many = members_many members link o (λ m e. (linked.there m o e).0) in
      let first = owner.steps owners most whole linked.owners few_owners in
      let second = them.found.few_steps (owner.reads.ends.whole whole) link linked.is_link held in
      let last = c.in_ok-add_records.ensures.steps members most
      (them.reads.ends.whole (owner.reads.ends.whole whole)) internal few_members in
      let them_all = members_of link o in
      member_steps leaves most (length (leaves_of (node_tree s.owners))) (length rule.leaves)
      (length (leaves_of (node_tree s.members))) (rule.rounds (length them_all))
      (length (rule.entries o them_all)) (length them_all) _ _ _ _
      (length (member_rows members link o)) own c.requires.stored.linkset.few each
      (laws.few_rounds (length them_all)) (few_entries o) many first second
      (subst (λ (keys : List Value). b.work c.add_records.new.leaves
      ≤ b.work c.members.new.leaves
      + length keys * (length (leaves_of (node_tree s.members)) + most))
      (slice ∙ all ∙ those) last);
  reads = reads_passed g.B.View _
      (passes_joined g.B.View (passes_joined g.B.View
      (read_passes g.B.View c.in_ok-has_record.ensures.reads)
      (read_passes g.B.View c.in_ok-members.ensures.reads))
      (read_passes g.B.View c.in_ok-add_records.ensures.reads));
}
