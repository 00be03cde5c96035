use Rattle.std.proofs.Common.{rules, ◌<◌, ◌∙◌, List, length, sym, subst, arith}
use Rattle.std.specs.FinMap as fin
use Rattle.gx_laws.proofs.ResultLemmas.{none_of}
use Rattle.gx_ports.specs.LeafMaps.{LeafMap}
use Rattle.gx_scan.specs.Files.{IsInternal}
use Rattle.gx_stack.specs.Tree.{leaves_of}
use Rattle.gx_stack.proofs.PassLemmas.{passes_joined, read_passes, reads_given, reads_given_after}
use Rattle.gx_pairs.specs.Stored.{file_of, node_tree}
use Rattle.gx_pairs.proofs.LinkedLemmas.{looked_up, owners_there, members_there, link_there, have_still}
use Rattle.gx_scan.proofs.CallLemmas.{reads_passed}
use Rattle.gx_scan.proofs.StepLemmas.{leaves_few}
use Rattle.gx_pairs.proofs.OwnerLemmas.{free_owner, owned_by, one_look, two_looks, three_looks}
use Rattle.gx_pairs.proofs.SearchLemmas.{owner_stopped}
use Rattle.gx_pairs.proofs.owners.find_owner.Goals as goal

pub returns-in_err-has_record : goal.returns-in_err-has_record
returns-in_err-has_record g c =
    let rule = g.L.Linkset.rule in
    let held = g.L.Linkset.held in
    let s = c.args.stored.now in
    owner_stopped g.B.View rule held s _ _ _ _ c.from_residual.result c.from_residual.ensures.1
    (reads_given g.B.View c.from_residual.result c.from_residual.ensures.1
    (λ h. (h.0, members_there rule held s _ h.1)) c.in_err-has_record.ensures.reads)

pub returns-then-not-branch : goal.returns-then-not-branch
returns-then-not-branch g c = record {
  found = λ owners members link whole are.
      none_of (fin.get members c.args.member.now)
      (sym (c.in_ok-has_record.ensures.found members whole are.members) ∙ c.if-not-branch.true);
  steps = λ finds owners members link most whole are few_owners few_members few_entries.
      let s = c.args.stored.now in
      let maps = g.B.View.working c.args.leaves.now in
      let tree = c.requires.stored.members.tree in
      one_look (fin.get link c.args.member.now) (length maps) most
      (length (leaves_of (node_tree s.members))) _ _
      (leaves_few (node_tree s.members) (length maps) tree.valid tree.below)
      (c.in_ok-has_record.ensures.steps members most whole are.members few_members);
  reads = reads_passed g.B.View _ (read_passes g.B.View c.in_ok-has_record.ensures.reads);
}

pub owner-requires-clause-below : goal.owner-requires-clause-below
owner-requires-clause-below g c = λ n h.
    subst (λ (maps : List LeafMap). n < length maps) (sym c.has_record.ensures.reads.reads.working)
    (c.requires.stored.linkset.below n h)

pub returns-in_err-owner : goal.returns-in_err-owner
returns-in_err-owner g c =
    let b = g.B.View in
    let rule = g.L.Linkset.rule in
    let held = g.L.Linkset.held in
    let s = c.args.stored.now in
    let old = b.working c.args.leaves.now in
    let new = b.working c.has_record.new.leaves in
    let first = c.in_ok-has_record.ensures.reads in
    let given = c.from_residual-in_err-owner.ensures.1 in
    owner_stopped b rule held s _ _ _ _ c.from_residual-in_err-owner.result given
    (reads_given_after b c.from_residual-in_err-owner.result given (read_passes b first)
    (λ h. (
      first.ends.whole h.0,
      link_there rule held s new (have_still rule held s old new first.reads.working h.1),
    ))
    c.in_err-owner.ensures.reads)

pub returns-in_default : goal.returns-in_default
returns-in_default g c =
    let b = g.B.View in
    let s = c.args.stored.now in
    let member = c.args.member.now in
    let leaves = length (b.working c.args.leaves.now) in
    let first = c.in_ok-has_record.ensures in
    let second = c.in_ok-owner.ensures in
    let tree = c.requires.stored.members.tree in
    record {
      found = λ owners members link whole are.
          let held = subst (g.L.Linkset.held s.linkset link) (sym first.reads.reads.working)
          are.link in
          free_owner owners members link member c.in_ok-has_record.field-0
          (first.found members whole are.members) c.if-not-branch.false c.in_ok-owner.field-0
          (second.found.that (first.reads.ends.whole whole) link are.is_link held)
          c.in_default.is;
      steps = λ finds owners members link most whole are few_owners few_members few_entries.
          let held = subst (g.L.Linkset.held s.linkset link) (sym first.reads.reads.working)
          are.link in
          two_looks (fin.get link member) (g.L.Linkset.rule s.linkset) link
          c.in_ok-owner.field-0 leaves most (length (leaves_of (node_tree s.members))) _ _ _
          few_entries (leaves_few (node_tree s.members) leaves tree.valid tree.below)
          c.requires.stored.linkset.few (first.steps members most whole are.members few_members)
          (second.found.few_steps finds (first.reads.ends.whole whole) link are.is_link held);
      reads = reads_passed b _
          (passes_joined b (read_passes b first.reads) (read_passes b second.reads));
    }

pub returns-in_err-record : goal.returns-in_err-record
returns-in_err-record g c =
    let b = g.B.View in
    let rule = g.L.Linkset.rule in
    let held = g.L.Linkset.held in
    let s = c.args.stored.now in
    let old = b.working c.args.leaves.now in
    let new = b.working c.owner.new.leaves in
    let first = c.in_ok-has_record.ensures.reads in
    let passed = passes_joined b (read_passes b first)
    (read_passes b c.in_ok-owner.ensures.reads) in
    let given = c.from_residual-in_err-record.ensures.1 in
    owner_stopped b rule held s _ _ _ _ c.from_residual-in_err-record.result given
    (reads_given_after b c.from_residual-in_err-record.result given passed
    (λ h. (
      passed.whole h.0,
      owners_there rule held s new (have_still rule held s old new passed.reads.working h.1),
    ))
    c.in_err-record.ensures.reads)

pub returns-in-Some-2 : goal.returns-in-Some-2
returns-in-Some-2 g c =
    let b = g.B.View in
    let s = c.args.stored.now in
    let member = c.args.member.now in
    let leaves = length (b.working c.args.leaves.now) in
    let first = c.in_ok-has_record.ensures in
    let second = c.in_ok-owner.ensures in
    let third = c.in_ok-record.ensures in
    let passed = passes_joined b (read_passes b first.reads) (read_passes b second.reads) in
    let own = c.requires.stored.members.tree in
    let other = c.requires.stored.owners.tree in
    record {
      found = λ owners members link whole are.
          let held = subst (g.L.Linkset.held s.linkset link) (sym first.reads.reads.working)
          are.link in
          let at = subst (λ (maps : List LeafMap). IsInternal (file_of s.owners)
          (node_tree s.owners) maps owners) (sym passed.reads.working) are.owners in
          owned_by owners members link member c.in_ok-has_record.field-0
          (first.found members whole are.members) c.if-not-branch.false c.in_ok-owner.field-0
          (second.found.that (first.reads.ends.whole whole) link are.is_link held)
          c.in-Some.owner c.in_ok-record.field-0 c.in-Some-2.record c.in-Some.is
          (third.found owners (passed.whole whole) at) c.in-Some-2.is;
      steps = λ finds owners members link most whole are few_owners few_members few_entries.
          let held = subst (g.L.Linkset.held s.linkset link) (sym first.reads.reads.working)
          are.link in
          let at = subst (λ (maps : List LeafMap). IsInternal (file_of s.owners)
          (node_tree s.owners) maps owners) (sym passed.reads.working) are.owners in
          three_looks (fin.get link member) c.in-Some.owner (g.L.Linkset.rule s.linkset) link
          c.in_ok-owner.field-0 leaves most (length (leaves_of (node_tree s.members)))
          (length (leaves_of (node_tree s.owners))) _ _ _ _
          (sym (second.found.that (first.reads.ends.whole whole) link are.is_link held)
          ∙ c.in-Some.is)
          few_entries (leaves_few (node_tree s.members) leaves own.valid own.below)
          (leaves_few (node_tree s.owners) leaves other.valid other.below)
          c.requires.stored.linkset.few (first.steps members most whole are.members few_members)
          (second.found.few_steps finds (first.reads.ends.whole whole) link are.is_link held)
          (third.steps owners most (passed.whole whole) at few_owners);
      reads = reads_passed b _ (passes_joined b passed (read_passes b third.reads));
    }

-- the owner of a pair is a record
pub returns : goal.returns
returns g c =
    let b = g.B.View in
    let s = c.args.stored.now in
    let first = c.in_ok-has_record.ensures.reads in
    let second = c.in_ok-owner.ensures in
    let third = c.in_ok-record.ensures.reads in
    let before = passes_joined b (read_passes b first) (read_passes b second.reads) in
    let passed = passes_joined b before (read_passes b third) in
    record {
      found = λ owners members link whole are. tt;
      steps = λ finds owners members link most whole are few_owners few_members few_entries. tt;
      reads = record {
        reads = passed.reads;
        ends = record {
          whole = search rules;
          later = omega (arith, passed.counted);
          fault = search rules;
          counted = λ none. passed.counted;
          damaged = λ block is sound.
              let owners = sound.1.0 in
              let link = sound.1.2 in
              let linked = sound.1.3 in
              let held = subst (g.L.Linkset.held s.linkset link) (sym first.reads.working)
              linked.link in
              let owned = second.found.that (first.ends.whole sound.0) link linked.is_link held in
              let there = (linked.there c.args.member.now c.in-Some.owner
              (sym owned ∙ c.in-Some.is)).1 in
              let at = subst (λ (maps : List LeafMap). IsInternal (file_of s.owners)
              (node_tree s.owners) maps owners) (sym before.reads.working) linked.owners in
              let found = c.in_ok-record.ensures.found owners (before.whole sound.0) at in
              looked_up _ (fin.get owners c.in-Some.owner) c.in_ok-record.field-0 found
              c.in-None.is there;
        };
        block = search rules;
        not_full = search rules;
      };
    }
