use Rattle.std.proofs.Common.{◌≡◌, ◌∙◌, List, false, length, refl, sym, ap, subst}
use Rattle.std.specs.Prelude.{◌&&◌, ◌==◌, is_some}
use Rattle.std.specs.FinMap as fin
use Rattle.gx_laws.proofs.NumberLemmas.{same_number}
use Rattle.gx_schema.specs.Lookups.{link_at}
use Rattle.gx_ports.specs.LeafMaps.{LeafMap}
use Rattle.gx_ports.proofs.CallLemmas.{reads_itself}
use Rattle.gx_linksets.specs.Any.{any_link_rule, IsHeldBy, IsValidLinkset}
use Rattle.gx_pairs.specs.Stored.{IsStoredLinkset}
use Rattle.gx_pairs.specs.Members.{has_member}
use Rattle.gx_stack.proofs.PassLemmas.{Passes, passes, reads_given, reads_given_after}
use Rattle.gx_pairs.proofs.LinkedLemmas.{link_there, linked_still, have_still}
use Rattle.gx_model.specs.States.{link_in}
use Rattle.gx_states.proofs.StoredLemmas.{is_stored, is_linked_in, have_link}
use Rattle.gx_edits.proofs.EndLemmas.{other_number}
use Rattle.gx_edits.proofs.RelinkLemmas.{end_as_member, end_as_owner}
use Rattle.gx_edits.proofs.links.is_end_of.Goals.{else-def-file-via-then-def-file+in_ok-has_owner+else-branch, else-def-file-via-else-def-file}
use Rattle.gx_edits.proofs.links.is_end_of.Goals as goal

pub has_owner-requires-clause-stored : goal.has_owner-requires-clause-stored
has_owner-requires-clause-stored g c =
    (is_stored any_link_rule IsHeldBy IsValidLinkset c.args.schema.now c.args.built.now _
    c.args.link c.stored_link-stored.result c.requires.ready c.requires.link
    c.stored_link-stored.ensures).linkset

pub returns-in_err-has_owner-clause-reads : goal.returns-in_err-has_owner-clause-reads
returns-in_err-has_owner-clause-reads g c =
    let x = c.stored_link-stored.result in
    let have = have_link any_link_rule IsHeldBy IsValidLinkset c.args.schema.now c.args.built.now _
    c.args.link x c.requires.ready c.requires.link c.stored_link-stored.ensures in
    reads_given g.B.View c.from_residual.result c.from_residual.ensures.1
    (λ h. (h.0, link_there any_link_rule IsHeldBy x _ (have _ h.1)))
    c.in_err-has_owner.ensures.reads

pub returns-then-branch-clause-found : goal.returns-then-branch-clause-found
returns-then-branch-clause-found g c = λ s whole are.
    let schema = c.args.schema.now in
    let i = c.args.link in
    let link = link_in s i in
    let linked = is_linked_in any_link_rule IsHeldBy IsValidLinkset schema c.args.built.now _ i
    c.stored_link-stored.result c.requires.ready c.requires.link c.stored_link-stored.ensures _ s
    are in
    let found = c.in_ok-has_owner.ensures.found link whole linked.is_link linked.link in
    end_as_member c.link_def-def.result.now (link_at schema i) link c.args.file c.args.key.now
    c.in_ok-has_owner.field-0 c.link_def-def.ensures c.if-branch.true
    (found ∙ sym (ap (λ b. b && is_some (fin.get link c.args.key.now))
    (same_number c.link_def-def.result.now.member c.args.file c.if-def-file.true)))

pub has_members-requires-clause-stored : goal.has_members-requires-clause-stored
has_members-requires-clause-stored g c =
    let b = g.B.View in
    let passed : Passes b c.args.leaves.now c.else-def-file.leaves = elim c.else-def-file.branch [
      | else-def-file-via-then-def-file+in_ok-has_owner+else-branch w ↦
          subst (λ s. Passes b c.args.leaves.now s) (sym w.leaves-is)
          (passes b w.has_owner.ensures.reads.reads w.in_ok-has_owner.ensures.reads.ends)
      | else-def-file-via-else-def-file w ↦ subst (λ s. Passes b c.args.leaves.now s)
          (sym w.leaves-is) (record {
            reads = reads_itself b c.args.leaves.now;
            whole = λ h. h;
            counted = refl;
          })
    ] in
    subst (λ (maps : List LeafMap). IsStoredLinkset any_link_rule IsValidLinkset
    c.stored_link-stored.result.linkset (length maps)) (sym passed.reads.working)
    (is_stored any_link_rule IsHeldBy IsValidLinkset c.args.schema.now c.args.built.now _
    c.args.link c.stored_link-stored.result c.requires.ready c.requires.link
    c.stored_link-stored.ensures).linkset

pub returns-in_err-has_members-clause-reads : goal.returns-in_err-has_members-clause-reads
returns-in_err-has_members-clause-reads g c =
    let b = g.B.View in
    let x = c.stored_link-stored.result in
    let have = have_link any_link_rule IsHeldBy IsValidLinkset c.args.schema.now c.args.built.now _
    c.args.link x c.requires.ready c.requires.link c.stored_link-stored.ensures in
    let passed : Passes b c.args.leaves.now c.else-def-file.leaves = elim c.else-def-file.branch [
      | else-def-file-via-then-def-file+in_ok-has_owner+else-branch w ↦
          subst (λ s. Passes b c.args.leaves.now s) (sym w.leaves-is)
          (passes b w.has_owner.ensures.reads.reads w.in_ok-has_owner.ensures.reads.ends)
      | else-def-file-via-else-def-file w ↦ subst (λ s. Passes b c.args.leaves.now s)
          (sym w.leaves-is) (record {
            reads = reads_itself b c.args.leaves.now;
            whole = λ h. h;
            counted = refl;
          })
    ] in
    reads_given_after b c.from_residual-in_err-has_members.result
    c.from_residual-in_err-has_members.ensures.1 passed
    (λ h. (
      passed.whole h.0,
      link_there any_link_rule IsHeldBy x _
          (have_still any_link_rule IsHeldBy x _ _ passed.reads.working (have _ h.1)),
    ))
    c.in_err-has_members.ensures.reads

pub returns-in_ok-has_members-clause-found : goal.returns-in_ok-has_members-clause-found
returns-in_ok-has_members-clause-found g c = λ s whole are.
    let b = g.B.View in
    let schema = c.args.schema.now in
    let i = c.args.link in
    let x = c.stored_link-stored.result in
    let d = c.link_def-def.result.now in
    let link = link_in s i in
    let key = c.args.key.now in
    let linked = is_linked_in any_link_rule IsHeldBy IsValidLinkset schema c.args.built.now _ i x
    c.requires.ready c.requires.link c.stored_link-stored.ensures _ s are in
    let passed : Passes b c.args.leaves.now c.else-def-file.leaves = elim c.else-def-file.branch [
      | else-def-file-via-then-def-file+in_ok-has_owner+else-branch w ↦
          subst (λ s. Passes b c.args.leaves.now s) (sym w.leaves-is)
          (passes b w.has_owner.ensures.reads.reads w.in_ok-has_owner.ensures.reads.ends)
      | else-def-file-via-else-def-file w ↦ subst (λ s. Passes b c.args.leaves.now s)
          (sym w.leaves-is) (record {
            reads = reads_itself b c.args.leaves.now;
            whole = λ h. h;
            counted = refl;
          })
    ] in
    let none : ((d.member == c.args.file) && is_some (fin.get link key)) ≡ false =
    elim c.else-def-file.branch [
      | else-def-file-via-then-def-file+in_ok-has_owner+else-branch w ↦ ap
          (λ t. t && is_some (fin.get link key))
          (same_number d.member c.args.file w.if-def-file.true)
          ∙ sym (w.in_ok-has_owner.ensures.found link whole linked.is_link linked.link)
          ∙ w.if-branch.false
      | else-def-file-via-else-def-file w ↦ ap (λ t. t && is_some (fin.get link key))
          (other_number d.member c.args.file w.if-def-file.false)
    ] in
    let still = linked_still any_link_rule IsHeldBy x _ _ _ _ link passed.reads.working linked in
    let found = c.in_ok-has_members.ensures.found link (passed.whole whole) still.is_link
    still.link in
    end_as_owner d (link_at schema i) link c.args.file key c.in_ok-has_members.field-0
    c.link_def-def.ensures none (found
    ∙ sym (ap (λ t. t && has_member link key)
    (same_number d.owner c.args.file c.if-def-file-2.true)))

pub returns-else-def-file-2-clause-found : goal.returns-else-def-file-2-clause-found
returns-else-def-file-2-clause-found g c = λ s whole are.
    let schema = c.args.schema.now in
    let i = c.args.link in
    let d = c.link_def-def.result.now in
    let link = link_in s i in
    let key = c.args.key.now in
    let linked = is_linked_in any_link_rule IsHeldBy IsValidLinkset schema c.args.built.now _ i
    c.stored_link-stored.result c.requires.ready c.requires.link c.stored_link-stored.ensures _ s
    are in
    let none : ((d.member == c.args.file) && is_some (fin.get link key)) ≡ false =
    elim c.else-def-file.branch [
      | else-def-file-via-then-def-file+in_ok-has_owner+else-branch w ↦ ap
          (λ t. t && is_some (fin.get link key))
          (same_number d.member c.args.file w.if-def-file.true)
          ∙ sym (w.in_ok-has_owner.ensures.found link whole linked.is_link linked.link)
          ∙ w.if-branch.false
      | else-def-file-via-else-def-file w ↦ ap (λ t. t && is_some (fin.get link key))
          (other_number d.member c.args.file w.if-def-file.false)
    ] in
    let other = other_number d.owner c.args.file c.if-def-file-2.false in
    end_as_owner d (link_at schema i) link c.args.file key (d.owner == c.args.file)
    c.link_def-def.ensures none (other ∙ sym (ap (λ t. t && has_member link key) other))
