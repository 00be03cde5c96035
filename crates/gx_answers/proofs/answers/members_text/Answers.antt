use Rattle.std.proofs.Common.{Some}
use Rattle.gx_schema.specs.Lookups.{link_at}
use Rattle.gx_commands.specs.declared.command.Of.{Of}
use Rattle.gx_commands.specs.declared.command.Command.TheVariants as command
use Rattle.gx_linksets.specs.Any.{any_link_rule, IsHeldBy, IsValidLinkset}
use Rattle.gx_model.specs.States.{file_in, link_in}
use Rattle.std.specs.FinMap as fin
use Rattle.gx_model.specs.Found.{is_owner}
use Rattle.gx_states.proofs.StoredLemmas.{is_stored, is_linked_in, have_link}
use Rattle.gx_answers.specs.Work.{most_with}
use Rattle.gx_answers.proofs.AnswerLemmas.{answers_stopped, answers_ok, members_refused, members_listed}
use Rattle.gx_answers.proofs.FoundLemmas.{owner_records_most, member_records_most, owners_most, members_within}
use Rattle.gx_answers.proofs.answers.members_text.Goals as goal

pub add_members-requires-clause-stored : goal.add_members-requires-clause-stored
add_members-requires-clause-stored g c =
    is_stored any_link_rule IsHeldBy IsValidLinkset c.args.schema.now c.args.built.now _ c.args.link
    c.stored_link-stored.result c.requires.ready c.requires.of_schema.0 c.stored_link-stored.ensures

pub returns-in_err-add_members : goal.returns-in_err-add_members
returns-in_err-add_members g c =
    let stopped = c.in_err-add_members.ensures in
    answers_stopped g.B.View c.args.schema.now c.args.built.now
    (command.Members c.args.link c.args.owner.now c.args.order)
    c.args.leaves.now c.add_members.new.leaves c.from_residual.result c.from_residual.ensures.1
    (λ sound. (
      sound.0,
      have_link any_link_rule IsHeldBy IsValidLinkset c.args.schema.now c.args.built.now _
          c.args.link c.stored_link-stored.result c.requires.ready c.requires.of_schema.0
          c.stored_link-stored.ensures _ sound.1,
    ))
    stopped.reads

pub returns-then-not-branch : goal.returns-then-not-branch
returns-then-not-branch g c =
    let schema = c.args.schema.now in
    let built = c.args.built.now in
    let i = c.args.link in
    let owner = c.args.owner.now in
    let x = c.stored_link-stored.result in
    let is = c.stored_link-stored.ensures in
    let lt = c.requires.of_schema.0 in
    let of : Of = record { link = i; owner = owner } in
    answers_ok g.B.View schema built
    (command.Members i owner c.args.order)
    c.args.leaves.now c.add_members.new.leaves _ c.in_ok-add_members.field-0 _
    c.in_ok-add_members.ensures.reads
    (λ s whole are.
    let linked = is_linked_in any_link_rule IsHeldBy IsValidLinkset schema built _ i x
    c.requires.ready lt is _ s are in
    members_refused schema s i owner c.args.order c.in_ok-add_members.field-0 _ c.if-not-branch.true
    (c.in_ok-add_members.ensures.there _ _ _ whole linked) c.in_ok-refusal_text.ensures)
    (λ s whole are.
    let linked = is_linked_in any_link_rule IsHeldBy IsValidLinkset schema built _ i x
    c.requires.ready lt is _ s are in
    members_within schema built _ s i owner c.args.order _ _
    (c.in_ok-add_members.ensures.steps _ _ _ (most_with built s (Some of)) whole linked
    (owner_records_most any_link_rule IsHeldBy IsValidLinkset schema built _ x s of c.requires.ready
    lt is are.valid.files_many)
    (member_records_most any_link_rule IsHeldBy IsValidLinkset schema built _ x s of
    c.requires.ready lt is are.valid.files_many)
    (owners_most any_link_rule IsHeldBy IsValidLinkset schema built _ x s of c.requires.ready lt is
    are.valid.links_many)))

pub returns : goal.returns
returns g c =
    let schema = c.args.schema.now in
    let built = c.args.built.now in
    let i = c.args.link in
    let owner = c.args.owner.now in
    let x = c.stored_link-stored.result in
    let is = c.stored_link-stored.ensures in
    let lt = c.requires.of_schema.0 in
    let of : Of = record { link = i; owner = owner } in
    answers_ok g.B.View schema built
    (command.Members i owner c.args.order)
    c.args.leaves.now c.add_members.new.leaves _ c.in_ok-add_members.field-0 _
    c.in_ok-add_members.ensures.reads
    (λ s whole are.
    let linked = is_linked_in any_link_rule IsHeldBy IsValidLinkset schema built _ i x
    c.requires.ready lt is _ s are in
    let those = c.in_ok-add_members.ensures.those _ _ _ whole linked c.if-not-branch.false in
    members_listed schema s i owner c.args.order c.in_ok-add_members.field-0 _ _
    c.if-not-branch.false
    (c.in_ok-add_members.ensures.there _ _ _ whole linked) is.member_file
    (c.in_ok-sorted_text.ensures (file_in s (link_at schema i).member)
    (λ r. is_owner owner (fin.get (link_in s i) r.0)) those))
    (λ s whole are.
    let linked = is_linked_in any_link_rule IsHeldBy IsValidLinkset schema built _ i x
    c.requires.ready lt is _ s are in
    members_within schema built _ s i owner c.args.order _ _
    (c.in_ok-add_members.ensures.steps _ _ _ (most_with built s (Some of)) whole linked
    (owner_records_most any_link_rule IsHeldBy IsValidLinkset schema built _ x s of c.requires.ready
    lt is are.valid.files_many)
    (member_records_most any_link_rule IsHeldBy IsValidLinkset schema built _ x s of
    c.requires.ready lt is are.valid.files_many)
    (owners_most any_link_rule IsHeldBy IsValidLinkset schema built _ x s of c.requires.ready lt is
    are.valid.links_many)))
