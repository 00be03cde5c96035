use Rattle.std.proofs.Common.{Some, subst}
use Rattle.gx_schema.specs.Lookups.{link_at}
use Rattle.gx_commands.specs.declared.command.Command.TheVariants as command
use Rattle.gx_linksets.specs.Any.{any_link_rule, IsHeldBy, IsValidLinkset}
use Rattle.gx_model.specs.States.{file_in, link_in}
use Rattle.gx_commands.specs.Commands.{IsOfOf}
use Rattle.gx_pairs.specs.Stored.{file_of, node_tree}
use Rattle.gx_pairs.specs.Members.{is_chosen_of}
use Rattle.gx_states.proofs.StoredLemmas.{is_stored, is_linked_in, have_link}
use Rattle.gx_answers.specs.Work.{most_with}
use Rattle.gx_answers.proofs.AnswerLemmas.{answers_stopped, answers_ok, find_refused, find_listed}
use Rattle.gx_answers.proofs.FoundLemmas.{owner_records_most, member_records_most, owners_most, found_within}
use Rattle.gx_answers.proofs.answers.found_members_text.Goals as goal

pub add_found_members-requires-clause-stored : goal.add_found_members-requires-clause-stored
add_found_members-requires-clause-stored g c =
    let of = subst (IsOfOf c.args.schema.now c.args.find.now.file) c.requires.of
    c.requires.of_schema.of in
    is_stored any_link_rule IsHeldBy IsValidLinkset c.args.schema.now c.args.built.now _
    c.args.of.now.link
    c.stored_link-stored.result c.requires.ready of.0 c.stored_link-stored.ensures

pub returns-in_err-add_found_members : goal.returns-in_err-add_found_members
returns-in_err-add_found_members g c =
    let of = subst (IsOfOf c.args.schema.now c.args.find.now.file) c.requires.of
    c.requires.of_schema.of in
    let stopped = c.in_err-add_found_members.ensures in
    answers_stopped g.B.View c.args.schema.now c.args.built.now
    (command.Find c.args.find.now)
    c.args.leaves.now c.add_found_members.new.leaves c.from_residual.result
    c.from_residual.ensures.1
    (λ sound. (
      sound.0,
      have_link any_link_rule IsHeldBy IsValidLinkset c.args.schema.now c.args.built.now _
          c.args.of.now.link c.stored_link-stored.result c.requires.ready of.0
          c.stored_link-stored.ensures _
          sound.1,
    ))
    stopped.reads

pub returns-then-not-branch : goal.returns-then-not-branch
returns-then-not-branch g c =
    let schema = c.args.schema.now in
    let built = c.args.built.now in
    let q = c.args.find.now in
    let of = c.args.of.now in
    let x = c.stored_link-stored.result in
    let is = c.stored_link-stored.ensures in
    let of_schema = subst (IsOfOf schema q.file) c.requires.of c.requires.of_schema.of in
    let lt = of_schema.0 in
    answers_ok g.B.View schema built
    (command.Find q) c.args.leaves.now c.add_found_members.new.leaves _
    c.in_ok-add_found_members.field-0 _
    c.in_ok-add_found_members.ensures.reads
    (λ s whole are.
    let linked = is_linked_in any_link_rule IsHeldBy IsValidLinkset schema built _ of.link x
    c.requires.ready lt is _ s are in
    find_refused schema s q of c.in_ok-add_found_members.field-0 _ c.requires.of
    c.if-not-branch.true
    (c.in_ok-add_found_members.ensures.there _ _ _ whole linked) c.in_ok-refusal_text.ensures)
    (λ s whole are.
    let linked = is_linked_in any_link_rule IsHeldBy IsValidLinkset schema built _ of.link x
    c.requires.ready lt is _ s are in
    found_within schema built _ s q of (file_of x.members)
    (node_tree x.members) _ _ c.requires.of of_schema.1 is.member_file is.member_tree
    (c.in_ok-add_found_members.ensures.steps _ _ _ (most_with built s (Some of)) whole linked
    (owner_records_most any_link_rule IsHeldBy IsValidLinkset schema built _ x s of c.requires.ready
    lt is are.valid.files_many)
    (member_records_most any_link_rule IsHeldBy IsValidLinkset schema built _ x s of
    c.requires.ready lt is are.valid.files_many)
    (owners_most any_link_rule IsHeldBy IsValidLinkset schema built _ x s of c.requires.ready lt is
    are.valid.links_many)))

pub returns : goal.returns
returns g c =
    let schema = c.args.schema.now in
    let built = c.args.built.now in
    let q = c.args.find.now in
    let of = c.args.of.now in
    let x = c.stored_link-stored.result in
    let is = c.stored_link-stored.ensures in
    let of_schema = subst (IsOfOf schema q.file) c.requires.of c.requires.of_schema.of in
    let lt = of_schema.0 in
    answers_ok g.B.View schema built
    (command.Find q) c.args.leaves.now c.add_found_members.new.leaves _
    c.in_ok-add_found_members.field-0 _
    c.in_ok-add_found_members.ensures.reads
    (λ s whole are.
    let linked = is_linked_in any_link_rule IsHeldBy IsValidLinkset schema built _ of.link x
    c.requires.ready lt is _ s are in
    let those = c.in_ok-add_found_members.ensures.those _ _ _ whole linked c.if-not-branch.false in
    find_listed schema s q of c.in_ok-add_found_members.field-0
    (file_of x.members) _ c.requires.of of_schema.1 c.if-not-branch.false
    (c.in_ok-add_found_members.ensures.there _ _ _ whole linked) is.member_file
    (c.in_ok-sorted_text.ensures (file_in s (link_at schema of.link).member)
    (is_chosen_of (link_in s of.link) of.owner q.conds) those))
    (λ s whole are.
    let linked = is_linked_in any_link_rule IsHeldBy IsValidLinkset schema built _ of.link x
    c.requires.ready lt is _ s are in
    found_within schema built _ s q of (file_of x.members)
    (node_tree x.members) _ _ c.requires.of of_schema.1 is.member_file is.member_tree
    (c.in_ok-add_found_members.ensures.steps _ _ _ (most_with built s (Some of)) whole linked
    (owner_records_most any_link_rule IsHeldBy IsValidLinkset schema built _ x s of c.requires.ready
    lt is are.valid.files_many)
    (member_records_most any_link_rule IsHeldBy IsValidLinkset schema built _ x s of
    c.requires.ready lt is are.valid.files_many)
    (owners_most any_link_rule IsHeldBy IsValidLinkset schema built _ x s of c.requires.ready lt is
    are.valid.links_many)))
