use Rattle.std.proofs.Common.{rules, arith, append-nil, [], sym, ap, ◌∙◌}
use Rattle.std.proofs.lemmas.Grind.{common_steps}
use Rattle.gx_schema.specs.Lookups.{link_at}
use Rattle.gx_links.specs.Linksets.{LinkRule}
use Rattle.gx_linksets.specs.Any.{any_link_rule, IsHeldBy, IsValidLinkset}
use Rattle.gx_model.specs.States.{file_in, link_in}
use Rattle.gx_states.proofs.StoredLemmas.{is_stored, is_linked_in, have_link}
use Rattle.gx_engine.specs.Records.{most_in}
use Rattle.gx_engine.proofs.RecordLemmas.{no_owner, one_owner, owner_most, member_most, owners_most, appends_stopped, appends_ok}
use Rattle.gx_engine.proofs.records.append_owner.Goals as goal

pub find_owner-requires-clause-stored : goal.find_owner-requires-clause-stored
find_owner-requires-clause-stored g c =
    is_stored any_link_rule IsHeldBy IsValidLinkset c.args.schema.now c.args.built.now _ c.args.link
    c.stored_link-stored.result c.requires.ready c.requires.link c.stored_link-stored.ensures

pub returns-in_err-find_owner : goal.returns-in_err-find_owner
returns-in_err-find_owner g c =
    appends_stopped g.B.View c.args.schema.now c.args.built.now c.args.leaves.now _ _ _ _ _ _
    c.from_residual.result c.from_residual.ensures.1 (λ i. c.args.out.now)
    (λ sound. (
      sound.0,
      have_link any_link_rule IsHeldBy IsValidLinkset c.args.schema.now c.args.built.now _
          c.args.link c.stored_link-stored.result c.requires.ready c.requires.link
          c.stored_link-stored.ensures _ sound.1,
    ))
    c.in_err-find_owner.ensures.reads

pub returns-in-NoMember : goal.returns-in-NoMember
returns-in-NoMember g c =
    let schema = c.args.schema.now in
    let built = c.args.built.now in
    let i = c.args.link in
    let x = c.stored_link-stored.result in
    let is = c.stored_link-stored.ensures in
    let lt = c.requires.link in
    let maps = g.B.View.working c.args.leaves.now in
    appends_ok g.B.View schema built c.args.leaves.now _ c.args.out.now _ _ _ _
    c.in_ok-find_owner.ensures.reads
    (λ s whole are.
    let linked = is_linked_in any_link_rule IsHeldBy IsValidLinkset schema built _ i x
    c.requires.ready lt is maps s are in (
      [],
      no_owner any_link_rule IsHeldBy x maps (file_in s (link_at schema i).owner)
          (file_in s (link_at schema i).member) (link_in s i) c.args.member.now
          c.in_ok-find_owner.field-0 linked c.in-NoMember.is
          (c.in_ok-find_owner.ensures.found _ _ _ whole linked),
      sym (append-nil c.args.out.now),
    ))
    (λ yes s whole are.
    let linked = is_linked_in any_link_rule IsHeldBy IsValidLinkset schema built _ i x
    c.requires.ready lt is maps s are in
    c.in_ok-find_owner.ensures.steps (ap (λ (r : LinkRule). r.finds) is.rule_is ∙ yes) _ _ _
    (most_in built s) whole linked
    (owner_most any_link_rule IsHeldBy IsValidLinkset schema built _ i x s maps c.requires.ready lt
    is are)
    (member_most any_link_rule IsHeldBy IsValidLinkset schema built _ i x s maps c.requires.ready lt
    is are)
    (owners_most any_link_rule IsHeldBy IsValidLinkset schema built _ i x s maps c.requires.ready lt
    is are))

pub returns-in_ok-push-in-By : goal.returns-in_ok-push-in-By
returns-in_ok-push-in-By g c =
    let schema = c.args.schema.now in
    let built = c.args.built.now in
    let i = c.args.link in
    let x = c.stored_link-stored.result in
    let is = c.stored_link-stored.ensures in
    let lt = c.requires.link in
    let maps = g.B.View.working c.args.leaves.now in
    appends_ok g.B.View schema built c.args.leaves.now _ c.args.out.now _ _ _ _
    c.in_ok-find_owner.ensures.reads
    (λ s whole are.
    let linked = is_linked_in any_link_rule IsHeldBy IsValidLinkset schema built _ i x
    c.requires.ready lt is maps s are in
    one_owner any_link_rule IsHeldBy x maps (file_in s (link_at schema i).owner)
    (file_in s (link_at schema i).member) (link_in s i) c.args.member.now
    c.in_ok-find_owner.field-0 c.in-By.record c.args.out.now _ c.in-By.is
    (first_of (search rules, grind (arith, common_steps)))
    (c.in_ok-find_owner.ensures.found _ _ _ whole linked))
    (λ yes s whole are.
    let linked = is_linked_in any_link_rule IsHeldBy IsValidLinkset schema built _ i x
    c.requires.ready lt is maps s are in
    c.in_ok-find_owner.ensures.steps (ap (λ (r : LinkRule). r.finds) is.rule_is ∙ yes) _ _ _
    (most_in built s) whole linked
    (owner_most any_link_rule IsHeldBy IsValidLinkset schema built _ i x s maps c.requires.ready lt
    is are)
    (member_most any_link_rule IsHeldBy IsValidLinkset schema built _ i x s maps c.requires.ready lt
    is are)
    (owners_most any_link_rule IsHeldBy IsValidLinkset schema built _ i x s maps c.requires.ready lt
    is are))
