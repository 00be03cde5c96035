use Rattle.std.proofs.Common.{[], sym, ◌∙◌, append-nil}
use Rattle.gx_schema.specs.Lookups.{link_at}
use Rattle.gx_linksets.specs.Any.{any_link_rule, IsHeldBy, IsValidLinkset}
use Rattle.gx_model.specs.States.{file_in, link_in}
use Rattle.gx_states.proofs.StoredLemmas.{is_stored, is_linked_in, have_link}
use Rattle.gx_engine.specs.Records.{most_in}
use Rattle.gx_pairs.specs.Members.{is_member_of}
use Rattle.gx_engine.proofs.RecordLemmas.{listed_by_key, no_members, owner_most, member_most, owners_most, appends_stopped, appends_ok}
use Rattle.gx_engine.proofs.records.append_members.Goals as goal

pub add_members-requires-clause-stored : goal.add_members-requires-clause-stored
add_members-requires-clause-stored g c =
    is_stored any_link_rule IsHeldBy IsValidLinkset c.args.schema.now c.args.built.now _ c.args.link
    c.stored_link-stored.result c.requires.ready c.requires.link c.stored_link-stored.ensures

pub returns-in_err-add_members : goal.returns-in_err-add_members
returns-in_err-add_members g c =
    appends_stopped g.B.View c.args.schema.now c.args.built.now c.args.leaves.now _ _ _ _ _ _
    c.from_residual.result c.from_residual.ensures.1 (λ i. c.args.out.now)
    (λ sound. (
      sound.0,
      have_link any_link_rule IsHeldBy IsValidLinkset c.args.schema.now c.args.built.now _
          c.args.link c.stored_link-stored.result c.requires.ready c.requires.link
          c.stored_link-stored.ensures _ sound.1,
    ))
    c.in_err-add_members.ensures.reads

pub returns-then-not-branch : goal.returns-then-not-branch
returns-then-not-branch g c =
    let schema = c.args.schema.now in
    let built = c.args.built.now in
    let i = c.args.link in
    let owner = c.args.owner.now in
    let x = c.stored_link-stored.result in
    let is = c.stored_link-stored.ensures in
    let lt = c.requires.link in
    let maps = g.B.View.working c.args.leaves.now in
    appends_ok g.B.View schema built c.args.leaves.now _ c.args.out.now _ _ _ _
    c.in_ok-add_members.ensures.reads
    (λ s whole are.
    let linked = is_linked_in any_link_rule IsHeldBy IsValidLinkset schema built _ i x
    c.requires.ready lt is maps s are in (
      [],
      no_members (file_in s (link_at schema i).owner) (file_in s (link_at schema i).member)
          (link_in s i) owner linked.there
          (sym (c.in_ok-add_members.ensures.there _ _ _ whole linked) ∙ c.if-not-branch.true),
      sym (append-nil c.args.out.now),
    ))
    (λ yes s whole are.
    let linked = is_linked_in any_link_rule IsHeldBy IsValidLinkset schema built _ i x
    c.requires.ready lt is maps s are in
    c.in_ok-add_members.ensures.steps _ _ _ (most_in built s) whole linked
    (owner_most any_link_rule IsHeldBy IsValidLinkset schema built _ i x s maps c.requires.ready lt
    is are)
    (member_most any_link_rule IsHeldBy IsValidLinkset schema built _ i x s maps c.requires.ready lt
    is are)
    (owners_most any_link_rule IsHeldBy IsValidLinkset schema built _ i x s maps c.requires.ready lt
    is are))

pub returns : goal.returns
returns g c =
    let schema = c.args.schema.now in
    let built = c.args.built.now in
    let i = c.args.link in
    let owner = c.args.owner.now in
    let x = c.stored_link-stored.result in
    let is = c.stored_link-stored.ensures in
    let lt = c.requires.link in
    let maps = g.B.View.working c.args.leaves.now in
    appends_ok g.B.View schema built c.args.leaves.now _ c.args.out.now _ _ _ _
    c.in_ok-add_members.ensures.reads
    (λ s whole are.
    let linked = is_linked_in any_link_rule IsHeldBy IsValidLinkset schema built _ i x
    c.requires.ready lt is maps s are in
    let members = file_in s (link_at schema i).member in
    let those = c.in_ok-add_members.ensures.those _ _ _ whole linked c.if-not-branch.false in (
      c.sort_rows.new.rows.items,
      listed_by_key members (is_member_of (link_in s i) owner) c.sort_rows.new.rows.items
          (c.in_ok-sort_rows.ensures.listed members (is_member_of (link_in s i) owner) those),
      c.in_ok-append_rows.ensures.ok,
    ))
    (λ yes s whole are.
    let linked = is_linked_in any_link_rule IsHeldBy IsValidLinkset schema built _ i x
    c.requires.ready lt is maps s are in
    c.in_ok-add_members.ensures.steps _ _ _ (most_in built s) whole linked
    (owner_most any_link_rule IsHeldBy IsValidLinkset schema built _ i x s maps c.requires.ready lt
    is are)
    (member_most any_link_rule IsHeldBy IsValidLinkset schema built _ i x s maps c.requires.ready lt
    is are)
    (owners_most any_link_rule IsHeldBy IsValidLinkset schema built _ i x s maps c.requires.ready lt
    is are))
