use Rattle.std.proofs.Common.{◌<◌, ◌+◌, ◌∙◌, ap, sym, subst, length}
use Rattle.std.specs.Option.{option_map}
use Rattle.std.proofs.lemmas.Result.{on_ok_weaker}
use Rattle.gx_ports.specs.LeafMaps.{map_at, entry_count, IsCrowdedBy}
use Rattle.gx_mapping.specs.Rule.{In}
use Rattle.std.specs.FinMap.{remove}
use Rattle.gx_links.specs.Links.{members_of}
use Rattle.gx_links.specs.Linksets.{CanDisconnect}
use Rattle.gx_links.specs.Rows.{IsHeldLink, two_nodes, owner_kind, member_kind}
use Rattle.gx_stack.specs.Tree.{leaves_of, tree_form}
use Rattle.gx_stack.specs.Seen.{tree_of}
use Rattle.gx_ring.specs.Ring.{ring_rule, ring_rows}
use Rattle.gx_ring.specs.Places.{before_in, next_in}
use Rattle.gx_ring.specs.Steps.{leading}
use Rattle.gx_links.specs.Changes.{FitsChange, reversed}
use Rattle.gx_stack.proofs.PassLemmas.{read_passes, ends_after}
use Rattle.gx_ring.proofs.FoundLemmas.{nexts_below}
use Rattle.gx_ring.proofs.ComeLemmas.{key_value_of, key_value_if, leading_below, lead_fits, own_fits}
use Rattle.gx_ring.proofs.AskLemmas.{others_fit, others_are, beside_fit, disconnected, disconnect_full}
use Rattle.gx_ring.proofs.ring.RingLinkset.disconnect_from.Goals as goal

pub own_change-requires-clause-next : goal.own_change-requires-clause-next
own_change-requires-clause-next g c =
    let same = c.deref.ensures.value ∙ c.others.view_is in
    let fit = others_fit _ _ _ _ _ _ _ _ _ _ _ c.in_ok-members.ensures.found c.new.ensures.items
    c.without-others.ensures in
    let beside = beside_fit (member_kind g.M.Mapping.rule (tree_of c.args.self.now.chain.now)) _
    c.args.member.now _ _ (c.neighbours_of-at.ensures.before
    ∙ ap (λ ms. before_in ms c.args.member.now) same)
    (c.neighbours_of-at.ensures.next ∙ ap (λ ms. next_in ms c.args.member.now) same) fit in
    key_value_if (member_kind g.M.Mapping.rule (tree_of c.args.self.now.chain.now)) _
    c.requires.valid.member beside.1

pub lead_change-requires-clause-owner : goal.lead_change-requires-clause-owner
lead_change-requires-clause-owner g c =
    key_value_of (owner_kind g.M.Mapping.rule (tree_of c.args.self.now.heads.now)) c.args.owner.now
    c.requires.valid.owner c.requires.owner

pub lead_change-requires-clause-member : goal.lead_change-requires-clause-member
lead_change-requires-clause-member g c =
    key_value_of (member_kind g.M.Mapping.rule (tree_of c.args.self.now.chain.now))
    c.args.member.now c.requires.valid.member c.requires.member

pub lead_change-requires-clause-next : goal.lead_change-requires-clause-next
lead_change-requires-clause-next g c =
    let same = c.deref.ensures.value ∙ c.others.view_is in
    let fit = others_fit _ _ _ _ _ _ _ _ _ _ _ c.in_ok-members.ensures.found c.new.ensures.items
    c.without-others.ensures in
    let beside = beside_fit (member_kind g.M.Mapping.rule (tree_of c.args.self.now.chain.now)) _
    c.args.member.now _ _ (c.neighbours_of-at.ensures.before
    ∙ ap (λ ms. before_in ms c.args.member.now) same)
    (c.neighbours_of-at.ensures.next ∙ ap (λ ms. next_in ms c.args.member.now) same) fit in
    key_value_if (member_kind g.M.Mapping.rule (tree_of c.args.self.now.chain.now)) _
    c.requires.valid.member beside.1

pub replace_both-requires-clause-first_below : goal.replace_both-requires-clause-first_below
replace_both-requires-clause-first_below g c = λ n h. subst (λ ms. n < length ms)
    (sym c.in_ok-members.ensures.reads.reads.working) (c.requires.below n
    (nexts_below g.M.Mapping.rule (tree_of c.args.self.now.heads.now)
    (tree_of c.args.self.now.chain.now) c.requires.valid n h))

pub replace_both-requires-clause-second_below : goal.replace_both-requires-clause-second_below
replace_both-requires-clause-second_below g c = λ n h. subst (λ ms. n < length ms)
    (sym c.in_ok-members.ensures.reads.reads.working) (c.requires.below n
    (leading_below g.M.Mapping.rule (tree_of c.args.self.now.heads.now)
    (tree_of c.args.self.now.chain.now) c.requires.valid
    (option_map (λ v. v.now) c.neighbours_of-at.result.before) n
    (subst (λ t. In n (leaves_of t)) c.leading.ensures h)))

pub replace_both-requires-clause-first_fits : goal.replace_both-requires-clause-first_fits
replace_both-requires-clause-first_fits g c =
    let same = c.deref.ensures.value ∙ c.others.view_is in
    let fit = others_fit _ _ _ _ _ _ _ _ _ _ _ c.in_ok-members.ensures.found c.new.ensures.items
    c.without-others.ensures in
    let beside = beside_fit (member_kind g.M.Mapping.rule (tree_of c.args.self.now.chain.now)) _
    c.args.member.now _ _ (c.neighbours_of-at.ensures.before
    ∙ ap (λ ms. before_in ms c.args.member.now) same)
    (c.neighbours_of-at.ensures.next ∙ ap (λ ms. next_in ms c.args.member.now) same) fit in
    let fits = own_fits g.M.Mapping.rule (tree_of c.args.self.now.heads.now)
    (tree_of c.args.self.now.chain.now) c.requires.valid c.args.owner.now c.args.member.now
    c.requires.owner c.requires.member _ beside.1 in
    subst (FitsChange (tree_form g.M.Mapping.rule (tree_of c.args.self.now.chain.now)))
    (sym (c.reversed-own.ensures ∙ ap reversed c.in_ok-own_change.ensures)) (fits.1, fits.0)

pub replace_both-requires-clause-second_fits : goal.replace_both-requires-clause-second_fits
replace_both-requires-clause-second_fits g c =
    let same = c.deref.ensures.value ∙ c.others.view_is in
    let fit = others_fit _ _ _ _ _ _ _ _ _ _ _ c.in_ok-members.ensures.found c.new.ensures.items
    c.without-others.ensures in
    let beside = beside_fit (member_kind g.M.Mapping.rule (tree_of c.args.self.now.chain.now)) _
    c.args.member.now _ _ (c.neighbours_of-at.ensures.before
    ∙ ap (λ ms. before_in ms c.args.member.now) same)
    (c.neighbours_of-at.ensures.next ∙ ap (λ ms. next_in ms c.args.member.now) same) fit in
    let fits = lead_fits g.M.Mapping.rule (tree_of c.args.self.now.heads.now)
    (tree_of c.args.self.now.chain.now) c.requires.valid c.args.owner.now c.args.member.now
    c.requires.owner c.requires.member _ _ beside.0 beside.1 in
    subst (λ t. FitsChange (tree_form g.M.Mapping.rule t) c.reversed-lead.result)
    (sym c.leading.ensures)
    (subst (FitsChange (tree_form g.M.Mapping.rule (leading (tree_of c.args.self.now.heads.now)
    (tree_of c.args.self.now.chain.now) (option_map (λ v. v.now)
    c.neighbours_of-at.result.before)))) (sym (c.reversed-lead.ensures
    ∙ ap reversed c.in_ok-lead_change.ensures)) (fits.1, fits.0))

pub returns-clause-disconnected : goal.returns-clause-disconnected
returns-clause-disconnected g c = λ link whole can.
    let same = c.deref.ensures.value ∙ c.others.view_is in
    let can_half = subst (λ ms. CanDisconnect (ring_rule g.M.Mapping.rule
    (tree_of c.args.self.now.heads.now) (tree_of c.args.self.now.chain.now))
    (IsHeldLink g.M.Mapping.rule (two_nodes (tree_of c.args.self.now.heads.now)
    (tree_of c.args.self.now.chain.now)) ring_rows) ms link c.args.owner.now c.args.member.now)
    (sym c.in_ok-members.ensures.reads.reads.working) can in
    let are = others_are _ _ _ _ _ _ _ _ _ _ _ c.in_ok-members.ensures.found c.new.ensures.items
    c.without-others.ensures whole link can.is_link can.is_held in
    on_ok_weaker c.replace_both.result (λ a. disconnected g.M.Mapping.rule
    (tree_of c.args.self.now.heads.now) (tree_of c.args.self.now.chain.now) c.requires.valid
    c.args.owner.now c.args.member.now c.requires.owner c.requires.member _ _ _
    (c.neighbours_of-at.ensures.before ∙ ap (λ ms. before_in ms c.args.member.now) same)
    (c.neighbours_of-at.ensures.next ∙ ap (λ ms. next_in ms c.args.member.now) same)
    (tree_of c.leading.result.now) c.leading.ensures _ _
    (c.reversed-lead.ensures ∙ ap reversed c.in_ok-lead_change.ensures)
    (c.reversed-own.ensures ∙ ap reversed c.in_ok-own_change.ensures) link _ can_half are _ a)
    (c.replace_both.ensures.changed (c.in_ok-members.ensures.reads.ends.whole whole))

pub returns-clause-others : goal.returns-clause-others
returns-clause-others g c = λ n whole fault away.
    c.replace_both.ensures.others n (c.in_ok-members.ensures.reads.ends.whole whole) fault
    (λ h. away (nexts_below g.M.Mapping.rule (tree_of c.args.self.now.heads.now)
    (tree_of c.args.self.now.chain.now) c.requires.valid n h))
    (λ h. away (leading_below g.M.Mapping.rule (tree_of c.args.self.now.heads.now)
    (tree_of c.args.self.now.chain.now) c.requires.valid
    (option_map (λ v. v.now) c.neighbours_of-at.result.before) n
    (subst (λ t. In n (leaves_of t)) c.leading.ensures h)))
    ∙ ap (λ ms. map_at ms n) c.in_ok-members.ensures.reads.reads.working

pub returns-clause-ends : goal.returns-clause-ends
returns-clause-ends g c =
    ends_after g.B.View c.replace_both.result (read_passes g.B.View c.in_ok-members.ensures.reads)
    (λ s. c.in_ok-members.ensures.reads.ends.whole s.0) c.replace_both.ensures.ends

pub returns-clause-full : goal.returns-clause-full
returns-clause-full g c = λ link whole can is.
    let same = c.deref.ensures.value ∙ c.others.view_is in
    let can_half = subst (λ ms. CanDisconnect (ring_rule g.M.Mapping.rule
    (tree_of c.args.self.now.heads.now) (tree_of c.args.self.now.chain.now))
    (IsHeldLink g.M.Mapping.rule (two_nodes (tree_of c.args.self.now.heads.now)
    (tree_of c.args.self.now.chain.now)) ring_rows) ms link c.args.owner.now c.args.member.now)
    (sym c.in_ok-members.ensures.reads.reads.working) can in
    let are = others_are _ _ _ _ _ _ _ _ _ _ _ c.in_ok-members.ensures.found c.new.ensures.items
    c.without-others.ensures whole link can.is_link can.is_held in
    let full = disconnect_full g.M.Mapping.rule (tree_of c.args.self.now.heads.now)
    (tree_of c.args.self.now.chain.now) c.requires.valid c.args.owner.now c.args.member.now
    c.requires.owner c.requires.member _ _ _ (c.neighbours_of-at.ensures.before
    ∙ ap (λ ms. before_in ms c.args.member.now) same)
    (c.neighbours_of-at.ensures.next ∙ ap (λ ms. next_in ms c.args.member.now) same)
    (tree_of c.leading.result.now) c.leading.ensures _ _
    (c.reversed-lead.ensures ∙ ap reversed c.in_ok-lead_change.ensures)
    (c.reversed-own.ensures ∙ ap reversed c.in_ok-own_change.ensures) link _ can_half are _
    (c.replace_both.ensures.full (c.in_ok-members.ensures.reads.ends.whole whole) is) in
    let more = length ((ring_rule g.M.Mapping.rule (tree_of c.args.self.now.heads.now)
    (tree_of c.args.self.now.chain.now)).entries c.args.owner.now
    (members_of (remove link c.args.member.now) c.args.owner.now)) in
    subst (λ ms. IsCrowdedBy (g.B.View.limit c.args.leaves.now) (entry_count ms + more))
    c.in_ok-members.ensures.reads.reads.working
    (subst (λ l. IsCrowdedBy l (entry_count (g.B.View.working c.members.new.leaves) + more))
    c.in_ok-members.ensures.reads.reads.limit full)
