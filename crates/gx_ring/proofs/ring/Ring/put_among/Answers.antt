use Rattle.std.proofs.Common.{◌≡◌, ◌∙◌, ap, sym, subst}
use Rattle.std.specs.Option.{option_map}
use Rattle.std.proofs.lemmas.Result.{on_ok_weaker}
use Rattle.gx_values.specs.Values.{Fits}
use Rattle.gx_mapping.specs.Rule.{In}
use Rattle.gx_stack.specs.Tree.{leaves_of, tree_form}
use Rattle.gx_stack.specs.Seen.{tree_of}
use Rattle.gx_stack.specs.Internal.{IfThere}
use Rattle.gx_links.specs.Rows.{owner_kind, member_kind}
use Rattle.gx_ring.specs.Records.{IsKeyValue}
use Rattle.gx_ring.specs.Places.{before_in, next_in}
use Rattle.gx_ring.specs.Steps.{leading}
use Rattle.gx_links.specs.Changes.{FitsChange}
use Rattle.gx_ring.proofs.FoundLemmas.{nexts_below}
use Rattle.gx_ring.proofs.ComeLemmas.{key_value_of, before_fits, next_fits, leading_below, lead_fits, own_fits}
use Rattle.gx_ring.proofs.AskLemmas.{connected, connect_full}
use Rattle.gx_ring.proofs.ring.Ring.put_among.Goals as goal

pub lead_change-requires-clause-next : goal.lead_change-requires-clause-next
lead_change-requires-clause-next g c =
    let nexts = tree_of c.args.self.now.chain.now in
    let is : option_map (λ v. v.now) c.neighbours_of-at.result.next ≡ next_in c.args.members.now
    c.args.member.now = c.neighbours_of-at.ensures.next
    ∙ ap (λ ms. next_in ms c.args.member.now) (c.deref.ensures.value ∙ c.members.view_is) in
    subst (λ x. IfThere x IsKeyValue) (sym is)
    (next_fits IsKeyValue c.args.members.now c.args.member.now
    (λ x h. key_value_of (member_kind g.M.Mapping.rule nexts) x c.requires.valid.member
    (c.requires.members x h)))

pub own_change-requires-clause-owner : goal.own_change-requires-clause-owner
own_change-requires-clause-owner g c =
    key_value_of (owner_kind g.M.Mapping.rule (tree_of c.args.self.now.heads.now)) c.args.owner.now
    c.requires.valid.owner c.requires.owner

pub own_change-requires-clause-next : goal.own_change-requires-clause-next
own_change-requires-clause-next g c =
    let nexts = tree_of c.args.self.now.chain.now in
    let is : option_map (λ v. v.now) c.neighbours_of-at.result.next ≡ next_in c.args.members.now
    c.args.member.now = c.neighbours_of-at.ensures.next
    ∙ ap (λ ms. next_in ms c.args.member.now) (c.deref.ensures.value ∙ c.members.view_is) in
    subst (λ x. IfThere x IsKeyValue) (sym is)
    (next_fits IsKeyValue c.args.members.now c.args.member.now
    (λ x h. key_value_of (member_kind g.M.Mapping.rule nexts) x c.requires.valid.member
    (c.requires.members x h)))

pub replace_both-requires-clause-first_below : goal.replace_both-requires-clause-first_below
replace_both-requires-clause-first_below g c =
    let heads = tree_of c.args.self.now.heads.now in
    let nexts = tree_of c.args.self.now.chain.now in
    λ n h. c.requires.below n
    (leading_below g.M.Mapping.rule heads nexts c.requires.valid
    (option_map (λ v. v.now) c.neighbours_of-at.result.before) n
    (subst (λ t. In n (leaves_of t)) c.leading.ensures h))

pub replace_both-requires-clause-second_below : goal.replace_both-requires-clause-second_below
replace_both-requires-clause-second_below g c =
    let heads = tree_of c.args.self.now.heads.now in
    let nexts = tree_of c.args.self.now.chain.now in
    λ n h. c.requires.below n (nexts_below g.M.Mapping.rule heads nexts c.requires.valid n h)

pub replace_both-requires-clause-first_fits : goal.replace_both-requires-clause-first_fits
replace_both-requires-clause-first_fits g c =
    let rule = g.M.Mapping.rule in
    let heads = tree_of c.args.self.now.heads.now in
    let nexts = tree_of c.args.self.now.chain.now in
    let same = c.deref.ensures.value ∙ c.members.view_is in
    let before = option_map (λ v. v.now) c.neighbours_of-at.result.before in
    let next = option_map (λ v. v.now) c.neighbours_of-at.result.next in
    let before_is = c.neighbours_of-at.ensures.before
    ∙ ap (λ ms. before_in ms c.args.member.now) same in
    let next_is = c.neighbours_of-at.ensures.next ∙ ap (λ ms. next_in ms c.args.member.now) same in
    let fit_b : IfThere before (Fits (member_kind rule nexts)) =
    subst (λ x. IfThere x (Fits (member_kind rule nexts))) (sym before_is)
    (before_fits (Fits (member_kind rule nexts)) c.args.members.now c.args.member.now
    c.requires.members) in
    let fit_n : IfThere next (Fits (member_kind rule nexts)) =
    subst (λ x. IfThere x (Fits (member_kind rule nexts))) (sym next_is)
    (next_fits (Fits (member_kind rule nexts)) c.args.members.now c.args.member.now
    c.requires.members) in
    subst (λ t. FitsChange (tree_form rule t) c.in_ok-lead.lead) (sym c.leading.ensures)
    (subst (FitsChange (tree_form rule (leading heads nexts before))) (sym c.in_ok-lead.ensures)
    (lead_fits rule heads nexts c.requires.valid c.args.owner.now c.args.member.now
    c.requires.owner c.requires.member before next fit_b fit_n))

pub replace_both-requires-clause-second_fits : goal.replace_both-requires-clause-second_fits
replace_both-requires-clause-second_fits g c =
    let rule = g.M.Mapping.rule in
    let heads = tree_of c.args.self.now.heads.now in
    let nexts = tree_of c.args.self.now.chain.now in
    let same = c.deref.ensures.value ∙ c.members.view_is in
    let next = option_map (λ v. v.now) c.neighbours_of-at.result.next in
    let next_is = c.neighbours_of-at.ensures.next ∙ ap (λ ms. next_in ms c.args.member.now) same in
    let fit_n : IfThere next (Fits (member_kind rule nexts)) =
    subst (λ x. IfThere x (Fits (member_kind rule nexts))) (sym next_is)
    (next_fits (Fits (member_kind rule nexts)) c.args.members.now c.args.member.now
    c.requires.members) in
    subst (FitsChange (tree_form rule nexts)) (sym c.in_ok-own.ensures)
    (own_fits rule heads nexts c.requires.valid c.args.owner.now c.args.member.now
    c.requires.owner c.requires.member next fit_n)

pub returns : goal.returns
returns g c =
    let rule = g.M.Mapping.rule in
    let b = g.B.View in
    let heads = tree_of c.args.self.now.heads.now in
    let nexts = tree_of c.args.self.now.chain.now in
    let valid = c.requires.valid in
    let m = c.args.member.now in
    let same = c.deref.ensures.value ∙ c.members.view_is in
    let before = option_map (λ v. v.now) c.neighbours_of-at.result.before in
    let next = option_map (λ v. v.now) c.neighbours_of-at.result.next in
    let before_is = c.neighbours_of-at.ensures.before ∙ ap (λ ms. before_in ms m) same in
    let next_is = c.neighbours_of-at.ensures.next ∙ ap (λ ms. next_in ms m) same in
    let both = c.replace_both.ensures in
    record {
      connected = λ link whole can those. on_ok_weaker c.replace_both.result
          (λ a. connected rule heads nexts valid c.args.owner.now m c.requires.owner
          c.requires.member c.args.members.now before next before_is next_is
          (tree_of c.leading.result.now) c.leading.ensures c.in_ok-lead.lead c.in_ok-own.own
          c.in_ok-lead.ensures c.in_ok-own.ensures link (b.working c.args.leaves.now) can those
          (b.working c.replace_both.new.leaves) c.requires.room a)
          (both.changed whole);
      others = λ n whole fault away. both.others n whole fault
          (λ h. away (leading_below rule heads nexts valid before n
          (subst (λ t. In n (leaves_of t)) c.leading.ensures h)))
          (λ h. away (nexts_below rule heads nexts valid n h));
      keeps = both.keeps;
      work = both.work;
      ends = both.ends;
      full = λ link whole can those is. connect_full rule heads nexts valid c.args.owner.now m
          c.requires.owner c.requires.member c.args.members.now before next before_is next_is
          (tree_of c.leading.result.now) c.leading.ensures c.in_ok-lead.lead c.in_ok-own.own
          c.in_ok-lead.ensures c.in_ok-own.ensures link (b.working c.args.leaves.now) can those
          (b.limit c.args.leaves.now) (both.full whole is);
    }
