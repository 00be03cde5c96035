use Rattle.std.proofs.Common.{rules, ◌≡◌, ◌∙◌, ◌+◌, ◌*◌, ◌≤◌, List, true, length, filter, sym, ap, subst}
use Rattle.std.specs.Prelude.{IfOk}
use Rattle.std.specs.FinMap as fin
use Rattle.std.proofs.lemmas.List.Sorted.{IsPermutation-refl}
use Rattle.std.specs.List.Sorted.{IsPermutation}
use Rattle.gx_commands.specs.declared.command.Cond.{Cond}
use Rattle.gx_gather.proofs.Lists.{in_at}
use Rattle.gx_planner.specs.declared.plans.Plan.TheVariants.{Key, Link as ByLink}
use Rattle.gx_planner.specs.Plans.{Applies, HasRank, least_plan}
use Rattle.gx_pairs.specs.Stored.{file_of, node_tree}
use Rattle.gx_pairs.specs.Members.{is_member_of, is_chosen_of, AreMembersOf, rows_meeting_at}
use Rattle.gx_finds.specs.Planned.{fields_indexed}
use Rattle.gx_finds.specs.Looked.{plan_for}
use Rattle.gx_scan.proofs.CallLemmas.{ok_one, ok_alone}
use Rattle.gx_answers.proofs.FoundLemmas.{gives_key, chosen_at, by_key_steps, by_link_steps, key_is, link_is}
use Rattle.gx_answers.proofs.found_members.add_found_members.Goals as goal

pub returns-in-Some : goal.returns-in-Some
returns-in-Some g c = record {
  there = c.add_member_at.ensures.there;
  those = λ owners members link whole linked.
      let q = c.args.find.now in
      let cond = c.condition_at-cond.result.now in
      let conds : c.as_slice-conds.result.now ≡ q.conds = search rules in
      let key : c.plan.result ≡ Key c.in-Some.number =
      key_is c.plan.result c.in-Some.number (sym c.key_number.ensures ∙ c.in-Some.is) in
      let rank : HasRank q c.deref.result.now 1 c.in-Some.number =
      subst (Applies q c.deref.result.now) key c.plan.ensures.applies in
      let gives = gives_key q c.deref.result.now c.in-Some.number cond rank
      c.condition_at-cond.ensures in
      let there = in_at cond q.conds c.in-Some.number c.condition_at-cond.ensures in
      let found = c.add_member_at.ensures.those owners members link whole linked in
      ok_one c.add_member_at.result _ _ found (λ is more yes'.
      let rows = more yes' ∙ ap (λ (cs : List Cond). filter (is_member_of link c.args.of.now.owner)
      (rows_meeting_at members cs cond.bound)) conds in
      subst (IsPermutation
      (filter (is_chosen_of link c.args.of.now.owner q.conds) (fin.entries members)))
      (chosen_at members link c.args.of.now.owner q.conds cond _ gives there rows)
      (IsPermutation-refl _));
  steps = λ owners members link most whole linked few_o few_m few_l.
      let q = c.args.find.now in
      let x = c.args.stored.now in
      let cond = c.condition_at-cond.result.now in
      let conds : c.as_slice-conds.result.now ≡ q.conds = search rules in
      let fields : c.deref.result.now ≡ fields_indexed (node_tree x.members) (file_of x.members) =
      search rules in
      let plan : plan_for (node_tree x.members) (file_of x.members) q ≡ c.plan.result =
      ap (least_plan q) (sym fields) ∙ sym c.plan.ensures.plan in
      let key : c.plan.result ≡ Key c.in-Some.number =
      key_is c.plan.result c.in-Some.number (sym c.key_number.ensures ∙ c.in-Some.is) in
      let rank : HasRank q c.deref.result.now 1 c.in-Some.number =
      subst (Applies q c.deref.result.now) key c.plan.ensures.applies in
      let gives = gives_key q c.deref.result.now c.in-Some.number cond rank
      c.condition_at-cond.ensures in
      let there = in_at cond q.conds c.in-Some.number c.condition_at-cond.ensures in
      let before = g.B.View.work c.args.leaves.now in
      let after = g.B.View.work c.add_member_at.new.leaves in
      let leaves = length (g.B.View.working c.args.leaves.now) in
      let found = c.add_member_at.ensures.steps owners members link most whole linked few_o few_m
      few_l in
      ok_alone c.add_member_at.result _ _ found (λ steps.
      by_key_steps members link c.args.of.now.owner q
      (plan_for (node_tree x.members) (file_of x.members) q)
      c.in-Some.number cond most leaves before after gives there (plan ∙ key)
      c.condition_at-cond.ensures
      (subst (λ (cs : List Cond). after ≤ before
      + (length (rows_meeting_at members cs cond.bound) + 2) * (most + leaves))
      conds steps));
  reads = c.add_member_at.ensures.reads;
}

pub returns : goal.returns
returns g c = record {
  there = c.add_members.ensures.there;
  those = λ owners members link whole linked.
      let conds : c.as_slice-conds.result.now ≡ c.args.find.now.conds = search rules in
      subst (λ (cs : List Cond). IfOk c.add_members.result
      (λ there. there ≡ true
      → AreMembersOf members link c.args.of.now.owner cs c.add_members.new.rows.items))
      conds (c.add_members.ensures.those owners members link whole linked);
  steps = λ owners members link most whole linked few_o few_m few_l.
      let q = c.args.find.now in
      let x = c.args.stored.now in
      let fields : c.deref.result.now ≡ fields_indexed (node_tree x.members) (file_of x.members) =
      search rules in
      let plan : plan_for (node_tree x.members) (file_of x.members) q ≡ c.plan.result =
      ap (least_plan q) (sym fields) ∙ sym c.plan.ensures.plan in
      let by : c.plan.result ≡ ByLink =
      link_is q c.deref.result.now c.args.of.now c.plan.result c.requires.of c.plan.ensures.plan
      (sym c.key_number.ensures ∙ c.in-None.is) in
      let before = g.B.View.work c.args.leaves.now in
      let after = g.B.View.work c.add_members.new.leaves in
      let leaves = length (g.B.View.working c.args.leaves.now) in
      ok_alone c.add_members.result _ _
      (c.add_members.ensures.steps owners members link most whole linked few_o few_m few_l)
      (λ steps. by_link_steps members link c.args.of.now.owner q
      (plan_for (node_tree x.members) (file_of x.members) q) most leaves before after
      (plan ∙ by) steps);
  reads = c.add_members.ensures.reads;
}
