use Rattle.std.proofs.Common.{rules, ◌≡◌, ◌∙◌, ◌+◌, ◌*◌, ◌≤◌, List, Option, Some, None, Bool, true, filter, length, sym, ap, subst}
use Rattle.std.specs.Prelude.{OnOk}
use Rattle.std.specs.FinMap as fin
use Rattle.std.specs.List.{AllByRecursion}
use Rattle.std.specs.List.Sorted.{IsPermutation}
use Rattle.gx_commands.specs.declared.command.Cond.{Cond}
use Rattle.gx_commands.specs.Commands.{IsCondOf}
use Rattle.gx_mapping.specs.Rule.{In}
use Rattle.gx_stack.specs.Tree.{leaves_of}
use Rattle.gx_stack.specs.Seen.{tree_of}
use Rattle.gx_gather.proofs.Lists.{in_at}
use Rattle.gx_planner.specs.Plans.{is_indexed, least_plan}
use Rattle.gx_model.specs.Found.{meets_conds}
use Rattle.gx_scan.specs.Within.{AreAdded}
use Rattle.gx_scan.proofs.CallLemmas.{ok_alone}
use Rattle.gx_scan.proofs.SelectLemmas.{covered_added}
use Rattle.gx_scan.specs.Steps.{rows_inside}
use Rattle.gx_finds.specs.Planned.{fields_indexed}
use Rattle.gx_finds.specs.Looked.{plan_for, condition_of, rows_meeting, step_bound}
use Rattle.gx_finds.proofs.StepLemmas.{condition_by_key, condition_by_index, no_condition, all_meeting, key_within, index_within}
use Rattle.gx_finds.proofs.PlannedLemmas.{by_key, by_index, on_key, on_index, ranked_there, indexed_at}
use Rattle.gx_finds.proofs.listing.add_found.Goals as goal

pub condition_at-on_key-requires : goal.condition_at-on_key-requires
condition_at-on_key-requires g c =
    let by = by_key c.args.find.now c.deref.result.now c.plan.result c.in-Key.number c.in-Key.is
    c.plan.ensures.applies in
    ranked_there c.args.find.now c.deref.result.now by.0 c.in-Key.number by.1

pub add_by_key-requires-clause-fit : goal.add_by_key-requires-clause-fit
add_by_key-requires-clause-fit g c =
    let conds : c.as_slice-conds.result.now ≡ c.args.find.now.conds = search rules in
    subst (λ (cs : List Cond). AllByRecursion (IsCondOf c.args.file.now) cs)
    (sym conds) c.requires.conds

pub add_by_key-requires-clause-there : goal.add_by_key-requires-clause-there
add_by_key-requires-clause-there g c =
    let conds : c.as_slice-conds.result.now ≡ c.args.find.now.conds = search rules in
    subst (In c.condition_at-on_key.result.now) (sym conds)
    (in_at c.condition_at-on_key.result.now c.args.find.now.conds c.in-Key.number
    c.condition_at-on_key.ensures)

pub add_by_key-requires-clause-key : goal.add_by_key-requires-clause-key
add_by_key-requires-clause-key g c =
    let by = by_key c.args.find.now c.deref.result.now c.plan.result c.in-Key.number c.in-Key.is
    c.plan.ensures.applies in
    (on_key c.args.find.now c.deref.result.now by.0 c.in-Key.number c.condition_at-on_key.result.now
    by.1 c.condition_at-on_key.ensures by.2).0

pub add_by_key-requires-clause-op : goal.add_by_key-requires-clause-op
add_by_key-requires-clause-op g c =
    let by = by_key c.args.find.now c.deref.result.now c.plan.result c.in-Key.number c.in-Key.is
    c.plan.ensures.applies in
    (on_key c.args.find.now c.deref.result.now by.0 c.in-Key.number c.condition_at-on_key.result.now
    by.1 c.condition_at-on_key.ensures by.2).1

pub returns-in-Key : goal.returns-in-Key
returns-in-Key g c = record {
  rows = λ f whole is.
      let conds : c.as_slice-conds.result.now ≡ c.args.find.now.conds = search rules in
      subst (λ (cs : List Cond). OnOk c.add_by_key.result
      (IsPermutation (filter (meets_conds cs) (fin.entries f)) c.add_by_key.new.rows.items)) conds
      (c.add_by_key.ensures.rows f whole is);
  steps = λ f most whole is few.
      let b = g.B.View in
      let q = c.args.find.now in
      let t = tree_of c.args.node.now in
      let cond = c.condition_at-on_key.result.now in
      let leaves = length (leaves_of t) in
      let before = b.work c.args.leaves.now in
      let after = b.work c.add_by_key.new.leaves in
      let fields : c.deref.result.now ≡ fields_indexed t c.args.file.now = search rules in
      let plan : plan_for t c.args.file.now q ≡ c.plan.result = ap (least_plan q) (sym fields)
      ∙ sym c.plan.ensures.plan in
      let same : condition_of q (plan_for t c.args.file.now q) ≡ Some cond = ap (condition_of q)
      plan ∙ condition_by_key q c.plan.result c.in-Key.number cond c.in-Key.is
      c.condition_at-on_key.ensures in
      let count = length (rows_meeting (Some cond) f) in
      let all = length (rows_meeting (condition_of q (plan_for t c.args.file.now q)) f) in
      ok_alone c.add_by_key.result (after ≤ before + (leaves + count * most))
      (after ≤ before + step_bound all most leaves) (c.add_by_key.ensures.steps f most whole is few)
      (key_within count most leaves before after all
      (ap (λ (o : Option Cond). length (rows_meeting o f)) (sym same)));
  front = c.add_by_key.ensures.front;
  reads = c.add_by_key.ensures.reads;
}

pub condition_at-on_index-requires : goal.condition_at-on_index-requires
condition_at-on_index-requires g c =
    let by = by_index c.args.find.now c.deref.result.now c.plan.result c.in-Index.number
    c.in-Index.is c.plan.ensures.applies in
    ranked_there c.args.find.now c.deref.result.now by.0 c.in-Index.number by.1

pub add_by_index-requires-clause-fit : goal.add_by_index-requires-clause-fit
add_by_index-requires-clause-fit g c =
    let conds : c.as_slice-conds.result.now ≡ c.args.find.now.conds = search rules in
    subst (λ (cs : List Cond). AllByRecursion (IsCondOf c.args.file.now) cs)
    (sym conds) c.requires.conds

pub add_by_index-requires-clause-there : goal.add_by_index-requires-clause-there
add_by_index-requires-clause-there g c =
    let conds : c.as_slice-conds.result.now ≡ c.args.find.now.conds = search rules in
    subst (In c.condition_at-on_index.result.now) (sym conds)
    (in_at c.condition_at-on_index.result.now c.args.find.now.conds c.in-Index.number
    c.condition_at-on_index.ensures)

pub add_by_index-requires-clause-past_key : goal.add_by_index-requires-clause-past_key
add_by_index-requires-clause-past_key g c =
    let by = by_index c.args.find.now c.deref.result.now c.plan.result c.in-Index.number
    c.in-Index.is c.plan.ensures.applies in
    (on_index c.args.find.now c.deref.result.now by.0 c.in-Index.number
    c.condition_at-on_index.result.now by.1 c.condition_at-on_index.ensures by.2).past_key

pub add_by_index-requires-clause-op : goal.add_by_index-requires-clause-op
add_by_index-requires-clause-op g c =
    let by = by_index c.args.find.now c.deref.result.now c.plan.result c.in-Index.number
    c.in-Index.is c.plan.ensures.applies in
    (on_index c.args.find.now c.deref.result.now by.0 c.in-Index.number
    c.condition_at-on_index.result.now by.1 c.condition_at-on_index.ensures by.2).op

pub add_by_index-requires-clause-indexed : goal.add_by_index-requires-clause-indexed
add_by_index-requires-clause-indexed g c =
    let q = c.args.find.now in
    let by = by_index q c.deref.result.now c.plan.result c.in-Index.number c.in-Index.is
    c.plan.ensures.applies in
    let on = on_index q c.deref.result.now by.0 c.in-Index.number c.condition_at-on_index.result.now
    by.1 c.condition_at-on_index.ensures by.2 in
    let fields : c.deref.result.now ≡ fields_indexed (tree_of c.args.node.now) c.args.file.now =
    search rules in
    indexed_at (tree_of c.args.node.now) c.args.file.now c.condition_at-on_index.result.now.field
    (subst (λ (bs : List Bool). is_indexed bs c.condition_at-on_index.result.now.field ≡ true)
    fields on.indexed_is)

pub returns-in-Index : goal.returns-in-Index
returns-in-Index g c = record {
  rows = λ f whole is.
      let conds : c.as_slice-conds.result.now ≡ c.args.find.now.conds = search rules in
      subst (λ (cs : List Cond). OnOk c.add_by_index.result
      (IsPermutation (filter (meets_conds cs) (fin.entries f)) c.add_by_index.new.rows.items)) conds
      (c.add_by_index.ensures.rows f whole is);
  steps = λ f most whole is few.
      let b = g.B.View in
      let q = c.args.find.now in
      let t = tree_of c.args.node.now in
      let cond = c.condition_at-on_index.result.now in
      let leaves = length (leaves_of t) in
      let before = b.work c.args.leaves.now in
      let after = b.work c.add_by_index.new.leaves in
      let fields : c.deref.result.now ≡ fields_indexed t c.args.file.now = search rules in
      let plan : plan_for t c.args.file.now q ≡ c.plan.result = ap (least_plan q) (sym fields)
      ∙ sym c.plan.ensures.plan in
      let same : condition_of q (plan_for t c.args.file.now q) ≡ Some cond = ap (condition_of q)
      plan ∙ condition_by_index q c.plan.result c.in-Index.number cond c.in-Index.is
      c.condition_at-on_index.ensures in
      let count = length (rows_meeting (Some cond) f) in
      let all = length (rows_meeting (condition_of q (plan_for t c.args.file.now q)) f) in
      ok_alone c.add_by_index.result (after ≤ before + ((count + 1) * leaves + 2 * (count * most)))
      (after ≤ before + step_bound all most leaves)
      (c.add_by_index.ensures.steps f most whole is few)
      (index_within count most leaves before after all
      (ap (λ (o : Option Cond). length (rows_meeting o f)) (sym same)));
  front = c.add_by_index.ensures.front;
  reads = c.add_by_index.ensures.reads;
}

pub returns : goal.returns
returns g c = record {
  rows = λ f whole is.
      let conds : c.as_slice-conds.result.now ≡ c.args.find.now.conds = search rules in
      let span = c.whole_span.result in
      let before = c.args.rows.now.items in
      let now = c.rows_within.new.rows.items in
      let those = λ (cs : List Cond). IsPermutation (filter (meets_conds cs) (fin.entries f)) now in
      subst (λ (cs : List Cond). OnOk c.rows_within.result (those cs)) conds
      (ok_alone c.rows_within.result (AreAdded span c.as_slice-conds.result.now f before now)
      (those c.as_slice-conds.result.now) (c.rows_within.ensures.rows f whole is)
      (λ added. covered_added span c.as_slice-conds.result.now f before now
      (λ r h met. c.whole_span.ensures.all _) c.requires.none added));
  steps = λ f most whole is few.
      let b = g.B.View in
      let q = c.args.find.now in
      let t = tree_of c.args.node.now in
      let leaves = length (leaves_of t) in
      let before = b.work c.args.leaves.now in
      let after = b.work c.rows_within.new.leaves in
      let fields : c.deref.result.now ≡ fields_indexed t c.args.file.now = search rules in
      let plan : plan_for t c.args.file.now q ≡ c.plan.result = ap (least_plan q) (sym fields)
      ∙ sym c.plan.ensures.plan in
      let same : condition_of q (plan_for t c.args.file.now q) ≡ None = ap (condition_of q) plan
      ∙ no_condition q c.plan.result c.in-Link.is in
      let count = length (rows_inside c.whole_span.result f) in
      let all = length (rows_meeting (condition_of q (plan_for t c.args.file.now q)) f) in
      ok_alone c.rows_within.result (after ≤ before + (leaves + count * most))
      (after ≤ before + step_bound all most leaves)
      (c.rows_within.ensures.steps f most whole is few)
      (key_within count most leaves before after all
      (all_meeting c.whole_span.result f c.whole_span.ensures.all
      ∙ ap (λ (o : Option Cond). length (rows_meeting o f)) (sym same)));
  front = c.rows_within.ensures.front;
  reads = c.rows_within.ensures.reads;
}
