use Rattle.std.proofs.Common.{rules, ◌∙◌, ℕ, ◌+◌, ◌*◌, ◌≤◌, Some, [], length, refl, sym, subst, arith, append-nil}
use Rattle.std.specs.Prelude.{filter}
use Rattle.std.specs.FinMap as fin
use Rattle.std.specs.List.Sorted.{IsPermutation}
use Rattle.gx_values.specs.Spans.{IsSpanKind, IsValueSpan}
use Rattle.gx_schema.specs.Lookups.{field_at}
use Rattle.gx_commands.specs.Commands.{IsCondOf}
use Rattle.gx_stack.specs.Tree.{leaves_of}
use Rattle.gx_stack.specs.Seen.{tree_of}
use Rattle.gx_model.specs.Found.{meets_conds}
use Rattle.gx_model.specs.States.{IsRowOf}
use Rattle.gx_scan.specs.Steps.{rows_inside}
use Rattle.gx_scan.specs.Within.{AreAdded}
use Rattle.gx_scan.proofs.CallLemmas.{ok_alone}
use Rattle.gx_scan.proofs.SelectLemmas.{covered_added, none_added}
use Rattle.gx_finds.specs.Looked.{rows_meeting}
use Rattle.gx_finds.proofs.StepLemmas.{keys_within, key_steps}
use Rattle.gx_finds.proofs.PlannedLemmas.{span_kind, key_spanned}
use Rattle.gx_finds.proofs.SpanLemmas.{field_covered, key_inside, none_meets}
use Rattle.gx_finds.proofs.by_key.add_by_key.Goals as goal
use Rattle.gx_mapping.proofs.RuleLemmas.{all_in}

pub span_of_conditions-requires-clause-in_file : goal.span_of_conditions-requires-clause-in_file
span_of_conditions-requires-clause-in_file g c =
    (all_in (IsCondOf c.args.file.now) c.args.conds.now c.args.cond.now c.requires.fit
    c.requires.there).in_file

pub span_of_conditions-requires-clause-kind : goal.span_of_conditions-requires-clause-kind
span_of_conditions-requires-clause-kind g c =
    let storable = c.requires.storable in
    subst (λ (n : ℕ). IsSpanKind (field_at c.args.file.now n).kind) (sym c.requires.key)
    (span_kind (field_at c.args.file.now 0).kind storable.key storable.key_small)

pub rows_within-requires-clause-span : goal.rows_within-requires-clause-span
rows_within-requires-clause-span g c =
    key_spanned c.args.file.now c.in-Some.span c.requires.storable.keyed
    (subst (λ (n : ℕ). IsValueSpan (field_at c.args.file.now n).kind c.in-Some.span) c.requires.key
    c.in-Some.ensures.whole)

pub returns-in-Some : goal.returns-in-Some
returns-in-Some g c = record {
  rows = λ f whole is.
      let file = c.args.file.now in
      let conds = c.args.conds.now in
      let cond = c.args.cond.now in
      let span = c.in-Some.span in
      let before = c.args.rows.now.items in
      let now = c.rows_within.new.rows.items in
      let lt = (all_in (IsCondOf file) conds cond c.requires.fit c.requires.there).in_file in
      ok_alone c.rows_within.result (AreAdded span conds f before now)
      (IsPermutation (filter (meets_conds conds) (fin.entries f)) now)
      (c.rows_within.ensures.rows f whole is)
      (λ added. covered_added span conds f before now
      (λ r h met. sym (key_inside span r cond.field c.requires.key)
      ∙ field_covered file cond.field conds span r lt c.in-Some.ensures.meets
      (all_in (IsRowOf file) (fin.entries f) r is.fit h) met) c.requires.none added);
  steps = λ f most whole is few.
      let b = g.B.View in
      let file = c.args.file.now in
      let conds = c.args.conds.now in
      let cond = c.args.cond.now in
      let span = c.in-Some.span in
      let leaves = length (leaves_of (tree_of c.args.node.now)) in
      let before = b.work c.args.leaves.now in
      let after = b.work c.rows_within.new.leaves in
      let lt = (all_in (IsCondOf file) conds cond c.requires.fit c.requires.there).in_file in
      ok_alone c.rows_within.result (after ≤ before + (leaves + length (rows_inside span f) * most))
      (after ≤ before + (leaves + length (rows_meeting (Some cond) f) * most))
      (c.rows_within.ensures.steps f most whole is few)
      (key_steps (length (rows_meeting (Some cond) f)) most leaves before after
      (length (rows_inside span f)) (keys_within file cond conds span f c.requires.there
      c.requires.key c.requires.op lt c.in-Some.ensures.meets is.fit));
  front = c.rows_within.ensures.front;
  reads = c.rows_within.ensures.reads;
}

pub returns-in-None : goal.returns-in-None
returns-in-None g c = record {
  rows = λ f whole is.
      let file = c.args.file.now in
      let conds = c.args.conds.now in
      let cond = c.args.cond.now in
      let lt = (all_in (IsCondOf file) conds cond c.requires.fit c.requires.there).in_file in
      none_added (meets_conds conds) f c.args.rows.now.items
      (λ r h. none_meets file cond.field conds r lt (c.in-None.ensures.nothing refl)
      (all_in (IsRowOf file) (fin.entries f) r is.fit h)) c.requires.none;
  steps = λ f most whole is few. omega arith;
  front = ([], sym (append-nil c.args.rows.now.items));
  reads = search rules;
}
