use Rattle.std.proofs.Common.{rules, ◌+◌, ◌*◌, ◌≤◌, Some, [], length, refl, sym, arith, append-nil}
use Rattle.std.specs.Prelude.{filter}
use Rattle.std.specs.FinMap as fin
use Rattle.std.specs.List.Sorted.{IsPermutation}
use Rattle.gx_commands.specs.Commands.{IsCondOf}
use Rattle.gx_stack.specs.Tree.{leaves_of}
use Rattle.gx_stack.specs.Seen.{tree_of}
use Rattle.gx_model.specs.Found.{meets_conds}
use Rattle.gx_model.specs.States.{IsRowOf}
use Rattle.gx_scan.specs.Steps.{rows_with}
use Rattle.gx_scan.specs.Where.{AreAddedWhere}
use Rattle.gx_scan.proofs.CallLemmas.{ok_alone}
use Rattle.gx_scan.proofs.SelectLemmas.{none_added}
use Rattle.gx_scan.proofs.WhereLemmas.{data_spanned, covered_where}
use Rattle.gx_finds.specs.Looked.{rows_meeting}
use Rattle.gx_finds.proofs.StepLemmas.{fields_within, index_steps}
use Rattle.gx_finds.proofs.SpanLemmas.{field_covered, none_meets}
use Rattle.gx_finds.proofs.by_index.add_by_index.Goals as goal
use Rattle.gx_mapping.proofs.RuleLemmas.{all_in}

pub span_of_conditions-requires-clause-in_file : goal.span_of_conditions-requires-clause-in_file
span_of_conditions-requires-clause-in_file g c =
    (all_in (IsCondOf c.args.file.now) c.args.conds.now c.args.cond.now c.requires.fit
    c.requires.there).in_file

pub span_of_conditions-requires-clause-kind : goal.span_of_conditions-requires-clause-kind
span_of_conditions-requires-clause-kind g c =
    data_spanned c.args.file.now c.args.cond.now.field c.requires.storable c.requires.past_key
    (all_in (IsCondOf c.args.file.now) c.args.conds.now c.args.cond.now c.requires.fit
    c.requires.there).in_file

pub rows_where-requires-clause-in_file : goal.rows_where-requires-clause-in_file
rows_where-requires-clause-in_file g c =
    (all_in (IsCondOf c.args.file.now) c.args.conds.now c.args.cond.now c.requires.fit
    c.requires.there).in_file

pub returns-in-Some : goal.returns-in-Some
returns-in-Some g c = record {
  rows = λ f whole is.
      let file = c.args.file.now in
      let cond = c.args.cond.now in
      let conds = c.args.conds.now in
      let span = c.in-Some.span in
      let before = c.args.rows.now.items in
      let now = c.rows_where.new.rows.items in
      let lt = (all_in (IsCondOf file) conds cond c.requires.fit c.requires.there).in_file in
      ok_alone c.rows_where.result (AreAddedWhere cond.field span conds f before now)
      (IsPermutation (filter (meets_conds conds) (fin.entries f)) now)
      (c.rows_where.ensures.rows f whole is)
      (λ added. covered_where cond.field span conds f before now
      (λ r h met. field_covered file cond.field conds span r lt c.in-Some.ensures.meets
      (all_in (IsRowOf file) (fin.entries f) r is.fit h) met) c.requires.none added);
  steps = λ f most whole is few.
      let b = g.B.View in
      let file = c.args.file.now in
      let cond = c.args.cond.now in
      let conds = c.args.conds.now in
      let span = c.in-Some.span in
      let leaves = length (leaves_of (tree_of c.args.node.now)) in
      let before = b.work c.args.leaves.now in
      let after = b.work c.rows_where.new.leaves in
      let found = length (rows_with cond.field span f) in
      let count = length (rows_meeting (Some cond) f) in
      let lt = (all_in (IsCondOf file) conds cond c.requires.fit c.requires.there).in_file in
      ok_alone c.rows_where.result (after ≤ before + ((found + 1) * leaves + 2 * (found * most)))
      (after ≤ before + ((count + 1) * leaves + 2 * (count * most)))
      (c.rows_where.ensures.steps f most whole is few)
      (index_steps count most leaves before after found
      (fields_within file cond conds span f c.requires.there c.requires.op lt
      c.in-Some.ensures.meets is.fit));
  front = c.rows_where.ensures.front;
  reads = c.rows_where.ensures.reads;
}

pub returns-in-None : goal.returns-in-None
returns-in-None g c = record {
  rows = λ f whole is.
      let file = c.args.file.now in
      let cond = c.args.cond.now in
      let conds = c.args.conds.now in
      let lt = (all_in (IsCondOf file) conds cond c.requires.fit c.requires.there).in_file in
      none_added (meets_conds conds) f c.args.rows.now.items
      (λ r h. none_meets file cond.field conds r lt (c.in-None.ensures.nothing refl)
      (all_in (IsRowOf file) (fin.entries f) r is.fit h)) c.requires.none;
  steps = λ f most whole is few. omega arith;
  front = ([], sym (append-nil c.args.rows.now.items));
  reads = search rules;
}
