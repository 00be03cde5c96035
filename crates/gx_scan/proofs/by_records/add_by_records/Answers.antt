use Rattle.std.proofs.Common.{rules, ◌∙◌, ◌++◌, [], List, map, filter, sym, ap, subst, arith, append-nil}
use Rattle.gx_values.specs.declared.records.Rec.{Rec}
use Rattle.gx_mapping.specs.Rule.{In, IsOf}
use Rattle.gx_stack.specs.Internal.{IsSet}
use Rattle.gx_stack.specs.Seen.{tree_of}
use Rattle.gx_stack.specs.Selected.{IsKeySpan}
use Rattle.gx_model.specs.Found.{meets_conds}
use Rattle.gx_scan.specs.Files.{file_records}
use Rattle.gx_scan.specs.Within.{row_of}
use Rattle.gx_stack.proofs.PassLemmas.{reads_given}
use Rattle.gx_scan.proofs.FileLemmas.{set_of}
use Rattle.gx_scan.proofs.SelectLemmas.{selected_added}
use Rattle.gx_scan.proofs.StepLemmas.{inside_total}
use Rattle.gx_scan.proofs.by_records.add_by_records.Goals as goal

pub select-requires-clause-span : goal.select-requires-clause-span
select-requires-clause-span g c =
    subst (λ form. IsKeySpan form c.args.span.now) (sym c.requires.tree.form) c.requires.span

pub add_met-requires-clause-fit : goal.add_met-requires-clause-fit
add_met-requires-clause-fit g c = λ r h.
    let found = c.in_ok-select.ensures.found in
    let all = found.appended ∙ ap (λ (before : List Rec). before ++ found.found) c.new-found.ensures
    in
    subst (λ form. IsOf form r) c.requires.tree.form (found.fit r (subst (In r) all h))

pub returns-in_err-select : goal.returns-in_err-select
returns-in_err-select g c = record {
  rows = search rules;
  steps = search rules;
  front = ([], sym (append-nil c.args.rows.now.items));
  reads =
      reads_given g.B.View c.from_residual.result c.from_residual.ensures.1
      (λ sound.
      let f = sound.1.0 in
      let set = subst (λ form. IsSet form (file_records f)) (sym c.requires.tree.form)
      (set_of c.args.file.now f c.requires.storable.keyed sound.1.1.fit) in
      (sound.0, (file_records f, set, sound.1.1.held)))
      c.in_err-select.ensures.reads;
}

pub returns : goal.returns
returns g c = record {
  rows = λ f whole is.
      let found = c.in_ok-select.ensures.found in
      let set = subst (λ form. IsSet form (file_records f)) (sym c.requires.tree.form)
      (set_of c.args.file.now f c.requires.storable.keyed is.fit) in
      let all = found.appended ∙ ap (λ (before : List Rec). before ++ found.found)
      c.new-found.ensures in
      selected_added f c.args.span.now c.args.conds.now found.found c.args.rows.now.items _
      (found.selected whole (file_records f) set is.held)
      (c.in_ok-add_met.ensures.kept ∙ ap
      (λ (rs : List Rec). c.args.rows.now.items
      ++ filter (meets_conds c.args.conds.now) (map row_of rs)) all);
  steps = λ f most whole is few.
      let found = c.in_ok-select.ensures.found in
      let set = subst (λ form. IsSet form (file_records f)) (sym c.requires.tree.form)
      (set_of c.args.file.now f c.requires.storable.keyed is.fit) in
      omega (
        arith,
        found.few_steps,
        inside_total (tree_of c.args.node.now) f c.args.span.now most
            found.found (found.selected whole (file_records f) set is.held) few,
      );
  front = c.in_ok-add_met.ensures.front;
  reads = search rules;
}
