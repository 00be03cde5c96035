use Rattle.std.proofs.Common.{rules, ◌∙◌, ◌++◌, List, sym, ap, subst, arith}
use Rattle.gx_values.specs.declared.records.Rec.{Rec}
use Rattle.gx_stack.specs.Internal.{IsSet}
use Rattle.gx_stack.specs.Selected.{IsKeySpan}
use Rattle.gx_scan.specs.Files.{file_records}
use Rattle.gx_scan.specs.Records.{record_at}
use Rattle.gx_stack.specs.Seen.{tree_of}
use Rattle.gx_stack.proofs.PassLemmas.{reads_given}
use Rattle.gx_scan.proofs.FileLemmas.{span_of_key, set_of, one_found}
use Rattle.gx_scan.proofs.StepLemmas.{one_total}
use Rattle.gx_scan.proofs.records.record_inside.Goals as goal

pub select-requires-clause-span : goal.select-requires-clause-span
select-requires-clause-span g c =
    subst (λ form. IsKeySpan form c.args.span.now) (sym c.requires.asked.tree.form)
    (span_of_key c.args.file.now c.args.key.now c.args.span.now c.requires.asked.storable.keyed
    c.requires.asked.storable.key c.requires.asked.fits c.requires.asked.bounds.lo
    c.requires.asked.bounds.hi)

pub returns-in_err-select : goal.returns-in_err-select
returns-in_err-select g c = record {
  found = search rules;
  fits = search rules;
  steps = search rules;
  reads = reads_given g.B.View c.from_residual.result c.from_residual.ensures.1
      (λ sound.
      let f = sound.1.0 in
      let set = subst (λ form. IsSet form (file_records f)) (sym c.requires.asked.tree.form) (set_of
      c.args.file.now f c.requires.asked.storable.keyed sound.1.1.fit) in
      (sound.0, (file_records f, set, sound.1.1.held)))
      c.in_err-select.ensures.reads;
}

pub returns : goal.returns
returns g c = record {
  found = λ f whole is.
      let found = c.in_ok-select.ensures.found in
      let set = subst (λ form. IsSet form (file_records f)) (sym c.requires.asked.tree.form) (set_of
      c.args.file.now f c.requires.asked.storable.keyed is.fit) in
      let one = one_found c.args.file.now f c.args.key.now c.args.span.now found.found
      c.requires.asked.storable.keyed c.requires.asked.storable.key c.requires.asked.fits is.fit
      c.requires.asked.bounds.lo
      c.requires.asked.bounds.hi (found.selected whole (file_records f) set is.held) in
      c.last_record.ensures.last (record_at f c.args.key.now) (found.appended
      ∙ ap (λ (before : List Rec). before ++ found.found) c.new-found.ensures ∙ one);
  fits = search rules;
  steps = λ f most whole is few.
      let found = c.in_ok-select.ensures.found in
      let set = subst (λ form. IsSet form (file_records f)) (sym c.requires.asked.tree.form) (set_of
      c.args.file.now f c.requires.asked.storable.keyed is.fit) in
      let those = found.selected whole (file_records f) set is.held in
      let one = one_found c.args.file.now f c.args.key.now c.args.span.now found.found
      c.requires.asked.storable.keyed c.requires.asked.storable.key c.requires.asked.fits is.fit
      c.requires.asked.bounds.lo
      c.requires.asked.bounds.hi those in
      omega (
        arith,
        found.few_steps,
        one_total (tree_of c.args.node.now) f most
            (record_at f c.args.key.now) found.found one few (λ r h. (those.sound r h).0),
      );
  reads = search rules;
}
