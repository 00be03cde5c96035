use Rattle.std.proofs.Common.{rules, length, [], ◌∷◌, ◌∙◌, ◌++◌, List, ap}
use Rattle.std.specs.Prelude.{option_map, filter}
use Rattle.std.specs.FinMap as fin
use Rattle.gx_values.specs.declared.values.Value.{Value}
use Rattle.gx_stack.specs.Tree.{leaves_of}
use Rattle.gx_stack.specs.Seen.{tree_of}
use Rattle.gx_model.specs.States.{Row}
use Rattle.gx_model.specs.Found.{meets_conds}
use Rattle.gx_scan.specs.Where.{rows_at_key}
use Rattle.gx_scan.proofs.KeyLemmas.{added_at_key, steps_at_key, one_unfiltered, row_values}
use Rattle.gx_scan.proofs.by_key.values_by_entry.Goals as goal

pub returns : goal.returns
returns g c = record {
  found = λ f whole is.
      let key = c.args.key.now in
      let values = fin.get f key in
      let one = option_map (λ (vs : List Value). (key, vs)) values in
      let rows = filter (meets_conds []) (rows_at_key f (key ∷ [])) in
      let storable = c.requires.asked.storable in
      let found = added_at_key c.args.file.now f key c.args.span.now storable.key
      c.requires.asked.fits
      is.fit c.requires.asked.bounds.lo c.requires.asked.bounds.hi [] _ _
      (c.in_ok-add_by_entries.ensures.adds.rows f whole is)
      ∙ ap (λ (before : List Row). before ++ rows) c.new-rows.ensures.items
      ∙ one_unfiltered key values in
      c.last_values.ensures.last one found ∙ row_values key values;
  fits = search rules;
  steps = λ f most whole is few.
      let storable = c.requires.asked.storable in
      steps_at_key c.args.file.now f c.args.key.now c.args.span.now storable.key
      c.requires.asked.fits
      is.fit c.requires.asked.bounds.lo c.requires.asked.bounds.hi
      (length (leaves_of (tree_of c.args.node.now))) most _ _
      (c.in_ok-add_by_entries.ensures.adds.steps f most whole is few);
  reads = search rules;
}
