use Rattle.std.proofs.Common.{rules, ◌∙◌, List, sym, subst, refl}
use Rattle.std.specs.Prelude.{IfSome}
use Rattle.std.specs.Option.{option_map}
use Rattle.std.specs.FinMap as fin
use Rattle.std.proofs.lemmas.Option.{same_Some}
use Rattle.gx_values.specs.declared.values.Value.{Value}
use Rattle.gx_values.specs.Values.{AreFit}
use Rattle.gx_schema.specs.Lookups.{data_fields}
use Rattle.gx_stack.specs.Seen.{tree_of}
use Rattle.gx_stack.proofs.PassLemmas.{leaf_passes, reads_stopped}
use Rattle.gx_scan.proofs.KeyLemmas.{row_values}
use Rattle.gx_scan.proofs.PieceLemmas.{pieces_there, one_fits, one_pieces, one_steps}
use Rattle.gx_scan.proofs.by_pieces.values_by_pieces.Goals as goal

pub select-requires : goal.select-requires
select-requires g c =
    let pieces = c.args.pieces.now in
    c.requires.asked.tree.below pieces.leaf
    (pieces_there (tree_of c.args.node.now) pieces c.requires.pieces)

pub values_of_pieces-requires-clause-some : goal.values_of_pieces-requires-clause-some
values_of_pieces-requires-clause-some g c = c.requires.pieces.some

pub returns-in_default : goal.returns-in_default
returns-in_default g c = record {
  found = λ f whole is. tt;
  fits = tt;
  steps = λ f most whole is few. tt;
  reads = reads_stopped g.B.View _ refl
      (λ sound.
      let file = c.args.file.now in
      let t = tree_of c.args.node.now in
      let pieces = c.args.pieces.now in
      let key = c.args.key.now in
      let span = c.args.span.now in
      let maps = g.B.View.working c.args.leaves.now in
      let f = sound.1.0 in
      let is = sound.1.1 in
      let fits = one_fits file t pieces _ maps f c.requires.asked.storable c.requires.asked.tree is
      c.requires.pieces key span c.requires.asked.fits c.requires.asked.bounds.lo
      c.requires.asked.bounds.hi in
      let all = one_pieces file t pieces _ maps f c.requires.asked.storable c.requires.asked.tree is
      c.requires.pieces key span c.requires.asked.fits c.requires.asked.bounds.lo
      c.requires.asked.bounds.hi
      c.new-entries.result c.select.new.out c.new-entries.ensures
      (c.in_ok-select.ensures.ok sound.0) in
      let one = option_map (λ (vs : List Value). (key, vs)) (fin.get f key) in
      let found = c.in_ok-values.ensures.read one fits all in
      let none = c.in_default.is in
      cc)
      (leaf_passes g.B.View c.in_ok-select.ensures.reads);
}

pub returns : goal.returns
returns g c = record {
  found = λ f whole is.
      let file = c.args.file.now in
      let t = tree_of c.args.node.now in
      let pieces = c.args.pieces.now in
      let key = c.args.key.now in
      let span = c.args.span.now in
      let maps = g.B.View.working c.args.leaves.now in
      let fits = one_fits file t pieces _ maps f c.requires.asked.storable c.requires.asked.tree is
      c.requires.pieces key span c.requires.asked.fits c.requires.asked.bounds.lo
      c.requires.asked.bounds.hi in
      let all = one_pieces file t pieces _ maps f c.requires.asked.storable c.requires.asked.tree is
      c.requires.pieces key span c.requires.asked.fits c.requires.asked.bounds.lo
      c.requires.asked.bounds.hi
      c.new-entries.result c.select.new.out c.new-entries.ensures
      (c.in_ok-select.ensures.ok whole) in
      let one = option_map (λ (vs : List Value). (key, vs)) (fin.get f key) in
      let found = c.in_ok-values.ensures.read one fits all in
      same_Some c.in-Some.values _ (sym c.in-Some.is ∙ found) ∙ row_values key (fin.get f key);
  fits = subst (λ o. IfSome o (λ values. IfSome values (AreFit (data_fields c.args.file.now))))
      c.in-Some.is c.in_ok-values.ensures.fits;
  steps = λ f most whole is few.
      one_steps c.args.file.now (tree_of c.args.node.now) c.args.pieces.now _
      (g.B.View.working c.args.leaves.now) f c.requires.asked.storable c.requires.asked.tree is
      c.requires.pieces c.args.key.now c.args.span.now c.requires.asked.fits
      c.requires.asked.bounds.lo
      c.requires.asked.bounds.hi
      c.new-entries.result c.select.new.out c.new-entries.ensures
      (c.in_ok-select.ensures.ok whole) most _ _ few c.in_ok-select.ensures.steps;
  reads = search rules;
}
