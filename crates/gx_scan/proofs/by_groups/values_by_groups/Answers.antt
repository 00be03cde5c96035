use Rattle.std.proofs.Common.{rules, ◌<◌, ◌∙◌, List, length, refl, sym, subst}
use Rattle.std.specs.Prelude.{IfSome}
use Rattle.std.specs.Option.{option_map}
use Rattle.std.specs.FinMap as fin
use Rattle.std.proofs.lemmas.Option.{same_Some}
use Rattle.gx_values.specs.declared.values.Value.{Value}
use Rattle.gx_values.specs.Values.{AreFit}
use Rattle.gx_schema.specs.Lookups.{data_fields}
use Rattle.gx_ports.specs.LeafMaps.{LeafMap}
use Rattle.gx_stack.specs.Seen.{tree_of}
use Rattle.gx_stack.proofs.PassLemmas.{passes_joined, leaf_passes, reads_stopped}
use Rattle.gx_scan.proofs.BothLemmas.{one_fits, none_there, steps_first, both_are, steps_both}
use Rattle.gx_scan.proofs.GroupLemmas.{first_there, other_there}
use Rattle.gx_scan.proofs.KeyLemmas.{row_values}
use Rattle.gx_scan.proofs.by_groups.values_by_groups.Goals as goal

pub select-requires : goal.select-requires
select-requires g c =
    let groups = c.args.groups.now in
    c.requires.asked.tree.below groups.first.leaf (first_there (tree_of c.args.node.now) groups
    c.requires.groups)

pub select-requires-2 : goal.select-requires-2
select-requires-2 g c =
    let groups = c.args.groups.now in
    subst (λ (maps : List LeafMap). groups.others.leaf < length maps) (sym
    c.in_ok-select.ensures.reads.reads.working)
    (c.requires.asked.tree.below groups.others.leaf (other_there (tree_of c.args.node.now) groups
    c.requires.groups))

pub returns-then-is_empty : goal.returns-then-is_empty
returns-then-is_empty g c = record {
  found = λ f whole is.
      none_there c.args.file.now (tree_of c.args.node.now) c.args.groups.now _
      (g.B.View.working c.args.leaves.now) f c.requires.asked.storable c.requires.asked.tree is
      c.requires.groups c.args.key.now c.args.span.now c.requires.asked.fits
      c.requires.asked.bounds.lo
      c.requires.asked.bounds.hi
      c.new-entries.result c.select.new.out c.new-entries.ensures
      (c.in_ok-select.ensures.ok whole) (c.is_empty.ensures.0 c.if-is_empty.true);
  fits = tt;
  steps = λ f most whole is few.
      steps_first c.args.file.now (tree_of c.args.node.now) c.args.groups.now _
      (g.B.View.working c.args.leaves.now) f c.requires.asked.storable c.requires.asked.tree is
      c.requires.groups c.args.key.now c.args.span.now c.requires.asked.fits
      c.requires.asked.bounds.lo
      c.requires.asked.bounds.hi
      c.new-entries.result c.select.new.out c.new-entries.ensures
      (c.in_ok-select.ensures.ok whole) most _ _ few c.in_ok-select.ensures.steps;
  reads = search rules;
}

pub returns-in_default : goal.returns-in_default
returns-in_default g c = record {
  found = λ f whole is. tt;
  fits = tt;
  steps = λ f most whole is few. tt;
  reads = reads_stopped g.B.View _ refl
      (λ sound.
      let file = c.args.file.now in
      let t = tree_of c.args.node.now in
      let groups = c.args.groups.now in
      let key = c.args.key.now in
      let span = c.args.span.now in
      let maps = g.B.View.working c.args.leaves.now in
      let reads = c.in_ok-select.ensures.reads.reads in
      let ends = c.in_ok-select.ensures.reads.ends in
      let f = sound.1.0 in
      let is = sound.1.1 in
      let all = both_are file t groups _ maps f c.requires.asked.storable c.requires.asked.tree is
      c.requires.groups key span c.requires.asked.fits c.requires.asked.bounds.lo
      c.requires.asked.bounds.hi
      c.new-entries.result c.select.new.out c.new-entries.ensures
      (c.in_ok-select.ensures.ok sound.0) c.select-2.new.out _ reads.working
      (c.in_ok-select-2.ensures.ok (ends.whole sound.0)) in
      let fits = one_fits file t groups _ maps f c.requires.asked.storable c.requires.asked.tree is
      c.requires.groups key span c.requires.asked.fits c.requires.asked.bounds.lo
      c.requires.asked.bounds.hi in
      let one = option_map (λ (vs : List Value). (key, vs)) (fin.get f key) in
      let found = c.in_ok-values.ensures.read one fits all in
      let none = c.in_default.is in
      cc)
      (passes_joined g.B.View
      (leaf_passes g.B.View c.in_ok-select.ensures.reads)
      (leaf_passes g.B.View c.in_ok-select-2.ensures.reads));
}

pub returns : goal.returns
returns g c = record {
  found = λ f whole is.
      let file = c.args.file.now in
      let t = tree_of c.args.node.now in
      let groups = c.args.groups.now in
      let key = c.args.key.now in
      let span = c.args.span.now in
      let maps = g.B.View.working c.args.leaves.now in
      let reads = c.in_ok-select.ensures.reads.reads in
      let ends = c.in_ok-select.ensures.reads.ends in
      let all = both_are file t groups _ maps f c.requires.asked.storable c.requires.asked.tree is
      c.requires.groups key span c.requires.asked.fits c.requires.asked.bounds.lo
      c.requires.asked.bounds.hi
      c.new-entries.result c.select.new.out c.new-entries.ensures
      (c.in_ok-select.ensures.ok whole) c.select-2.new.out _ reads.working
      (c.in_ok-select-2.ensures.ok (ends.whole whole)) in
      let fits = one_fits file t groups _ maps f c.requires.asked.storable c.requires.asked.tree is
      c.requires.groups key span c.requires.asked.fits c.requires.asked.bounds.lo
      c.requires.asked.bounds.hi in
      let one = option_map (λ (vs : List Value). (key, vs)) (fin.get f key) in
      let found = c.in_ok-values.ensures.read one fits all in
      same_Some c.in-Some.values _ (sym c.in-Some.is ∙ found) ∙ row_values key (fin.get f key);
  fits = subst (λ o. IfSome o (λ values. IfSome values (AreFit (data_fields c.args.file.now))))
      c.in-Some.is c.in_ok-values.ensures.fits;
  steps = λ f most whole is few.
      let file = c.args.file.now in
      let t = tree_of c.args.node.now in
      let groups = c.args.groups.now in
      let key = c.args.key.now in
      let span = c.args.span.now in
      let maps = g.B.View.working c.args.leaves.now in
      let reads = c.in_ok-select.ensures.reads.reads in
      let ends = c.in_ok-select.ensures.reads.ends in
      steps_both file t groups _ maps f c.requires.asked.storable c.requires.asked.tree is
      c.requires.groups key span c.requires.asked.fits c.requires.asked.bounds.lo
      c.requires.asked.bounds.hi
      c.new-entries.result c.select.new.out c.new-entries.ensures
      (c.in_ok-select.ensures.ok whole) c.select-2.new.out _ reads.working
      (c.in_ok-select-2.ensures.ok (ends.whole whole))
      most _ _ _ few c.in_ok-select.ensures.steps c.in_ok-select-2.ensures.steps;
  reads = search rules;
}

pub returns-in_err-select-2 : goal.returns-in_err-select-2
returns-in_err-select-2 g c = record {
  found = search rules;
  fits = search rules;
  steps = search rules;
  reads = record {
    reads = search rules;
    ends = record {
      whole = search rules;
      later = search rules;
      fault = search rules;
      counted = search rules;
      damaged = search rules;
    };
    block = search rules;
    not_full = search rules;
  };
}

pub returns-in_err-values : goal.returns-in_err-values
returns-in_err-values g c = record {
  found = search rules;
  fits = search rules;
  steps = search rules;
  reads = record {
    reads = search rules;
    ends = record {
      whole = search rules;
      later = search rules;
      fault = search rules;
      counted = search rules;
      damaged = search rules;
    };
    block = search rules;
    not_full = search rules;
  };
}
