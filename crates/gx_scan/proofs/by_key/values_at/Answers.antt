use Rattle.std.proofs.Common.{rules, ◌∙◌, ◌-◌, List, filter, length, map, refl, sym, ap, subst, arith}
use Rattle.std.proofs.lemmas.List.{length-map}
use Rattle.std.specs.List.{AllByRecursion}
use Rattle.std.specs.Option.{option_map}
use Rattle.std.specs.Prelude.{IfSome}
use Rattle.std.specs.FinMap as fin
use Rattle.std.proofs.lemmas.Option.{same_Some}
use Rattle.gx_laws.proofs.ListLemmas.{all_filter}
use Rattle.gx_values.specs.declared.values.Value.{Value}
use Rattle.gx_values.specs.Keys.{bytes_of, is_inside}
use Rattle.gx_values.specs.Values.{AreFit}
use Rattle.gx_schema.specs.Lookups.{data_fields}
use Rattle.gx_ports.specs.LeafMaps.{entry_of}
use Rattle.gx_stack.specs.Seen.{tree_of}
use Rattle.gx_model.specs.States.{Row}
use Rattle.gx_scan.specs.Files.{file_records}
use Rattle.gx_scan.specs.Entries.{entry_of_row, rows_at, IsStoredRow}
use Rattle.gx_scan.proofs.EntryLemmas.{span_entries}
use Rattle.gx_scan.proofs.KeyLemmas.{row_values}
use Rattle.gx_scan.proofs.OnePlaceLemmas.{rows_one, steps_one, at_one}
use Rattle.gx_scan.proofs.PlaceLemmas.{place_entries, place_there, rows_stored}
use Rattle.gx_scan.proofs.StepLemmas.{counted_most}
use Rattle.gx_scan.proofs.by_key.values_at.Goals as goal

pub select-requires : goal.select-requires
select-requires g c =
    c.requires.asked.tree.below c.args.place.now.leaf
    (place_there (tree_of c.args.node.now) c.args.place.now
    (at_one (tree_of c.args.node.now) c.args.place.now c.requires.place))

pub returns-in_default : goal.returns-in_default
returns-in_default g c = record {
  found = λ f whole is. tt;
  fits = tt;
  steps = λ f most whole is few. tt;
  reads = record {
    reads = search rules;
    ends = record {
      whole = search rules;
      later = search rules;
      fault = search rules;
      counted = search rules;
      damaged = λ block stops sound.
          let file = c.args.file.now in
          let t = tree_of c.args.node.now in
          let p = c.args.place.now in
          let at = at_one t p c.requires.place in
          let maps = g.B.View.working c.args.leaves.now in
          let key = c.args.key.now in
          let span = c.args.span.now in
          let inside = λ (r : Row). is_inside span.lo span.hi (bytes_of r.0) in
          let f = sound.1.0 in
          let is = sound.1.1 in
          let union = (c.internal_is_union.ensures (file_records f) maps).0 is.held in
          let stored = place_entries file t _ maps f c.requires.asked.storable c.requires.asked.tree
          is.fit union p at in
          let same = span_entries _ p.lengths p.codes (rows_at t p.leaf f) span.lo span.hi _ _ _
          stored
          c.new-entries.ensures (c.in_ok-select.ensures.ok sound.0) refl in
          let fit = all_filter (IsStoredRow file p.codes) inside (rows_at t p.leaf f)
          (rows_stored file t _ maps f c.requires.asked.storable c.requires.asked.tree is.fit p at)
          in
          let rows = rows_one file t _ maps f c.requires.asked.storable c.requires.asked.tree is p
          c.requires.place key span c.requires.asked.fits c.requires.asked.bounds.lo
          c.requires.asked.bounds.hi in
          let one = option_map (λ (vs : List Value). (key, vs)) (fin.get f key) in
          let found = c.in_ok-values.ensures.read one
          (subst (AllByRecursion (IsStoredRow file p.codes)) rows fit)
          (same ∙ ap (map (λ (r : Row). entry_of (entry_of_row p.lengths p.codes r))) rows) in
          let none = c.in_default.is in
          cc;
    };
    block = search rules;
    not_full = search rules;
  };
}

pub returns : goal.returns
returns g c = record {
  found = λ f whole is.
      let file = c.args.file.now in
      let t = tree_of c.args.node.now in
      let p = c.args.place.now in
      let at = at_one t p c.requires.place in
      let maps = g.B.View.working c.args.leaves.now in
      let key = c.args.key.now in
      let span = c.args.span.now in
      let inside = λ (r : Row). is_inside span.lo span.hi (bytes_of r.0) in
      let union = (c.internal_is_union.ensures (file_records f) maps).0 is.held in
      let stored = place_entries file t _ maps f c.requires.asked.storable c.requires.asked.tree
      is.fit union p at in
      let same = span_entries _ p.lengths p.codes (rows_at t p.leaf f) span.lo span.hi _ _ _ stored
      c.new-entries.ensures (c.in_ok-select.ensures.ok whole) refl in
      let fit = all_filter (IsStoredRow file p.codes) inside (rows_at t p.leaf f)
      (rows_stored file t _ maps f c.requires.asked.storable c.requires.asked.tree is.fit p at) in
      let rows = rows_one file t _ maps f c.requires.asked.storable c.requires.asked.tree is p
      c.requires.place
      key span c.requires.asked.fits c.requires.asked.bounds.lo c.requires.asked.bounds.hi in
      let one = option_map (λ (vs : List Value). (key, vs)) (fin.get f key) in
      let found = c.in_ok-values.ensures.read one
      (subst (AllByRecursion (IsStoredRow file p.codes)) rows fit)
      (same ∙ ap (map (λ (r : Row). entry_of (entry_of_row p.lengths p.codes r))) rows) in
      same_Some c.in-Some.values _ (sym c.in-Some.is ∙ found) ∙ row_values key (fin.get f key);
  fits = subst (λ o. IfSome o (λ values. IfSome values (AreFit (data_fields c.args.file.now))))
      c.in-Some.is
      c.in_ok-values.ensures.fits;
  steps = λ f most whole is few.
      let file = c.args.file.now in
      let t = tree_of c.args.node.now in
      let p = c.args.place.now in
      let at = at_one t p c.requires.place in
      let maps = g.B.View.working c.args.leaves.now in
      let span = c.args.span.now in
      let rows = filter (λ (r : Row). is_inside span.lo span.hi (bytes_of r.0)) (rows_at t p.leaf f)
      in
      let union = (c.internal_is_union.ensures (file_records f) maps).0 is.held in
      let stored = place_entries file t _ maps f c.requires.asked.storable c.requires.asked.tree
      is.fit union p at in
      let same = span_entries _ p.lengths p.codes (rows_at t p.leaf f) span.lo span.hi _ _ _ stored
      c.new-entries.ensures (c.in_ok-select.ensures.ok whole) refl in
      let step = counted_most _ _ (length c.select.new.out - length c.new-entries.result)
      (length rows) c.in_ok-select.ensures.steps
      (omega (
        arith,
        ap length same,
        length-map rows
            (λ (r : Row). entry_of (entry_of_row p.lengths p.codes r)),
        ap length
            c.new-entries.ensures,
      )) in
      steps_one file t _ maps f c.requires.asked.storable c.requires.asked.tree is p
      c.requires.place
      c.args.key.now span c.requires.asked.fits c.requires.asked.bounds.lo
      c.requires.asked.bounds.hi most _ _ few step;
  reads = search rules;
}
