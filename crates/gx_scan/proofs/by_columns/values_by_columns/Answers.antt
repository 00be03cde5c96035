use Rattle.std.proofs.Common.{rules, ◌≡◌, ◌<◌, ◌+◌, ◌++◌, ◌∷◌, ◌∙◌, [], List, Some, length, get_or, inl, inr, refl, sym, ap, subst, arith}
use Rattle.std.specs.Prelude.{IfSome}
use Rattle.std.specs.FinMap as fin
use Rattle.std.proofs.lemmas.List.{take_all, take_more}
use Rattle.std.proofs.lemmas.Option.{same_Some}
use Rattle.gx_values.specs.Values.{Fits, AreFit, no_value}
use Rattle.gx_values.proofs.WrittenLemmas.{next_fit}
use Rattle.gx_schema.specs.Lookups.{data_fields}
use Rattle.gx_actual.specs.Bodies.{AreShort}
use Rattle.gx_actual.proofs.BodyLemmas.{item_short}
use Rattle.gx_ports.specs.declared.leaves.Entry.{Entry}
use Rattle.gx_ports.specs.LeafMaps.{LeafMap}
use Rattle.gx_ports.proofs.CallLemmas.{reads_itself, reads_joined}
use Rattle.gx_gather.proofs.Lists.{in_read}
use Rattle.gx_mapping.proofs.FieldLemmas.{fit_length}
use Rattle.gx_stack.specs.Seen.{tree_of}
use Rattle.gx_stack.proofs.PassLemmas.{passes_joined, read_passes, reads_stopped}
use Rattle.gx_scan.specs.declared.places.Place.{Place}
use Rattle.gx_scan.proofs.ColumnLemmas.{columns_many, column_there, column_coded, row_there, row_fit, steps_key, many_found, one_found, body_found, no_record, some_record, found_cases}
use Rattle.gx_scan.proofs.CallLemmas.{reads_passed}
use Rattle.gx_scan.proofs.ColumnSteps.{field_fits}
use Rattle.gx_scan.proofs.StepLemmas.{counted_most}
use Rattle.gx_scan.proofs.by_columns.values_by_columns.Goals as goal

pub loop-at-init : goal.loop-at-init
loop-at-init g c = record {
  fit = search rules;
  so_far = λ f whole is vs found. c.in_ok-values.ensures.items;
  none = λ f whole is found. refl;
  steps = λ f whole is. omega arith;
  reads = reads_itself g.B.View c.args.leaves.now;
  whole = λ h. h;
  counted = refl;
}

pub select_at-requires : goal.select_at-requires
select_at-requires g c =
    let b = g.B.View in
    let file = c.args.file.now in
    let t = tree_of c.args.node.now in
    let ps = c.args.places.now in
    let i = c.loop-at.at in
    let inv = c.loop-at.invariant in
    let many = columns_many file t ps _ c.requires.asked.tree c.requires.columns in
    let same = c.data_fields-fields.ensures in
    let p : Place = c.index-places-at.result in
    let lt : i < length ps = omega (arith, c.loop-at-test.true, many, ap length same) in
    subst (λ (maps : List LeafMap). p.leaf < length maps) (sym inv.reads.working)
    (c.requires.asked.tree.below p.leaf (column_there t ps p c.requires.columns
    (in_read ps i p c.index-places-at.is lt)))

pub read_alone-requires : goal.read_alone-requires
read_alone-requires g c =
    item_short c.data_fields-fields.result.now c.index-fields-at.result c.loop-at.at
    (subst AreShort (sym c.data_fields-fields.ensures) c.requires.asked.storable.short)
    c.loop-at-test.true c.index-fields-at.is

pub returns-then-at-eq0 : goal.returns-then-at-eq0
returns-then-at-eq0 g c =
    let b = g.B.View in
    let file = c.args.file.now in
    let t = tree_of c.args.node.now in
    let ps = c.args.places.now in
    let i = c.loop-at.at in
    let inv = c.loop-at.invariant in
    let many = columns_many file t ps _ c.requires.asked.tree c.requires.columns in
    let same = c.data_fields-fields.ensures in
    let p : Place = c.index-places-at.result in
    let lt : i < length ps = omega (arith, c.loop-at-test.true, many, ap length same) in
    let key = c.args.key.now in
    let span = c.args.span.now in
    let maps = b.working c.args.leaves.now in
    let storable = c.requires.asked.storable in
    let tree = c.requires.asked.tree in
    let are = c.requires.columns in
    let selected = c.in_ok-select_at.ensures in
    let item = c.index-places-at.is in
    let es = c.select_at.new.entries in
    record {
      found = λ f whole is. no_record file t ps _ maps f storable tree is are
          key span c.requires.asked.fits c.requires.asked.bounds.lo c.requires.asked.bounds.hi i p
          lt item es _
          inv.reads.working
          (selected.entries (inv.whole whole))
          (c.is_empty.ensures.0 c.if-is_empty.true);
      fits = tt;
      steps = λ f most whole is few. steps_key file t ps _ maps f storable tree is are
          key span c.requires.asked.fits c.requires.asked.bounds.lo c.requires.asked.bounds.hi most
          (i + 1) _ _ few
          (omega (arith, lt)) (omega (
            arith,
            inv.steps f whole is,
            counted_most _ _ _ _ selected.steps (many_found file t ps _ maps f storable tree is are
                key span c.requires.asked.fits c.requires.asked.bounds.lo c.requires.asked.bounds.hi
                i p lt item es _
                inv.reads.working
                (selected.entries (inv.whole whole))),
          ));
      reads = reads_passed b _
          (passes_joined b (record { reads = inv.reads; whole = inv.whole; counted = inv.counted })
          (read_passes b selected.reads));
    }

pub returns-then-is_empty : goal.returns-then-is_empty
returns-then-is_empty g c =
    let b = g.B.View in
    let file = c.args.file.now in
    let t = tree_of c.args.node.now in
    let ps = c.args.places.now in
    let i = c.loop-at.at in
    let inv = c.loop-at.invariant in
    let many = columns_many file t ps _ c.requires.asked.tree c.requires.columns in
    let same = c.data_fields-fields.ensures in
    let p : Place = c.index-places-at.result in
    let lt : i < length ps = omega (arith, c.loop-at-test.true, many, ap length same) in
    let key = c.args.key.now in
    let span = c.args.span.now in
    let maps = b.working c.args.leaves.now in
    let storable = c.requires.asked.storable in
    let tree = c.requires.asked.tree in
    let are = c.requires.columns in
    let selected = c.in_ok-select_at.ensures in
    let item = c.index-places-at.is in
    let es = c.select_at.new.entries in
    record {
      found = λ f whole is. tt;
      fits = tt;
      steps = λ f most whole is few. tt;
      reads = reads_stopped b _ refl (λ sound.
          let whole = sound.0 in
          let f = sound.1.0 in
          let is = sound.1.1 in
          elim (found_cases (fin.get f key)) [
            | inl none ↦ omega (arith, inv.none f whole is none, c.if-at-eq0.false)
            | inr some ↦ omega (
              arith,
              ap length (c.is_empty.ensures.0 c.if-is_empty.true),
              ap length (one_found file t ps _ maps f storable tree is are
                  key span c.requires.asked.fits c.requires.asked.bounds.lo
                  c.requires.asked.bounds.hi i p lt item es _
                  inv.reads.working
                  (selected.entries (inv.whole whole)) some.0 some.1),
            )
          ])
          (passes_joined b (record { reads = inv.reads; whole = inv.whole; counted = inv.counted })
          (read_passes b selected.reads));
    }

pub returns-in_default : goal.returns-in_default
returns-in_default g c =
    let b = g.B.View in
    let file = c.args.file.now in
    let t = tree_of c.args.node.now in
    let ps = c.args.places.now in
    let i = c.loop-at.at in
    let inv = c.loop-at.invariant in
    let many = columns_many file t ps _ c.requires.asked.tree c.requires.columns in
    let same = c.data_fields-fields.ensures in
    let p : Place = c.index-places-at.result in
    let lt : i < length ps = omega (arith, c.loop-at-test.true, many, ap length same) in
    let key = c.args.key.now in
    let span = c.args.span.now in
    let maps = b.working c.args.leaves.now in
    let storable = c.requires.asked.storable in
    let tree = c.requires.asked.tree in
    let are = c.requires.columns in
    let selected = c.in_ok-select_at.ensures in
    let item = c.index-places-at.is in
    let es = c.select_at.new.entries in
    let e : Entry = record { key = c.entry.result.key.now; body = c.entry.result.body.now } in
    record {
      found = λ f whole is. tt;
      fits = tt;
      steps = λ f most whole is few. tt;
      reads = reads_stopped b _ refl (λ sound.
          let whole = sound.0 in
          let f = sound.1.0 in
          let is = sound.1.1 in
          elim (found_cases (fin.get f key)) [
            | inl none ↦ some_record file t ps _ maps f storable tree is are
                key span c.requires.asked.fits c.requires.asked.bounds.lo c.requires.asked.bounds.hi
                i p lt item es _
                inv.reads.working
                (selected.entries (inv.whole whole)) e c.entry.ensures none
            | inr some ↦ (
                let vs = some.0 in
                let found = some.1 in
                let row = row_there file t ps _ maps f storable tree is are
                key span c.requires.asked.fits c.requires.asked.bounds.lo c.requires.asked.bounds.hi
                vs found in
                let fit = row_fit file t ps _ maps f storable tree is are (key, vs) row in
                let v = get_or vs i no_value in
                let read = c.in_ok-value.ensures.read key v
                (field_fits c.data_fields-fields.result.now (data_fields file) vs i
                c.index-fields-at.result same fit.1 c.loop-at-test.true c.index-fields-at.is)
                (column_coded file t ps _ maps f storable tree is are i p lt item (key, vs) row)
                (body_found file t ps _ maps f storable tree is are
                key span c.requires.asked.fits c.requires.asked.bounds.lo c.requires.asked.bounds.hi
                i p lt item es _
                inv.reads.working
                (selected.entries (inv.whole whole)) vs found e c.entry.ensures) in
                let nothing = c.in_default.is in
                cc)
          ])
          (passes_joined b (record { reads = inv.reads; whole = inv.whole; counted = inv.counted })
          (read_passes b selected.reads));
    }

pub loop-at-preserved : goal.loop-at-preserved
loop-at-preserved g c =
    let b = g.B.View in
    let file = c.args.file.now in
    let t = tree_of c.args.node.now in
    let ps = c.args.places.now in
    let i = c.loop-at.at in
    let inv = c.loop-at.invariant in
    let many = columns_many file t ps _ c.requires.asked.tree c.requires.columns in
    let same = c.data_fields-fields.ensures in
    let p : Place = c.index-places-at.result in
    let lt : i < length ps = omega (arith, c.loop-at-test.true, many, ap length same) in
    let key = c.args.key.now in
    let span = c.args.span.now in
    let maps = b.working c.args.leaves.now in
    let storable = c.requires.asked.storable in
    let tree = c.requires.asked.tree in
    let are = c.requires.columns in
    let selected = c.in_ok-select_at.ensures in
    let item = c.index-places-at.is in
    let es = c.select_at.new.entries in
    let e : Entry = record { key = c.entry.result.key.now; body = c.entry.result.body.now } in
    let field = c.index-fields-at.result in
    let fields = c.data_fields-fields.result.now in
    let items = c.loop-at.values.items in
    let value = c.in-Some.value in
    record {
      fit = next_fit fields fields items _ value field i refl inv.fit c.loop-at-test.true
          c.index-fields-at.is
          (subst (λ o. IfSome o (Fits field.kind)) c.in-Some.is c.in_ok-value.ensures.fits)
          c.in_ok-push.ensures.items;
      so_far = λ f whole is vs found.
          let row = row_there file t ps _ maps f storable tree is are
          key span c.requires.asked.fits c.requires.asked.bounds.lo c.requires.asked.bounds.hi vs
          found in
          let fit = row_fit file t ps _ maps f storable tree is are (key, vs) row in
          let v = get_or vs i no_value in
          let read = c.in_ok-value.ensures.read key v
          (field_fits c.data_fields-fields.result.now (data_fields file) vs i
          c.index-fields-at.result same fit.1 c.loop-at-test.true c.index-fields-at.is)
          (column_coded file t ps _ maps f storable tree is are i p lt item (key, vs) row)
          (body_found file t ps _ maps f storable tree is are
          key span c.requires.asked.fits c.requires.asked.bounds.lo c.requires.asked.bounds.hi i p
          lt item es _
          inv.reads.working
          (selected.entries (inv.whole whole)) vs found e c.entry.ensures) in
          let same : value ≡ v = same_Some value v (sym c.in-Some.is ∙ read) in
          let within : i < length vs =
          omega (arith, lt, many, fit_length (data_fields file) vs fit.1) in
          c.in_ok-push.ensures.items ∙ (λ j. inv.so_far f whole is vs found j ++ same j ∷ [])
          ∙ sym (take_more vs i no_value within);
      none = λ f whole is none. absurd (some_record file t ps _ maps f storable tree is are
          key span c.requires.asked.fits c.requires.asked.bounds.lo c.requires.asked.bounds.hi i p
          lt item es _
          inv.reads.working
          (selected.entries (inv.whole whole))
          e c.entry.ensures none);
      steps = λ f whole is. omega (
        arith,
        inv.steps f whole is,
        counted_most _ _ _ _ selected.steps (many_found file t ps _ maps f storable tree is are
            key span c.requires.asked.fits c.requires.asked.bounds.lo c.requires.asked.bounds.hi i p
            lt item es _
            inv.reads.working
            (selected.entries (inv.whole whole))),
      );
      reads = reads_joined b inv.reads selected.reads.reads;
      whole = λ h. selected.reads.ends.whole (inv.whole h);
      counted = selected.reads.ends.counted refl ∙ inv.counted;
    }

pub returns : goal.returns
returns g c =
    let b = g.B.View in
    let file = c.args.file.now in
    let t = tree_of c.args.node.now in
    let ps = c.args.places.now in
    let i = c.loop-at.at in
    let inv = c.loop-at.invariant in
    let many = columns_many file t ps _ c.requires.asked.tree c.requires.columns in
    let same = c.data_fields-fields.ensures in
    let key = c.args.key.now in
    let span = c.args.span.now in
    let maps = b.working c.args.leaves.now in
    let storable = c.requires.asked.storable in
    let tree = c.requires.asked.tree in
    let are = c.requires.columns in
    record {
      found = λ f whole is. elim (found_cases (fin.get f key)) [
        | inl none ↦ absurd (omega (
          arith,
          inv.none f whole is none,
          c.loop-at-test.false,
          many,
          ap length same,
          are.some,
        ))
        | inr some ↦ (
            let vs = some.0 in
            let row = row_there file t ps _ maps f storable tree is are
            key span c.requires.asked.fits c.requires.asked.bounds.lo c.requires.asked.bounds.hi vs
            some.1 in
            let fit = row_fit file t ps _ maps f storable tree is are (key, vs) row in
            ap Some (inv.so_far f whole is vs some.1 ∙ take_all i vs (omega (
              arith,
              c.loop-at-test.false,
              ap length same,
              fit_length (data_fields file) vs fit.1,
            ))) ∙ sym some.1)
      ];
      fits = subst (λ fs. AreFit fs c.loop-at.values.items)
          (take_all i c.data_fields-fields.result.now c.loop-at-test.false ∙ same) inv.fit;
      steps = λ f most whole is few. steps_key file t ps _ maps f storable tree is are
          key span c.requires.asked.fits c.requires.asked.bounds.lo c.requires.asked.bounds.hi most
          i _ _ few
          (omega (arith, many, ap length same)) (inv.steps f whole is);
      reads = reads_passed b _
          (record { reads = inv.reads; whole = inv.whole; counted = inv.counted });
    }
