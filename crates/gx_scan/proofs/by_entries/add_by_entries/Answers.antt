use Rattle.std.proofs.Common.{rules, ◌∙◌, ◌++◌, ◌+◌, [], List, filter, refl, sym, ap, subst, arith, length, length-append, append-nil, append_assoc}
use Rattle.std.specs.FinMap as fin
use Rattle.std.proofs.lemmas.List.{length-take, length-map}
use Rattle.std.proofs.lemmas.List.Sorted.{length_permutation}
use Rattle.gx_ports.specs.LeafMaps.{LeafMap}
use Rattle.gx_ports.proofs.CallLemmas.{reads_itself, reads_joined}
use Rattle.gx_stack.specs.Seen.{tree_of}
use Rattle.gx_gather.proofs.Lists.{in_read, IsOnce}
use Rattle.gx_model.specs.States.{Row}
use Rattle.gx_scan.specs.declared.places.Place.{Place}
use Rattle.gx_scan.specs.Files.{IsInternal}
use Rattle.gx_scan.specs.Entries.{rows_at}
use Rattle.gx_scan.specs.Within.{is_within}
use Rattle.gx_scan.specs.Steps.{is_key_inside, rows_inside}
use Rattle.gx_gather.proofs.Lists.{in_filter}
use Rattle.gx_scan.proofs.PlaceLemmas.{data_once, data_few, leaf_there, number}
use Rattle.gx_scan.proofs.CallLemmas.{sound_after, extends_further}
use Rattle.gx_stack.proofs.PassLemmas.{reads_given_after}
use Rattle.gx_scan.proofs.StepLemmas.{whole_most}
use Rattle.gx_scan.proofs.ListingLemmas.{none_chosen, place_chosen, all_chosen}
use Rattle.gx_scan.proofs.by_entries.add_by_entries.Goals as goal

pub loop-place-init : goal.loop-place-init
loop-place-init g c = record {
  rows = λ f whole is. (
    [],
    sym (append-nil c.args.rows.now.items),
    none_chosen (tree_of c.args.node.now) (is_within c.args.span.now c.args.conds.now) f [] refl,
  );
  steps = λ f whole is. (
    [],
    none_chosen (tree_of c.args.node.now)
        (is_key_inside c.args.span.now) f [] refl,
    omega arith,
  );
  front = ([], sym (append-nil c.args.rows.now.items));
  fit = λ all. all;
  reads = reads_itself g.B.View c.args.leaves.now;
  whole = λ h. h;
  counted = refl;
}

pub add_at-requires-clause-place : goal.add_at-requires-clause-place
add_at-requires-clause-place g c =
    let ps = c.args.places.now in
    let i = c.loop-place.place-index in
    let p : Place = c.place-item.result in
    record {
      places = ps;
      are = c.requires.places;
      there = in_read ps i p c.place-item.is c.loop-place-test.true;
    }

pub loop-place-preserved : goal.loop-place-preserved
loop-place-preserved g c =
    let b = g.B.View in
    let t = tree_of c.args.node.now in
    let ps = c.args.places.now in
    let i = c.loop-place.place-index in
    let p : Place = c.place-item.result in
    let inv = c.loop-place.invariant in
    let e = c.in_ok-add_at.ensures in
    let are = c.requires.places in
    let test = is_within c.args.span.now c.args.conds.now in
    record {
      rows = λ f whole is.
          let so_far = inv.rows f whole is in
          let more = filter test (rows_at t p.leaf f) in
          let now = e.rows f (inv.whole whole)
          (subst (λ (maps : List LeafMap). IsInternal c.args.file.now t maps f)
          (sym inv.reads.working) is) in (
            so_far.0 ++ more,
            now ∙ ap (λ (l : List Row). l ++ more) so_far.1
                ∙ append_assoc c.args.rows.now.items so_far.0 more,
            place_chosen t test f ps i p so_far.0 (so_far.0 ++ more)
                (subst IsOnce (sym are.leaves) (data_once t c.requires.tree.valid))
                c.loop-place-test.true c.place-item.is so_far.2 refl,
          );
      steps = λ f whole is.
          let inside = is_key_inside c.args.span.now in
          let so_far = inv.steps f whole is in
          let more = filter inside (rows_at t p.leaf f) in
          let now = e.steps f (inv.whole whole)
          (subst (λ (maps : List LeafMap). IsInternal c.args.file.now t maps f)
          (sym inv.reads.working) is) in (
            so_far.0 ++ more,
            place_chosen t inside f ps i p so_far.0 (so_far.0 ++ more)
                (subst IsOnce (sym are.leaves) (data_once t c.requires.tree.valid))
                c.loop-place-test.true c.place-item.is so_far.1 refl,
            omega (
              arith,
              so_far.2,
              now,
              length-append so_far.0 more,
              length-take i ps,
              length-take (i + 1) ps,
            ),
          );
      front = extends_further _ _ _ inv.front e.front;
      fit = λ all. e.fit (inv.fit all);
      reads = reads_joined b inv.reads e.reads.reads;
      whole = λ h. e.reads.ends.whole (inv.whole h);
      counted = e.reads.ends.counted refl ∙ inv.counted;
    }

pub returns-in_err-add_at-clause-adds : goal.returns-in_err-add_at-clause-adds
returns-in_err-add_at-clause-adds g c = record {
  rows = search rules;
  steps = search rules;
  front = extends_further _ _ _ c.loop-place.invariant.front c.in_err-add_at.ensures.front;
  reads =
      let inv = c.loop-place.invariant in
      reads_given_after g.B.View c.from_residual.result c.from_residual.ensures.1
      (record { reads = inv.reads; whole = inv.whole; counted = inv.counted })
      (sound_after g.B.View c.args.file.now (tree_of c.args.node.now) _ _ inv.reads
      inv.whole)
      c.in_err-add_at.ensures.reads;
}

pub returns-clause-adds : goal.returns-clause-adds
returns-clause-adds g c = record {
  rows = λ f whole is.
      let t = tree_of c.args.node.now in
      let ps = c.args.places.now in
      let so_far = c.loop-place.invariant.rows f whole is in
      record {
        added = so_far.0;
        appended = so_far.1;
        those = all_chosen t (is_within c.args.span.now c.args.conds.now) f ps
            c.loop-place.place-index so_far.0 (omega (arith, c.loop-place-test.false))
            (leaf_there c.args.file.now t _ (g.B.View.working c.args.leaves.now) f
            c.requires.storable c.requires.tree is.fit ps c.requires.places) so_far.2;
      };
  steps = λ f most whole is few.
      let file = c.args.file.now in
      let t = tree_of c.args.node.now in
      let ps = c.args.places.now in
      let i = c.loop-place.place-index in
      let inside = is_key_inside c.args.span.now in
      let so_far = c.loop-place.invariant.steps f whole is in
      let all = all_chosen t inside f ps i so_far.0 (omega (arith, c.loop-place-test.false))
      (leaf_there file t _ (g.B.View.working c.args.leaves.now) f c.requires.storable
      c.requires.tree is.fit ps c.requires.places) so_far.1 in
      let many = length_permutation (rows_inside c.args.span.now f) so_far.0 all in
      let one = whole_most file t f most ps (rows_inside c.args.span.now f) c.requires.places
      c.requires.tree.form c.requires.storable.keyed is.fit few
      (λ r h. (in_filter inside r (fin.entries f) h).0) in
      omega (
        arith,
        so_far.2,
        many,
        one,
        length-take i ps,
        ap length c.requires.places.leaves,
        length-map ps number,
        data_few t,
      );
  front = c.loop-place.invariant.front;
  reads = search rules;
}
