use Rattle.std.proofs.Common.{rules, ◌∙◌, ◌++◌, ◌-◌, List, filter, length, refl, sym, ap, arith}
use Rattle.std.proofs.lemmas.Bool.{true≢false}
use Rattle.std.proofs.lemmas.List.{length-map}
use Rattle.gx_laws.proofs.ListLemmas.{all_filter}
use Rattle.gx_values.specs.Keys.{bytes_of, is_inside}
use Rattle.gx_model.specs.States.{Row}
use Rattle.gx_model.specs.Found.{meets_conds}
use Rattle.gx_stack.specs.Seen.{tree_of}
use Rattle.gx_scan.specs.Files.{file_records}
use Rattle.gx_scan.specs.Entries.{entry_of_row, rows_at, IsStoredRow}
use Rattle.gx_scan.proofs.EntryLemmas.{span_entries}
use Rattle.gx_scan.proofs.ListingLemmas.{filter_twice}
use Rattle.gx_scan.proofs.PlaceLemmas.{place_entries, place_there, rows_stored}
use Rattle.gx_ports.specs.LeafMaps.{entry_of}
use Rattle.gx_scan.proofs.StepLemmas.{counted_most}
use Rattle.gx_scan.proofs.by_entries.add_at.Goals as goal

pub select-requires : goal.select-requires
select-requires g c =
    c.requires.tree.below c.args.place.now.leaf
    (place_there (tree_of c.args.node.now) c.args.place.now c.requires.place)

pub returns-then-branch-clause-rows : goal.returns-then-branch-clause-rows
returns-then-branch-clause-rows g c = λ f whole is.
    let file = c.args.file.now in
    let t = tree_of c.args.node.now in
    let p = c.args.place.now in
    let maps = g.B.View.working c.args.leaves.now in
    let lo = c.args.span.now.lo in
    let hi = c.args.span.now.hi in
    let inside = λ (r : Row). is_inside lo hi (bytes_of r.0) in
    let union = (c.internal_is_union.ensures (file_records f) maps).0 is.held in
    let stored = place_entries file t _ maps f c.requires.storable c.requires.tree is.fit union p
    c.requires.place in
    let same = span_entries _ p.lengths p.codes (rows_at t p.leaf f) lo hi _ _ _ stored
    c.clear.ensures (c.in_ok-select.ensures.ok whole) refl in
    let fit = all_filter (IsStoredRow file p.codes) inside (rows_at t p.leaf f)
    (rows_stored file t _ maps f c.requires.storable c.requires.tree is.fit p
    c.requires.place) in
    (c.in_ok-add_rows_at.ensures.chosen (filter inside (rows_at t p.leaf f)) (fit, same)).1
    ∙ ap (λ (l : List Row). c.args.rows.now.items ++ l)
    (filter_twice (meets_conds c.args.conds.now) inside (rows_at t p.leaf f))

pub returns-else-branch-clause-reads : goal.returns-else-branch-clause-reads
returns-else-branch-clause-reads g c = record {
  reads = search rules;
  ends = record {
    whole = search rules;
    later = search rules;
    fault = search rules;
    counted = search rules;
    damaged = λ block stops sound.
        let file = c.args.file.now in
        let t = tree_of c.args.node.now in
        let p = c.args.place.now in
        let maps = g.B.View.working c.args.leaves.now in
        let lo = c.args.span.now.lo in
        let hi = c.args.span.now.hi in
        let inside = λ (r : Row). is_inside lo hi (bytes_of r.0) in
        let f = sound.1.0 in
        let is = sound.1.1 in
        let union = (c.internal_is_union.ensures (file_records f) maps).0 is.held in
        let stored = place_entries file t _ maps f c.requires.storable c.requires.tree is.fit union
        p c.requires.place in
        let same = span_entries _ p.lengths p.codes (rows_at t p.leaf f) lo hi _ _ _ stored
        c.clear.ensures (c.in_ok-select.ensures.ok sound.0) refl in
        let fit = all_filter (IsStoredRow file p.codes) inside (rows_at t p.leaf f)
        (rows_stored file t _ maps f c.requires.storable c.requires.tree is.fit p
        c.requires.place) in
        let all = (c.in_ok-add_rows_at.ensures.chosen (filter inside (rows_at t p.leaf f))
        (fit, same)).0 in
        true≢false (sym all ∙ c.if-branch.false);
  };
  block = search rules;
  not_full = search rules;
}

pub returns-then-branch-clause-steps : goal.returns-then-branch-clause-steps
returns-then-branch-clause-steps g c = λ f whole is.
    let file = c.args.file.now in
    let t = tree_of c.args.node.now in
    let p = c.args.place.now in
    let maps = g.B.View.working c.args.leaves.now in
    let lo = c.args.span.now.lo in
    let hi = c.args.span.now.hi in
    let rows = filter (λ (r : Row). is_inside lo hi (bytes_of r.0)) (rows_at t p.leaf f) in
    let union = (c.internal_is_union.ensures (file_records f) maps).0 is.held in
    let stored = place_entries file t _ maps f c.requires.storable c.requires.tree is.fit union p
    c.requires.place in
    let same = span_entries _ p.lengths p.codes (rows_at t p.leaf f) lo hi _ _ _ stored
    c.clear.ensures (c.in_ok-select.ensures.ok whole) refl in
    counted_most _ _ (length c.select.new.out - length c.clear.new.self)
    (length rows) c.in_ok-select.ensures.steps
    (omega (
      arith,
      ap length same,
      length-map rows
          (λ (r : Row). entry_of (entry_of_row p.lengths p.codes r)),
      ap length
          c.clear.ensures,
    ))
