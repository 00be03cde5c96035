use Rattle.std.proofs.Common.{rules, ◌∙◌, ◌<◌, List, filter, length, sym, ap, subst, refl, arith}
use Rattle.std.proofs.lemmas.Bool.{true≢false}
use Rattle.std.proofs.lemmas.List.{length-map}
use Rattle.std.proofs.lemmas.List.Sorted.{IsPermutation-refl}
use Rattle.std.specs.FinMap as fin
use Rattle.std.specs.List.Sorted.{IsPermutation}
use Rattle.gx_schema.specs.Lookups.{data_fields}
use Rattle.gx_ports.specs.LeafMaps.{LeafMap, map_at, entry_of, selected}
use Rattle.gx_gather.proofs.Orders.{sorted}
use Rattle.gx_stack.specs.Seen.{tree_of}
use Rattle.gx_stack.proofs.PassLemmas.{passes_joined, read_passes, reads_stopped}
use Rattle.gx_model.specs.States.{Row}
use Rattle.gx_model.specs.Found.{meets_conds}
use Rattle.gx_scan.specs.Groups.{has_others, first_entry, other_entry}
use Rattle.gx_scan.specs.Within.{is_within}
use Rattle.gx_scan.specs.Steps.{is_key_inside, rows_inside}
use Rattle.gx_scan.proofs.GroupLemmas.{first_there, other_there, firsts_inside, others_inside, rows_fit_inside, rows_order_inside, steps_inside}
use Rattle.gx_scan.proofs.ListingLemmas.{filter_twice}
use Rattle.gx_scan.proofs.PlaceLemmas.{key_cmp}
use Rattle.gx_scan.proofs.StepLemmas.{counted_most}
use Rattle.gx_scan.proofs.by_groups.add_by_groups.Goals as goal

pub entries_at-requires : goal.entries_at-requires
entries_at-requires g c =
    let groups = c.args.groups.now in
    c.requires.tree.below groups.first.leaf (first_there (tree_of c.args.node.now) groups
    c.requires.groups)

pub entries_at-requires-2 : goal.entries_at-requires-2
entries_at-requires-2 g c =
    let groups = c.args.groups.now in
    subst (λ (maps : List LeafMap). groups.others.leaf < length maps) (sym
    c.in_ok-firsts.ensures.reads.reads.working)
    (c.requires.tree.below groups.others.leaf (other_there (tree_of c.args.node.now) groups
    c.requires.groups))

pub returns-then-branch-clause-adds : goal.returns-then-branch-clause-adds
returns-then-branch-clause-adds g c = record {
  rows = λ f whole is.
      let file = c.args.file.now in
      let t = tree_of c.args.node.now in
      let groups = c.args.groups.now in
      let span = c.args.span.now in
      let maps = g.B.View.working c.args.leaves.now in
      let reads = c.in_ok-firsts.ensures.reads in
      let found = firsts_inside file t groups _ maps f c.requires.storable c.requires.tree is
      c.requires.groups c.requires.plain span
      _ (c.in_ok-firsts.ensures.entries whole) in
      let others = others_inside file t groups _ maps f c.requires.storable c.requires.tree is
      c.requires.groups c.requires.plain span
      _ (c.in_ok-others.ensures.entries (reads.ends.whole whole)
      ∙ ap (λ (maps : List LeafMap). selected span.lo span.hi (map_at maps groups.others.leaf))
      reads.reads.working) in
      let rs = rows_inside span f in
      let fits = rows_fit_inside file t groups _ maps f c.requires.storable c.requires.tree is
      c.requires.groups span in
      let order = sorted key_cmp rs (rows_order_inside file t groups _ maps f c.requires.storable
      c.requires.tree is c.requires.groups span) in
      let joined =
      c.in_ok-add_joined_rows.ensures.chosen rs (fits, order, found, others) in
      let meets = meets_conds c.args.conds.now in
      record {
        added = filter meets rs;
        appended = joined.1;
        those = subst (IsPermutation (filter (is_within span c.args.conds.now) (fin.entries f)))
            (sym (filter_twice meets (is_key_inside span) (fin.entries f)))
            (IsPermutation-refl (filter (is_within span c.args.conds.now) (fin.entries f)));
      };
  steps = λ f most whole is few.
      let file = c.args.file.now in
      let t = tree_of c.args.node.now in
      let groups = c.args.groups.now in
      let span = c.args.span.now in
      let maps = g.B.View.working c.args.leaves.now in
      let reads = c.in_ok-firsts.ensures.reads in
      let found = firsts_inside file t groups _ maps f c.requires.storable c.requires.tree is
      c.requires.groups c.requires.plain span
      _ (c.in_ok-firsts.ensures.entries whole) in
      let others = others_inside file t groups _ maps f c.requires.storable c.requires.tree is
      c.requires.groups c.requires.plain span
      _ (c.in_ok-others.ensures.entries (reads.ends.whole whole)
      ∙ ap (λ (maps : List LeafMap). selected span.lo span.hi (map_at maps groups.others.leaf))
      reads.reads.working) in
      let rs = rows_inside span f in
      let some = filter (has_others groups.mask.now (data_fields file)) rs in
      let all = steps_inside file t groups _ maps f c.requires.storable c.requires.tree is
      c.requires.groups span most _ _ few
      (ap length found ∙ length-map rs (λ (r : Row). entry_of (first_entry groups r)))
      (ap length others ∙ length-map some (λ (r : Row). entry_of (other_entry groups r))) in
      omega (
        arith,
        all,
        counted_most _ _ _ _ c.in_ok-firsts.ensures.steps refl,
        counted_most _ _ _ _ c.in_ok-others.ensures.steps refl,
      );
  front = c.in_ok-add_joined_rows.ensures.front;
  reads = search rules;
}

pub returns-clause-adds : goal.returns-clause-adds
returns-clause-adds g c = record {
  rows = λ f whole is. tt;
  steps = λ f most whole is few. tt;
  front = c.in_ok-add_joined_rows.ensures.front;
  reads =
      reads_stopped g.B.View _ refl
      (λ sound.
      let file = c.args.file.now in
      let t = tree_of c.args.node.now in
      let groups = c.args.groups.now in
      let span = c.args.span.now in
      let maps = g.B.View.working c.args.leaves.now in
      let whole = sound.0 in
      let f = sound.1.0 in
      let is = sound.1.1 in
      let reads = c.in_ok-firsts.ensures.reads in
      let found = firsts_inside file t groups _ maps f c.requires.storable c.requires.tree is
      c.requires.groups c.requires.plain span
      _ (c.in_ok-firsts.ensures.entries whole) in
      let others = others_inside file t groups _ maps f c.requires.storable c.requires.tree is
      c.requires.groups c.requires.plain span
      _ (c.in_ok-others.ensures.entries (reads.ends.whole whole)
      ∙ ap (λ (maps : List LeafMap). selected span.lo span.hi (map_at maps groups.others.leaf))
      reads.reads.working) in
      let rs = rows_inside span f in
      let fits = rows_fit_inside file t groups _ maps f c.requires.storable c.requires.tree is
      c.requires.groups span in
      let order = sorted key_cmp rs (rows_order_inside file t groups _ maps f c.requires.storable
      c.requires.tree is c.requires.groups span) in
      let joined =
      c.in_ok-add_joined_rows.ensures.chosen rs (fits, order, found, others) in
      true≢false (sym joined.0 ∙ c.if-branch.false))
      (passes_joined g.B.View (read_passes g.B.View c.in_ok-firsts.ensures.reads)
      (read_passes g.B.View c.in_ok-others.ensures.reads));
}
