use Rattle.std.proofs.Common.{rules, ◌∙◌, filter, length, sym, subst, refl, arith}
use Rattle.std.proofs.lemmas.Bool.{true≢false}
use Rattle.std.proofs.lemmas.List.Sorted.{IsPermutation-refl}
use Rattle.std.specs.FinMap as fin
use Rattle.std.specs.List.Sorted.{IsPermutation}
use Rattle.gx_stack.specs.Seen.{tree_of}
use Rattle.gx_stack.proofs.PassLemmas.{read_passes, reads_stopped}
use Rattle.gx_model.specs.Found.{meets_conds}
use Rattle.gx_scan.specs.Within.{is_within}
use Rattle.gx_scan.specs.Steps.{is_key_inside, rows_inside}
use Rattle.gx_scan.proofs.ColumnLemmas.{columns_many, column_there, rows_fit_inside, entries_inside, entries_many, steps_inside}
use Rattle.gx_scan.proofs.ListingLemmas.{filter_twice}
use Rattle.gx_scan.proofs.by_columns.add_by_columns.Goals as goal

pub entries_of_each-requires : goal.entries_of_each-requires
entries_of_each-requires g c = λ p h.
    c.requires.tree.below p.leaf (column_there (tree_of c.args.node.now) c.args.places.now p
    c.requires.columns h)

pub add_rows_of_columns-requires-clause-long : goal.add_rows_of_columns-requires-clause-long
add_rows_of_columns-requires-clause-long g c =
    columns_many c.args.file.now (tree_of c.args.node.now) c.args.places.now _ c.requires.tree
    c.requires.columns

pub returns-then-branch-clause-adds : goal.returns-then-branch-clause-adds
returns-then-branch-clause-adds g c = record {
  rows = λ f whole is.
      let file = c.args.file.now in
      let t = tree_of c.args.node.now in
      let ps = c.args.places.now in
      let span = c.args.span.now in
      let maps = g.B.View.working c.args.leaves.now in
      let rs = rows_inside span f in
      let found = entries_inside file t ps _ maps f c.requires.storable c.requires.tree is
      c.requires.columns span _
      (c.as_slice.ensures.value ∙ c.in_ok-columns.ensures.entries whole) in
      let fit = rows_fit_inside file t ps _ maps f c.requires.storable c.requires.tree is
      c.requires.columns span in
      let added = c.in_ok-add_rows_of_columns.ensures.chosen rs (fit, found) in
      let meets = meets_conds c.args.conds.now in
      record {
        added = filter meets rs;
        appended = added.1;
        those = subst (IsPermutation (filter (is_within span c.args.conds.now) (fin.entries f)))
            (sym (filter_twice meets (is_key_inside span) (fin.entries f)))
            (IsPermutation-refl (filter (is_within span c.args.conds.now) (fin.entries f)));
      };
  steps = λ f most whole is few.
      let file = c.args.file.now in
      let t = tree_of c.args.node.now in
      let ps = c.args.places.now in
      let span = c.args.span.now in
      let maps = g.B.View.working c.args.leaves.now in
      let many = entries_many file t ps _ maps f c.requires.storable c.requires.tree is
      c.requires.columns span _ (c.in_ok-columns.ensures.entries whole) in
      let all = steps_inside file t ps _ maps f c.requires.storable c.requires.tree is
      c.requires.columns span most (length ps) few (omega arith) in
      omega (arith, all, many, c.in_ok-columns.ensures.steps);
  front = c.in_ok-add_rows_of_columns.ensures.front;
  reads = search rules;
}

pub returns-clause-adds : goal.returns-clause-adds
returns-clause-adds g c = record {
  rows = λ f whole is. tt;
  steps = λ f most whole is few. tt;
  front = c.in_ok-add_rows_of_columns.ensures.front;
  reads =
      reads_stopped g.B.View _ refl
      (λ sound.
      let file = c.args.file.now in
      let t = tree_of c.args.node.now in
      let ps = c.args.places.now in
      let span = c.args.span.now in
      let maps = g.B.View.working c.args.leaves.now in
      let f = sound.1.0 in
      let is = sound.1.1 in
      let found = entries_inside file t ps _ maps f c.requires.storable c.requires.tree is
      c.requires.columns span _
      (c.as_slice.ensures.value ∙ c.in_ok-columns.ensures.entries sound.0) in
      let fit = rows_fit_inside file t ps _ maps f c.requires.storable c.requires.tree is
      c.requires.columns span in
      let added = c.in_ok-add_rows_of_columns.ensures.chosen (rows_inside span f) (fit, found) in
      true≢false (sym added.0 ∙ c.if-branch.false))
      (read_passes g.B.View c.in_ok-columns.ensures.reads);
}
