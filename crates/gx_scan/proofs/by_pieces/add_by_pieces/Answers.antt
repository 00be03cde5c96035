use Rattle.std.proofs.Common.{rules, ◌∙◌, filter, sym, subst, refl}
use Rattle.std.proofs.lemmas.Bool.{true≢false}
use Rattle.std.proofs.lemmas.List.Sorted.{IsPermutation-refl}
use Rattle.std.specs.FinMap as fin
use Rattle.std.specs.List.Sorted.{IsPermutation}
use Rattle.gx_stack.specs.Seen.{tree_of}
use Rattle.gx_stack.proofs.PassLemmas.{leaf_passes, reads_stopped}
use Rattle.gx_model.specs.Found.{meets_conds}
use Rattle.gx_scan.specs.Within.{is_within}
use Rattle.gx_scan.specs.Steps.{is_key_inside, rows_inside}
use Rattle.gx_scan.proofs.ListingLemmas.{filter_twice}
use Rattle.gx_scan.proofs.PieceLemmas.{pieces_there, rows_fit_inside, pieces_inside, pieces_steps}
use Rattle.gx_scan.proofs.by_pieces.add_by_pieces.Goals as goal

pub select-requires : goal.select-requires
select-requires g c =
    let pieces = c.args.pieces.now in
    c.requires.tree.below pieces.leaf
    (pieces_there (tree_of c.args.node.now) pieces c.requires.pieces)

pub add_pieced_rows-requires-clause-some : goal.add_pieced_rows-requires-clause-some
add_pieced_rows-requires-clause-some g c = c.requires.pieces.some

pub returns-then-branch-clause-adds : goal.returns-then-branch-clause-adds
returns-then-branch-clause-adds g c = record {
  rows = λ f whole is.
      let file = c.args.file.now in
      let t = tree_of c.args.node.now in
      let pieces = c.args.pieces.now in
      let span = c.args.span.now in
      let maps = g.B.View.working c.args.leaves.now in
      let fits = rows_fit_inside file t pieces _ maps f c.requires.storable c.requires.tree is
      c.requires.pieces span in
      let all = pieces_inside file t pieces _ maps f c.requires.storable c.requires.tree is
      c.requires.pieces span c.requires.span c.new-entries.result c.select.new.out
      c.new-entries.ensures (c.in_ok-select.ensures.ok whole) in
      let meets = meets_conds c.args.conds.now in
      let rows = filter (is_within span c.args.conds.now) (fin.entries f) in
      record {
        added = filter meets (rows_inside span f);
        appended = (c.in_ok-add_pieced_rows.ensures.chosen (rows_inside span f) (fits, all)).1;
        those = subst (IsPermutation rows)
            (sym (filter_twice meets (is_key_inside span) (fin.entries f)))
            (IsPermutation-refl rows);
      };
  steps = λ f most whole is few.
      pieces_steps c.args.file.now (tree_of c.args.node.now) c.args.pieces.now _
      (g.B.View.working c.args.leaves.now) f c.requires.storable c.requires.tree is
      c.requires.pieces c.args.span.now c.requires.span c.new-entries.result c.select.new.out
      c.new-entries.ensures (c.in_ok-select.ensures.ok whole) most _ _ few
      c.in_ok-select.ensures.steps;
  front = c.in_ok-add_pieced_rows.ensures.front;
  reads = search rules;
}

pub returns-clause-adds : goal.returns-clause-adds
returns-clause-adds g c = record {
  rows = λ f whole is. tt;
  steps = λ f most whole is few. tt;
  front = c.in_ok-add_pieced_rows.ensures.front;
  reads =
      reads_stopped g.B.View _ refl
      (λ sound.
      let file = c.args.file.now in
      let t = tree_of c.args.node.now in
      let pieces = c.args.pieces.now in
      let span = c.args.span.now in
      let maps = g.B.View.working c.args.leaves.now in
      let f = sound.1.0 in
      let is = sound.1.1 in
      let fits = rows_fit_inside file t pieces _ maps f c.requires.storable c.requires.tree is
      c.requires.pieces span in
      let all = pieces_inside file t pieces _ maps f c.requires.storable c.requires.tree is
      c.requires.pieces span c.requires.span c.new-entries.result c.select.new.out
      c.new-entries.ensures (c.in_ok-select.ensures.ok sound.0) in
      true≢false
      (sym (c.in_ok-add_pieced_rows.ensures.chosen (rows_inside span f) (fits, all)).0
      ∙ c.if-branch.false))
      (leaf_passes g.B.View c.in_ok-select.ensures.reads);
}
