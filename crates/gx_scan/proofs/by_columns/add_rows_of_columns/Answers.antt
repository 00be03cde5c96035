use Rattle.std.proofs.Common.{◌++◌, ◌∙◌, [], List, refl, sym, ap, append-nil, arith}
use Rattle.std.specs.Prelude.{filter}
use Rattle.std.proofs.lemmas.Bool.{true≢false}
use Rattle.gx_actual.specs.Bodies.{body_of}
use Rattle.gx_ports.specs.declared.leaves.Entry.{Entry}
use Rattle.gx_model.specs.States.{Row}
use Rattle.gx_model.specs.Found.{meets_conds}
use Rattle.gx_scan.proofs.CallLemmas.{extends_further}
use Rattle.gx_scan.proofs.ColumnSteps.{row_at, rows_more, rows_all}
use Rattle.gx_scan.proofs.by_columns.add_rows_of_columns.Goals as goal

pub loop-index-init : goal.loop-index-init
loop-index-init c = record {
  rows = λ rs all are. sym (append-nil c.args.rows.now.items);
  front = ([], sym (append-nil c.args.rows.now.items));
  fit = λ all. all;
}

pub returns-then-not-branch : goal.returns-then-not-branch
returns-then-not-branch c = record {
  chosen = λ rs is.
      let all = is.0 in
      let are = is.1 in
      let e : Entry =
      record { key = c.entry.result.key.now; body = c.entry.result.body.now } in
      let at = row_at c.args.file.now c.args.places.now c.args.columns.now rs
      c.index-columns-0.result c.loop-index.index e c.requires.some c.requires.long all are
      c.index-columns-0.is c.entry.ensures in
      let pushed = c.in_ok-push_columns.ensures rs at.row are at.there at.key at.long in
      absurd (true≢false (sym pushed.0 ∙ c.if-not-branch.true));
  front = c.loop-index.invariant.front;
  fit = c.loop-index.invariant.fit;
}

pub returns-then-not-branch-2 : goal.returns-then-not-branch-2
returns-then-not-branch-2 c = record {
  chosen = λ rs is.
      let all = is.0 in
      let are = is.1 in
      let e : Entry =
      record { key = c.entry.result.key.now; body = c.entry.result.body.now } in
      let at = row_at c.args.file.now c.args.places.now c.args.columns.now rs
      c.index-columns-0.result c.loop-index.index e c.requires.some c.requires.long all are
      c.index-columns-0.is c.entry.ensures in
      let pushed = c.in_ok-push_columns.ensures rs at.row are at.there at.key at.long in
      let body = c.as_slice.ensures.value ∙ pushed.1
      ∙ ap (λ l. l ++ body_of at.row.1) c.clear.ensures.items in
      let added = c.in_ok-add_met.ensures.chosen at.row at.fits at.key body in
      absurd (true≢false (sym added.0 ∙ c.if-not-branch-2.true));
  front = extends_further _ _ _ c.loop-index.invariant.front c.in_ok-add_met.ensures.front;
  fit = λ all. c.in_ok-add_met.ensures.fit (c.loop-index.invariant.fit all);
}

pub loop-index-preserved : goal.loop-index-preserved
loop-index-preserved c = record {
  rows = λ rs all are.
      let e : Entry =
      record { key = c.entry.result.key.now; body = c.entry.result.body.now } in
      let at = row_at c.args.file.now c.args.places.now c.args.columns.now rs
      c.index-columns-0.result c.loop-index.index e c.requires.some c.requires.long all are
      c.index-columns-0.is c.entry.ensures in
      let pushed = c.in_ok-push_columns.ensures rs at.row are at.there at.key at.long in
      let body = c.as_slice.ensures.value ∙ pushed.1
      ∙ ap (λ l. l ++ body_of at.row.1) c.clear.ensures.items in
      let added = c.in_ok-add_met.ensures.chosen at.row at.fits at.key body in
      rows_more (meets_conds c.args.conds.now) rs c.args.rows.now.items c.loop-index.rows.items _
      c.loop-index.index at.row (c.loop-index.invariant.rows rs all are) added.1 at.more;
  front = extends_further _ _ _ c.loop-index.invariant.front c.in_ok-add_met.ensures.front;
  fit = λ all. c.in_ok-add_met.ensures.fit (c.loop-index.invariant.fit all);
}

pub returns : goal.returns
returns c = record {
  chosen = λ rs is.
      let all = is.0 in
      let are = is.1 in (
        refl,
        c.loop-index.invariant.rows rs all are
            ∙ ap (λ (l : List Row). c.args.rows.now.items ++ filter (meets_conds c.args.conds.now)
            l)
            (rows_all c.args.places.now c.args.columns.now rs c.index-columns-0.result
            c.loop-index.index c.requires.some are c.index-columns-0.is
            (omega (arith, c.len-index-end.ensures, c.loop-index-test.false))),
      );
  front = c.loop-index.invariant.front;
  fit = c.loop-index.invariant.fit;
}
