use Rattle.std.proofs.Common.{◌≡◌, ◌++◌, ◌∷◌, ◌≤◌, [], length, drop, sym, subst, refl, arith, append-nil}
use Rattle.std.specs.Prelude.{IsSomeAnd, filter}
use Rattle.std.proofs.lemmas.List.{length-drop}
use Rattle.gx_model.specs.States.{IsRowOf}
use Rattle.gx_model.specs.Found.{meets_conds}
use Rattle.gx_scan.proofs.CallLemmas.{extends_further}
use Rattle.gx_scan.proofs.PiecedLemmas.{IsAdded, none_read, next_row, all_read}
use Rattle.gx_scan.proofs.pieced.add_pieced_rows.Goals as goal
use Rattle.gx_mapping.proofs.RuleLemmas.{all_in}

pub loop-at-init : goal.loop-at-init
loop-at-init c = record {
  rows = λ rs all same. none_read c.args.size rs c.args.entries.now (meets_conds c.args.conds.now)
      c.args.rows.now.items c.args.rows.now.items same refl;
  front = ([], sym (append-nil c.args.rows.now.items));
  fit = λ all. all;
}

pub returns-in_default : goal.returns-in_default
returns-in_default c = record {
  chosen = λ rs is.
      let all = is.0 in
      let same = is.1 in
      let at = c.loop-at.at in
      let es = drop at c.args.entries.now in
      let meets = meets_conds c.args.conds.now in
      let some : 1 ≤ length es =
      omega (arith, length-drop at c.args.entries.now, c.loop-at-test.true, c.len.ensures) in
      let next = next_row c.args.size rs es meets c.args.rows.now.items c.loop-at.rows.items
      (c.loop-at.invariant.rows rs all same) some in
      let fit = all_in (IsRowOf c.args.file.now) rs next.row all next.there in
      let added = c.in_ok-found.ensures.chosen next.row next.more fit next.front in
      absurd (subst (λ o. IsSomeAnd o (IsAdded c.args.entries.now next.more
      c.add_record.new.rows.items (c.loop-at.rows.items ++ filter meets (next.row ∷ []))))
      c.in_default.is added);
  front = extends_further _ _ _ c.loop-at.invariant.front c.in_ok-found.ensures.front;
  fit = λ all. c.in_ok-found.ensures.fit (c.loop-at.invariant.fit all);
}

pub loop-at-preserved : goal.loop-at-preserved
loop-at-preserved c = record {
  rows = λ rs all same.
      let at = c.loop-at.at in
      let es = drop at c.args.entries.now in
      let meets = meets_conds c.args.conds.now in
      let some : 1 ≤ length es =
      omega (arith, length-drop at c.args.entries.now, c.loop-at-test.true, c.len.ensures) in
      let next = next_row c.args.size rs es meets c.args.rows.now.items c.loop-at.rows.items
      (c.loop-at.invariant.rows rs all same) some in
      let fit = all_in (IsRowOf c.args.file.now) rs next.row all next.there in
      let added = c.in_ok-found.ensures.chosen next.row next.more fit next.front in
      let here = subst (λ o. IsSomeAnd o (IsAdded c.args.entries.now next.more
      c.add_record.new.rows.items (c.loop-at.rows.items ++ filter meets (next.row ∷ []))))
      c.in-Some.is added in
      next.then_read _ _ here.0 here.1;
  front = extends_further _ _ _ c.loop-at.invariant.front c.in_ok-found.ensures.front;
  fit = λ all. c.in_ok-found.ensures.fit (c.loop-at.invariant.fit all);
}

pub returns : goal.returns
returns c = record {
  chosen = λ rs is.
      let all = is.0 in
      let same = is.1 in
      let at = c.loop-at.at in
      let none : length (drop at c.args.entries.now) ≡ 0 =
      omega (arith, length-drop at c.args.entries.now, c.loop-at-test.false, c.len.ensures) in (
        refl,
        all_read c.args.size rs (drop at c.args.entries.now) (meets_conds c.args.conds.now)
            c.args.rows.now.items c.loop-at.rows.items (c.loop-at.invariant.rows rs all same) none,
      );
  front = c.loop-at.invariant.front;
  fit = c.loop-at.invariant.fit;
}
