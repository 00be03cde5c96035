use Rattle.std.proofs.Common.{◌≡◌, ◌++◌, ◌∷◌, ◌∙◌, [], List, ap, sym, true, false, subst, append_assoc}
use Rattle.std.specs.Prelude.{IfSome, IsSomeAnd}
use Rattle.std.specs.List.{AllByRecursion}
use Rattle.gx_laws.proofs.ListLemmas.{all_more}
use Rattle.gx_ports.specs.declared.leaves.Entry.{Entry}
use Rattle.gx_actual.specs.Bodies.{body_of}
use Rattle.gx_model.specs.States.{Row, IsRowOf}
use Rattle.gx_model.specs.Found.{meets_conds}
use Rattle.gx_scan.specs.Files.{rec_of}
use Rattle.gx_scan.specs.Entries.{entry_of_row}
use Rattle.gx_scan.proofs.ScanLemmas.{row_of, row_kept, row_left}
use Rattle.gx_scan.proofs.scan.add_chosen_rows.Goals as goal

pub returns-in_default : goal.returns-in_default
returns-in_default c = record {
  chosen = λ rs is.
      let all = is.0 in
      let same = is.1 in
      let e : Entry =
      record { key = c.entry-entry.result.key.now; body = c.entry-entry.result.body.now } in
      let at = row_of (IsRowOf c.args.file.now) (entry_of_row c.args.lengths []) rs
      c.args.entries.now
      c.loop-index.index e all same c.entry-entry.ensures in
      absurd (subst (λ o. IsSomeAnd o (λ values. values.now ≡ body_of at.row.1)) c.in_default.is
      (c.behind_lengths.ensures (rec_of at.row) (ap (λ (x : Entry). x.body) at.is)));
  front = c.loop-index.invariant.front;
  fit = c.loop-index.invariant.fit;
}

pub returns-in_default-meets_all : goal.returns-in_default-meets_all
returns-in_default-meets_all c = record {
  chosen = λ rs is.
      let all = is.0 in
      let same = is.1 in
      let e : Entry =
      record { key = c.entry-entry.result.key.now; body = c.entry-entry.result.body.now } in
      let at = row_of (IsRowOf c.args.file.now) (entry_of_row c.args.lengths []) rs
      c.args.entries.now
      c.loop-index.index e all same c.entry-entry.ensures in
      let values = subst (λ o. IsSomeAnd o (λ values. values.now ≡ body_of at.row.1)) c.in-Some.is
      (c.behind_lengths.ensures (rec_of at.row) (ap (λ (x : Entry). x.body) at.is)) in
      let tested = c.meets_all.ensures at.row at.fits (ap (λ (x : Entry). x.key) at.is) values in
      let none = c.in_default-meets_all.is in
      cc;
  front = c.loop-index.invariant.front;
  fit = c.loop-index.invariant.fit;
}

pub returns-in_default-2 : goal.returns-in_default-2
returns-in_default-2 c = record {
  chosen = λ rs is.
      let all = is.0 in
      let same = is.1 in
      let e : Entry =
      record { key = c.entry-entry.result.key.now; body = c.entry-entry.result.body.now } in
      let at = row_of (IsRowOf c.args.file.now) (entry_of_row c.args.lengths []) rs
      c.args.entries.now
      c.loop-index.index e all same c.entry-entry.ensures in
      let values = subst (λ o. IsSomeAnd o (λ values. values.now ≡ body_of at.row.1)) c.in-Some.is
      (c.behind_lengths.ensures (rec_of at.row) (ap (λ (x : Entry). x.body) at.is)) in
      let read = c.in_ok-row.ensures.read at.row at.fits (ap (λ (x : Entry). x.key) at.is) values in
      let none = c.in_default-2.is in
      cc;
  front = c.loop-index.invariant.front;
  fit = c.loop-index.invariant.fit;
}

pub loop-index-preserved-then-not-is_chosen : goal.loop-index-preserved-then-not-is_chosen
loop-index-preserved-then-not-is_chosen c = record {
  rows = λ rs all same.
      let e : Entry =
      record { key = c.entry-entry.result.key.now; body = c.entry-entry.result.body.now } in
      let at = row_of (IsRowOf c.args.file.now) (entry_of_row c.args.lengths []) rs
      c.args.entries.now c.loop-index.index e all same c.entry-entry.ensures in
      let values = subst (λ o. IsSomeAnd o (λ values. values.now ≡ body_of at.row.1)) c.in-Some.is
      (c.behind_lengths.ensures (rec_of at.row) (ap (λ (x : Entry). x.body) at.is)) in
      let tested = c.meets_all.ensures at.row at.fits (ap (λ (x : Entry). x.key) at.is) values in
      let some = c.in-Some-meets_all.is in
      let chosen = c.if-not-is_chosen.true in
      let unmet : meets_conds c.args.conds.now at.row ≡ false = cc in
      row_left (IsRowOf c.args.file.now) (entry_of_row c.args.lengths [])
      (meets_conds c.args.conds.now) rs c.args.rows.now.items c.loop-index.rows.items
      c.loop-index.index e at (c.loop-index.invariant.rows rs all same) unmet;
  front = c.loop-index.invariant.front;
  fit = c.loop-index.invariant.fit;
}

pub loop-index-preserved : goal.loop-index-preserved
loop-index-preserved c = record {
  rows = λ rs all same.
      let e : Entry =
      record { key = c.entry-entry.result.key.now; body = c.entry-entry.result.body.now } in
      let at = row_of (IsRowOf c.args.file.now) (entry_of_row c.args.lengths []) rs
      c.args.entries.now c.loop-index.index e all same c.entry-entry.ensures in
      let values = subst (λ o. IsSomeAnd o (λ values. values.now ≡ body_of at.row.1)) c.in-Some.is
      (c.behind_lengths.ensures (rec_of at.row) (ap (λ (x : Entry). x.body) at.is)) in
      let tested = c.meets_all.ensures at.row at.fits (ap (λ (x : Entry). x.key) at.is) values in
      let some = c.in-Some-meets_all.is in
      let chosen = c.if-not-is_chosen.false in
      let met : meets_conds c.args.conds.now at.row ≡ true = cc in
      let read = c.in_ok-row.ensures.read at.row at.fits (ap (λ (x : Entry). x.key) at.is) values in
      let there = c.in-Some-2.is in
      let row : c.in-Some-2.row ≡ at.row = cc in
      row_kept (IsRowOf c.args.file.now) (entry_of_row c.args.lengths [])
      (meets_conds c.args.conds.now) rs c.args.rows.now.items c.loop-index.rows.items
      c.loop-index.index e at (c.loop-index.invariant.rows rs all same) c.push.new.self.items
      c.in-Some-2.row met row c.in_ok-push.ensures.items;
  front = (
    c.loop-index.invariant.front.0 ++ c.in-Some-2.row ∷ [],
    c.in_ok-push.ensures.items
        ∙ ap (λ (l : List Row). l ++ c.in-Some-2.row ∷ []) c.loop-index.invariant.front.1
        ∙ append_assoc c.args.rows.now.items c.loop-index.invariant.front.0 (c.in-Some-2.row ∷ []),
  );
  fit = λ all. subst (AllByRecursion (IsRowOf c.args.file.now)) (sym c.in_ok-push.ensures.items)
      (all_more (IsRowOf c.args.file.now) c.loop-index.rows.items c.in-Some-2.row
      (c.loop-index.invariant.fit all)
      (subst (λ o. IfSome o (IsRowOf c.args.file.now)) c.in-Some-2.is c.in_ok-row.ensures.fits));
}
