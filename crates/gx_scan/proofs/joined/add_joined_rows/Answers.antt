use Rattle.std.proofs.Common.{◌≡◌, ◌+◌, ◌++◌, ◌∷◌, ◌∙◌, [], List, map, drop, take, sym, ap, subst, append_assoc}
use Rattle.std.specs.Prelude.{IsSomeAnd, filter, not}
use Rattle.std.proofs.lemmas.Bool.{true≢false}
use Rattle.std.proofs.lemmas.List.Elements.{filter-append}
use Rattle.gx_ports.specs.declared.leaves.Entry.{Entry}
use Rattle.gx_ports.specs.LeafMaps.{entry_of}
use Rattle.gx_schema.specs.Lookups.{data_fields}
use Rattle.gx_actual.specs.Bodies.{body_of}
use Rattle.gx_split.specs.Groups.{chosen, defaults_of}
use Rattle.gx_gather.proofs.Orders.{ascends}
use Rattle.gx_model.specs.States.{Row, IsRowOf}
use Rattle.gx_model.specs.Found.{meets_conds}
use Rattle.gx_scan.specs.Groups.{has_others, first_entry, other_entry}
use Rattle.gx_scan.proofs.CallLemmas.{extends_further}
use Rattle.gx_scan.proofs.PlaceLemmas.{key_cmp}
use Rattle.gx_scan.proofs.ScanLemmas.{row_of}
use Rattle.gx_scan.proofs.JoinLemmas.{drop_row, differ_later}
use Rattle.gx_scan.proofs.joined.add_joined_rows.Goals as goal

pub returns-in_default : goal.returns-in_default
returns-in_default c = record {
  chosen = λ rs is.
      let all = is.0 in
      let order = is.1 in
      let firsts = is.2 in
      let others = is.3 in
      let g = c.args.groups.now in
      let file = c.args.file.now in
      let fields = data_fields file in
      let i = c.loop-index.index in
      let e : Entry =
      record { key = c.entry-entry.result.key.now; body = c.entry-entry.result.body.now } in
      let so_far = c.loop-index.invariant.rows rs all order firsts others in
      let at = row_of (IsRowOf file) (first_entry g) rs c.args.firsts.now i e all firsts
      c.entry-entry.ensures in
      let here = drop_row rs i at.row at.more in
      let later = drop (i + 1) rs in
      let made = λ (r : Row). entry_of (other_entry g r) in
      let has = has_others g.mask.now fields in
      let key = ap (λ (x : Entry). x.key) at.is in
      let defaults = c.as_slice.ensures.value ∙ c.in_ok-defaults.ensures
      ∙ ap (λ fs. body_of (defaults_of (chosen (map not g.mask.now) fs))) c.data_fields.ensures in
      let next = subst (λ o. IsSomeAnd o (λ s. (s.0.now
      ≡ body_of (chosen (map not g.mask.now) at.row.1))
      × (drop s.1 c.args.others.now ≡ map made (filter has later))))
      c.in_default.is (c.next_others-next.ensures at.row later at.fits key
      (differ_later file rs i at.row c.requires.storable.key all (ascends key_cmp rs order) at.fits
      here)
      defaults (so_far.0 ∙ ap (λ (l : List Row). map made (filter has l)) here)) in
      absurd next;
  front = c.loop-index.invariant.front;
  fit = c.loop-index.invariant.fit;
}

pub returns-then-not-branch : goal.returns-then-not-branch
returns-then-not-branch c = record {
  chosen = λ rs is.
      let all = is.0 in
      let order = is.1 in
      let firsts = is.2 in
      let others = is.3 in
      let g = c.args.groups.now in
      let file = c.args.file.now in
      let fields = data_fields file in
      let i = c.loop-index.index in
      let e : Entry =
      record { key = c.entry-entry.result.key.now; body = c.entry-entry.result.body.now } in
      let so_far = c.loop-index.invariant.rows rs all order firsts others in
      let at = row_of (IsRowOf file) (first_entry g) rs c.args.firsts.now i e all firsts
      c.entry-entry.ensures in
      let here = drop_row rs i at.row at.more in
      let later = drop (i + 1) rs in
      let made = λ (r : Row). entry_of (other_entry g r) in
      let has = has_others g.mask.now fields in
      let key = ap (λ (x : Entry). x.key) at.is in
      let defaults = c.as_slice.ensures.value ∙ c.in_ok-defaults.ensures
      ∙ ap (λ fs. body_of (defaults_of (chosen (map not g.mask.now) fs))) c.data_fields.ensures in
      let next = subst (λ o. IsSomeAnd o (λ s. (s.0.now
      ≡ body_of (chosen (map not g.mask.now) at.row.1))
      × (drop s.1 c.args.others.now ≡ map made (filter has later))))
      c.in-Some.is (c.next_others-next.ensures at.row later at.fits key
      (differ_later file rs i at.row c.requires.storable.key all (ascends key_cmp rs order) at.fits
      here)
      defaults (so_far.0 ∙ ap (λ (l : List Row). map made (filter has l)) here)) in
      let done = c.in_ok-add_joined.ensures.chosen at.row at.fits key (ap (λ (x : Entry). x.body)
      at.is) next.0 in
      absurd (true≢false (sym done.0 ∙ c.if-not-branch.true));
  front = extends_further _ _ _ c.loop-index.invariant.front c.in_ok-add_joined.ensures.front;
  fit = λ all. c.in_ok-add_joined.ensures.fit (c.loop-index.invariant.fit all);
}

pub loop-index-preserved : goal.loop-index-preserved
loop-index-preserved c = record {
  rows = λ rs all order firsts others.
      let g = c.args.groups.now in
      let file = c.args.file.now in
      let fields = data_fields file in
      let i = c.loop-index.index in
      let e : Entry =
      record { key = c.entry-entry.result.key.now; body = c.entry-entry.result.body.now } in
      let so_far = c.loop-index.invariant.rows rs all order firsts others in
      let at = row_of (IsRowOf file) (first_entry g) rs c.args.firsts.now i e all firsts
      c.entry-entry.ensures in
      let here = drop_row rs i at.row at.more in
      let later = drop (i + 1) rs in
      let made = λ (r : Row). entry_of (other_entry g r) in
      let has = has_others g.mask.now fields in
      let key = ap (λ (x : Entry). x.key) at.is in
      let defaults = c.as_slice.ensures.value ∙ c.in_ok-defaults.ensures
      ∙ ap (λ fs. body_of (defaults_of (chosen (map not g.mask.now) fs))) c.data_fields.ensures in
      let next = subst (λ o. IsSomeAnd o (λ s. (s.0.now
      ≡ body_of (chosen (map not g.mask.now) at.row.1))
      × (drop s.1 c.args.others.now ≡ map made (filter has later))))
      c.in-Some.is (c.next_others-next.ensures at.row later at.fits key
      (differ_later file rs i at.row c.requires.storable.key all (ascends key_cmp rs order) at.fits
      here)
      defaults (so_far.0 ∙ ap (λ (l : List Row). map made (filter has l)) here)) in
      let done = c.in_ok-add_joined.ensures.chosen at.row at.fits key (ap (λ (x : Entry). x.body)
      at.is) next.0 in
      let meets = meets_conds c.args.conds.now in
      let old = c.args.rows.now.items in (
        next.1,
        done.1 ∙ ap (λ (l : List Row). l ++ filter meets (at.row ∷ [])) so_far.1
            ∙ append_assoc old (filter meets (take i rs)) (filter meets (at.row ∷ []))
            ∙ ap (λ (l : List Row). old ++ l) (sym (ap (filter meets) at.more
            ∙ filter-append meets (take i rs) (at.row ∷ []))),
      );
  front = extends_further _ _ _ c.loop-index.invariant.front c.in_ok-add_joined.ensures.front;
  fit = λ all. c.in_ok-add_joined.ensures.fit (c.loop-index.invariant.fit all);
}
