use Rattle.std.proofs.Common.{◌≡◌, get_or, false, true, refl, sym, ap, ◌∙◌, arith}
use Rattle.std.specs.Ordering.{is_eq}
use Rattle.std.specs.List.{prefix_len}
use Rattle.std.proofs.lemmas.List.{get_or_default}
use Rattle.gx_values.specs.Values.{value_cmp}
use Rattle.gx_plain_state.proofs.MapLemmas.{is_past, put_over, put_before, tie_at}
use Rattle.gx_plain_state.proofs.files.put_row.Goals as goal
use Rattle.gx_plain_state.proofs.files.put_row.Goals.{else-at-len-via-then-at-len+else-is_eq, else-at-len-via-else-at-len}

pub returns-then-is_eq-clause-ok : goal.returns-then-is_eq-clause-ok
returns-then-is_eq-clause-ok c =
    put_over c.args.row.0 c.args.row.1 c.args.rows.now.items _ c.index.result.now
    c.place_of-at.result
    (c.place_of-at.ensures.value
    ∙ (λ i. prefix_len (λ e. is_past (c.row.view_is i).0 e.0) (c.deref.ensures.value i)))
    (omega (arith, c.if-at-len.true, c.len.ensures, c.args.rows.now.ok.0))
    (tie_at c.args.rows.now.items c.place_of-at.result c.args.row
    (c.behind-rows.inside.key, c.behind-rows.inside.values) c.index.result.now c.row.inside.key
    c.compare.result true (ap (λ r. r.0) c.row.view_is) c.behind-rows.view_is
    c.index.ensures c.compare.ensures (sym c.is_eq.ensures ∙ c.if-is_eq.true))
    refl

pub returns-clause-ok : goal.returns-clause-ok
returns-clause-ok c =
    put_before c.args.row.0 c.args.row.1 c.args.rows.now.items _ c.args.row c.place_of-at.result
    (c.place_of-at.ensures.value
    ∙ (λ i. prefix_len (λ e. is_past (c.row.view_is i).0 e.0) (c.deref.ensures.value i)))
    (λ lt. elim c.else-at-len.branch as
    (λ _. is_eq (value_cmp c.args.row.0
    (get_or c.args.rows.now.items c.place_of-at.result c.args.row).0) ≡ false) [
      | else-at-len-via-then-at-len+else-is_eq w ↦
          let e = get_or_default c.args.rows.now.items c.place_of-at.result c.args.row
          w.index.result.now lt in
          ap (λ r. is_eq (value_cmp c.args.row.0 r.0)) e
          ∙ tie_at c.args.rows.now.items c.place_of-at.result c.args.row
          (w.behind-rows.inside.key, w.behind-rows.inside.values) w.index.result.now
          c.row.inside.key w.compare.result false (ap (λ r. r.0) c.row.view_is)
          w.behind-rows.view_is w.index.ensures w.compare.ensures (sym w.is_eq.ensures
          ∙ w.if-is_eq.false)
      | else-at-len-via-else-at-len w ↦
          absurd (omega (arith, lt, w.if-at-len.false, c.len.ensures, c.args.rows.now.ok.0))
    ])
    c.in_ok-insert.ensures.items
