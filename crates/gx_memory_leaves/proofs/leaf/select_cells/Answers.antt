use Rattle.std.proofs.Common.{◌≡◌, ap, sym, rules, ◌∷◌, [], ◌∙◌, refl, true, false, Some, None, append-nil}
use Rattle.std.specs.Option.{option_copied}
use Rattle.gx_memory_leaves.specs.Cells.{is_up_to}
use Rattle.gx_memory_leaves.proofs.SelectLemmas.{from_key, begun, gone_on, passed_over, ended_outside, ended_last, range_gives, none_from_key}
use Rattle.gx_memory_leaves.proofs.leaf.select_cells.Goals as goal

pub loop-key-init : goal.loop-key-init
loop-key-init c =
    let same : c.in_ok-lo.lo ≡ c.args.span.now.lo = search rules in
    let range : c.into_iter-key-iterator.result ≡ from_key c.in_ok-lo.lo c.args.cells.now.entries =
    search rules in
    begun c.in_ok-lo.lo _ _ _ _ _ c.args.cells.now.entries same range
    c.range-key-items.ensures.ordered refl

pub returns-then-is_past_all-clause-ok : goal.returns-then-is_past_all-clause-ok
returns-then-is_past_all-clause-ok c =
    let same : c.in_ok-lo.lo ≡ c.args.span.now.lo = search rules in
    let none : from_key c.in_ok-lo.lo c.args.cells.now.entries ≡ [] =
    none_from_key c.in_ok-lo.lo c.args.cells.now.entries
    (c.is_past_all.ensures c.if-is_past_all.true) in
    sym (append-nil c.args.out.now)
    ∙ range_gives c.in_ok-lo.lo _ c.args.span.now.hi c.args.out.now [] c.args.cells.now.entries
    same (sym none) c.requires

pub returns-then-not-is_up_to-clause-ok : goal.returns-then-not-is_up_to-clause-ok
returns-then-not-is_up_to-clause-ok c =
    let same : c.in_ok-lo.lo ≡ c.args.span.now.lo = search rules in
    let range : c.into_iter-key-iterator.result ≡ from_key c.in_ok-lo.lo c.args.cells.now.entries =
    search rules in
    let step : c.loop-key.key-iterator ≡ (c.in-Some.key.now, c.in-Some.cell.now) ∷ c.next.new.self =
    search rules in
    let out_of : is_up_to c.args.span.now.hi c.in-Some.key.now ≡ false = search rules in
    ended_outside _ _ _ _ _ _ _ c.in-Some.key.now c.in-Some.cell.now c.loop-key.invariant step
    out_of
    ∙ range_gives c.in_ok-lo.lo _ _ _ _ c.args.cells.now.entries same range
    c.range-key-items.ensures.ordered

pub returns-then-not-is_up_to-clause-extends : goal.returns-then-not-is_up_to-clause-extends
returns-then-not-is_up_to-clause-extends c = c.loop-key.invariant.front

pub loop-key-preserved-in-Continue-branch-2 : goal.loop-key-preserved-in-Continue-branch-2
loop-key-preserved-in-Continue-branch-2 c =
    let step : c.loop-key.key-iterator ≡ (c.in-Some.key.now, c.in-Some.cell.now) ∷ c.next.new.self =
    search rules in
    let up : is_up_to c.args.span.now.hi c.in-Some.key.now ≡ true = search rules in
    let some : c.in-Some.cell.now ≡ Some c.in-Some-as_slice.body.now =
    sym c.as_slice-in-loop-key-2.ensures ∙ ap option_copied c.in-Some-as_slice.is in
    let same_key : c.as_slice-bytes.result.now ≡ c.in-Some.key.now = search rules in
    gone_on _ _ _ _ _ _ _ c.in-Some.key.now c.in-Some.cell.now c.loop-key.invariant step
    (record { key = c.as_slice-bytes.result.now; body = c.in-Some-as_slice.body.now })
    c.in-Some-as_slice.body.now _ up some same_key refl c.in_ok-push.ensures.ok

pub returns-in_err-push-clause-extends : goal.returns-in_err-push-clause-extends
returns-in_err-push-clause-extends c =
    (c.loop-key.invariant.front.0, c.in_err-push.ensures.err ∙ c.loop-key.invariant.front.1)

pub loop-key-preserved : goal.loop-key-preserved
loop-key-preserved c =
    let step : c.loop-key.key-iterator ≡ (c.in-Some.key.now, c.in-Some.cell.now) ∷ c.next.new.self =
    search rules in
    let none : c.in-Some.cell.now ≡ None = search rules in
    passed_over _ _ _ _ _ _ _ c.in-Some.key.now c.in-Some.cell.now c.loop-key.invariant step none

pub returns-clause-ok : goal.returns-clause-ok
returns-clause-ok c =
    let same : c.in_ok-lo.lo ≡ c.args.span.now.lo = search rules in
    let range : c.into_iter-key-iterator.result ≡ from_key c.in_ok-lo.lo c.args.cells.now.entries =
    search rules in
    let none : c.loop-key.key-iterator ≡ [] = search rules in
    ended_last _ _ _ _ _ _ c.loop-key.invariant none
    ∙ range_gives c.in_ok-lo.lo _ _ _ _ c.args.cells.now.entries same range
    c.range-key-items.ensures.ordered

pub returns-clause-extends : goal.returns-clause-extends
returns-clause-extends c = c.loop-key.invariant.front
