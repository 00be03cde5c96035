use Rattle.std.proofs.Common.{rules, ◌≡◌, ◌∙◌, true, false, length, ap}
use Rattle.std.specs.Prelude.{min}
use Rattle.std.specs.Ordering.{is_gt}
use Rattle.gx_laws.proofs.OrderingLemmas.{gt_not_le, not_gt_le}
use Rattle.gx_finds.specs.Spans.{is_up_to}
use Rattle.gx_finds.proofs.SpanLemmas.{order_of, first_high, second_high}
use Rattle.gx_finds.proofs.spans.lower_high.Goals as goal

pub returns-then-is_gt-clause-both : goal.returns-then-is_gt-clause-both
returns-then-is_gt-clause-both c = λ key.
    let a = c.args.high.now in
    let b = c.args.other.now in
    let n = c.min-front.result in
    let front : n ≡ min (length a) (length b) = search rules in
    let above : is_gt (order_of n a b) ≡ true = search rules in
    ap (λ hi. is_up_to hi key) c.set_key.ensures
    ∙ second_high n a b key front (gt_not_le (order_of n a b) above)

pub returns-else-is_gt-clause-both : goal.returns-else-is_gt-clause-both
returns-else-is_gt-clause-both c = λ key.
    let a = c.args.high.now in
    let b = c.args.other.now in
    let n = c.min-front.result in
    let front : n ≡ min (length a) (length b) = search rules in
    let not_above : is_gt (order_of n a b) ≡ false = search rules in
    first_high n a b key front (not_gt_le (order_of n a b) not_above)
