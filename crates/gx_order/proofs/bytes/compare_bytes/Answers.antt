use Rattle.std.proofs.Common.{◌∙◌}
use Rattle.gx_order.proofs.OrderLemmas.{by_fronts, by_others}
use Rattle.gx_order.proofs.bytes.compare_bytes.Goals as goal

pub returns-then-x-y : goal.returns-then-x-y
returns-then-x-y c =
    let left = c.in-Some-Some.ensures in
    let right = c.in-Some-Some.ensures' in
    c.cmp-then-x-y.ensures
    ∙ by_fronts _ _ _ _ c.in-Some-Some.rest.now c.in-Some-Some.others.now left.0 right.0 left.1
    right.1 c.if-x-y.true

pub returns-else-x-y : goal.returns-else-x-y
returns-else-x-y c =
    let left = c.in-Some-Some.ensures in
    let right = c.in-Some-Some.ensures' in
    c.compare_front.ensures
    ∙ by_others _ _ _ _ c.in-Some-Some.rest.now c.in-Some-Some.others.now left.0 right.0 left.1
    right.1 c.if-x-y.false
