use Rattle.std.proofs.Common.{◌≤◌, length, arith}
use Rattle.gx_order.proofs.OrderLemmas.{split}
use Rattle.gx_partition.proofs.ranges.first_number.Goals as goal

pub returns : goal.returns
returns c =
    let parts = c.in_ok-front.ensures.cases in
    let long : 8 ≤ length c.args.bytes.now = omega (arith, parts.2) in (
      c.from_be_bytes.type_inv,
      split c.args.bytes.now c.in_ok-front.front.now c.in_ok-front.rest.now c.from_be_bytes.result
          long parts.0 parts.1 (λ i. (c.type_inv.bytes i).fits) c.from_be_bytes.ensures,
    )
