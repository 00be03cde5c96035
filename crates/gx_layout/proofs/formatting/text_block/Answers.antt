use Rattle.std.proofs.Common.{◌≡◌, ◌+◌, ◌-◌, ◌*◌, ℕ, take, drop, ap, arith}
use Rattle.gx_layout.proofs.formatting.text_block.Goals as goal

pub returns-clause-is : goal.returns-clause-is
returns-clause-is c =
    let at = 4096 * c.args.i in
    let long : at + 4096 - at ≡ 4096 = omega arith in
    ap (λ (n : ℕ). take n (drop at c.args.area.now)) long
