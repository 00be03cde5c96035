use Rattle.std.proofs.Common.{arith, length, ◌-◌}
use Rattle.gx_walks.proofs.StepLemmas.{last_at}
use Rattle.gx_walks.proofs.choosing.last_find.Goals as goal

pub returns-in-Some : goal.returns-in-Some
returns-in-Some c =
    let item = c.in-Some.ensures.item in
    last_at c.args.first.now c.args.legs.now c.in-Some.leg.now
    (length c.args.legs.now - 1) (omega (arith, item.3.0)) item.1
