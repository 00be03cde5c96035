use Rattle.std.proofs.Common.{arith, length, ◌-◌, ap}
use Rattle.gx_commands.specs.declared.command.Find.{Find}
use Rattle.gx_explain.proofs.DirectionLemmas.{last_at}
use Rattle.gx_explain.proofs.directions.file_behind.Goals as goal

pub returns-in-Some : goal.returns-in-Some
returns-in-Some c =
    let item = c.in-Some.ensures.item in
    ap (λ (q : Find). q.file) (last_at c.args.first.now c.args.legs.now c.in-Some.leg.now
    (length c.args.legs.now - 1) (omega (arith, item.3.0)) item.1)
