use Rattle.std.proofs.Common.{sym, subst}
use Rattle.gx_shares.specs.Steps.{IsTurnStep}
use Rattle.gx_shares.proofs.CarryLemmas.{turn_step}
use Rattle.gx_shares.proofs.carry.take_turn.Goals as goal

pub returns-clause-step : goal.returns-clause-step
returns-clause-step g c =
    let old = c.args.sessions.now in
    let new = c.turn.new.self in
    subst (IsTurnStep g.B.View old new c.args.session c.args.command c.args.out.now c.turn.new.out)
    (sym c.without_first.ensures)
    (turn_step g.B.View c.args.session c.args.command old new c.args.out.now c.turn.new.out
    c.turn.result c.requires.going c.turn.ensures.turned c.turn.ensures.full c.turn.ensures.images
    c.turn.ensures.ends)
