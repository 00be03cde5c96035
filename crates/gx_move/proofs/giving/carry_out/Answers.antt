use Rattle.gx_move.proofs.CarryLemmas.{carries_step}
use Rattle.gx_move.proofs.giving.carry_out.Goals as goal

pub returns : goal.returns
returns g c =
    carries_step g.B.View c.args.command c.args.engine.now c.step.new.self _ _ c.step.result
    c.requires.ready c.requires.going c.requires.quiet c.requires.inside c.step.ensures.carried c.step.ensures.full
    c.step.ensures.ends
