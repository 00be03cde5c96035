use Rattle.std.proofs.Common.{sym, subst}
use Rattle.gx_play.proofs.PlayLemmas.{is_err}
use Rattle.gx_shares.specs.Carried.{as_line, IsCommandStep}
use Rattle.gx_shares.proofs.StepLemmas.{command_cut, command_said, command_unsaid}
use Rattle.gx_shares.proofs.carry.carry_out.Goals as goal

pub returns-in_err-turn-clause-step : goal.returns-in_err-turn-clause-step
returns-in_err-turn-clause-step g c = λ line.
    subst (λ r. IsCommandStep g.B.View c.args.sessions.now c.take_turn.new.sessions c.args.session
    c.args.command line (as_line r)) (sym (is_err _ _ c.from_residual.ensures.1))
    (command_cut g.B.View c.args.session c.args.command c.args.sessions.now
    c.take_turn.new.sessions c.clear.new.self.items c.take_turn.new.out _
    c.in_err-turn.ensures.step line)

pub returns-in_err-say_turn-clause-step : goal.returns-in_err-say_turn-clause-step
returns-in_err-say_turn-clause-step g c = λ line.
    subst (λ r. IsCommandStep g.B.View c.args.sessions.now c.say_turn.new.sessions c.args.session
    c.args.command line (as_line r)) (sym (is_err _ _ c.from_residual-in_err-say_turn.ensures.1))
    (command_unsaid g.B.View g.met.B.Leaves.calm_means g.met.B.Leaves.calm_now c.args.session
    c.args.command c.args.sessions.now c.take_turn.new.sessions c.say_turn.new.sessions
    c.in_ok-turn.turn _ c.take_turn.new.out c.as_slice.result.now c.clear.ensures.items
    c.as_slice.ensures c.in_ok-turn.ensures.step c.say_turn.ensures.same line _
    c.in_err-say_turn.ensures.says)

pub returns-clause-step : goal.returns-clause-step
returns-clause-step g c = λ line.
    command_said g.B.View g.met.B.Leaves.calm_means g.met.B.Leaves.calm_now c.args.session
    c.args.command c.args.sessions.now c.take_turn.new.sessions c.say_turn.new.sessions
    c.in_ok-turn.turn _ c.take_turn.new.out c.as_slice.result.now c.clear.ensures.items
    c.as_slice.ensures c.in_ok-turn.ensures.step c.say_turn.ensures.same line
    c.in_ok-say_turn.ensures.says
