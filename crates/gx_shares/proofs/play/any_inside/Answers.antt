use Rattle.std.proofs.Common.{sym, arith}
use Rattle.gx_sessions.specs.Turns.{is_in_at}
use Rattle.gx_shares.proofs.ReadLemmas.{none_in}
use Rattle.gx_shares.proofs.play.any_inside.Goals as goal

pub returns : goal.returns
returns g c =
    sym (none_in (is_in_at c.args.sessions.now)
    (λ n number. c.loop-session.invariant n number.0
    (omega (arith, number.1, c.loop-session-test.false))))
