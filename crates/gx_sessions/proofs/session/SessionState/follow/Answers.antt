use Rattle.std.proofs.Common.{sym, subst}
use Rattle.gx_sharing.specs.Sharing.{Session}
use Rattle.gx_sessions.specs.Standings.{IsSession}
use Rattle.gx_sessions.proofs.StandingLemmas.{after_control}
use Rattle.gx_sessions.proofs.session.SessionState.follow.Goals as goal

pub returns-in-Some-clause-followed : goal.returns-in-Some-clause-followed
returns-in-Some-clause-followed c = λ s is.
    subst (λ (t : Session). IsSession c.args.schema.now t c.stand.new.self)
    (sym (after_control s c.args.command.now c.in-Some.standing (sym c.in-Some.ensures)))
    (c.stand.ensures.stands c.args.schema.now)
