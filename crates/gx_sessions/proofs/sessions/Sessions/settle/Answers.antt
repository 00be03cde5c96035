use Rattle.std.proofs.Common.{◌∙◌, Bool, sym, subst}
use Rattle.gx_sharing.specs.Sharing.{Session, with_session}
use Rattle.gx_sessions.specs.Turns.{AreShared, MovesTo, is_in_at}
use Rattle.gx_sessions.proofs.StandingLemmas.{after_control, control_within, same_within}
use Rattle.gx_sessions.proofs.SessionsLemmas.{unmoved}
use Rattle.gx_sessions.proofs.TurnLemmas.{idled}
use Rattle.gx_sessions.proofs.sessions.Sessions.settle.Goals as goal

pub returns-in-Some-clause-settled : goal.returns-in-Some-clause-settled
returns-in-Some-clause-settled g c = λ p are is.
    subst (λ (s : Session). AreShared g.B.View
    (record p { session = with_session p.session c.args.session s }) c.stand.new.self)
    (sym (after_control (p.session c.args.session) c.args.command.now c.in-Some.standing
    (sym c.in-Some.ensures)))
    (c.stand.ensures.stands p are)

pub returns-in_default-clause-settled : goal.returns-in_default-clause-settled
returns-in_default-clause-settled g c = λ p are is.
    idled g.B.View p c.args.session c.args.command.now c.args.self.now
    (sym c.after_control.ensures ∙ c.in_default.is) is are

pub returns-in-Some-clause-moves : goal.returns-in-Some-clause-moves
returns-in-Some-clause-moves g c =
    subst (λ (b : Bool). MovesTo c.args.self.now c.stand.new.self c.args.session b)
    (control_within (is_in_at c.args.self.now c.args.session) c.args.command.now
    c.in-Some.standing (sym c.in-Some.ensures))
    c.stand.ensures.moves

pub returns-in_default-clause-moves : goal.returns-in_default-clause-moves
returns-in_default-clause-moves g c =
    unmoved c.args.self.now c.args.session _
    (same_within (is_in_at c.args.self.now c.args.session) c.args.command.now
    (sym c.after_control.ensures ∙ c.in_default.is))
