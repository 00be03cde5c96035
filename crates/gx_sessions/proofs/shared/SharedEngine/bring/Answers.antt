use Rattle.std.proofs.Common.{Option, Err, sym, subst, ◌∙◌}
use Rattle.gx_schema.specs.declared.schema.Schema.{Schema}
use Rattle.gx_model.specs.States.{State}
use Rattle.gx_engine.specs.Steps.{IsAt}
use Rattle.gx_sharing.specs.Sharing.{view_in}
use Rattle.gx_sessions.specs.Standings.{IsSession}
use Rattle.gx_sessions.specs.Shared.{seeing, Carries}
use Rattle.gx_sessions.proofs.SharedLemmas.{carries_still, carries_then, err_is}
use Rattle.gx_sessions.proofs.BringLemmas.{short_same}
use Rattle.gx_sessions.proofs.shared.SharedEngine.bring.Goals as goal

pub returns-then-stands_for-clause-brought : goal.returns-then-stands_for-clause-brought
returns-then-stands_for-clause-brought g c = λ p shared is.
    subst (λ (w : Option State). IsAt g.B.View (seeing p w) c.args.self.now.engine)
    (shared.own c.args.session (c.stands_for.ensures.yes c.if-stands_for.true)) shared.at

pub returns-then-stands_for-clause-carries : goal.returns-then-stands_for-clause-carries
returns-then-stands_for-clause-carries g c =
    carries_still g.B.View c.args.self.now.engine c.requires.ready c.requires.going

pub returns-in_err-give_up-clause-full : goal.returns-in_err-give_up-clause-full
returns-in_err-give_up-clause-full g c = λ p shared is full.
    absurd (c.in_err-give_up.ensures.not_full p shared.working shared.at
    (sym (err_is c.from_residual.result c.in_err-give_up.field-0.0 c.from_residual.ensures.1)
    ∙ full))

pub returns-in_err-open-clause-full : goal.returns-in_err-open-clause-full
returns-in_err-open-clause-full g c = λ p shared is full.
    short_same g.B.View c.args.self.now.engine c.give_up.new.self.engine
    c.in_ok-give_up.ensures.carries p c.args.state.now.kept.items
    (c.in_err-open.ensures.full p (c.in_ok-give_up.ensures.given_up p shared.working shared.at)
    (sym (err_is c.from_residual-in_err-open.result c.in_err-open.field-0.0
    c.from_residual-in_err-open.ensures.1) ∙ full))

pub returns-in_err-open-clause-carries : goal.returns-in_err-open-clause-carries
returns-in_err-open-clause-carries g c =
    subst (Carries g.B.View c.args.self.now.engine c.open.new.self.engine)
    (sym (err_is c.from_residual-in_err-open.result c.in_err-open.field-0.0
    c.from_residual-in_err-open.ensures.1))
    (carries_then g.B.View c.args.self.now.engine c.give_up.new.self.engine
    c.open.new.self.engine (Err c.in_err-open.field-0.0) c.in_ok-give_up.ensures.carries
    c.in_err-open.ensures.carries)

pub returns-clause-brought : goal.returns-clause-brought
returns-clause-brought g c = λ p shared is.
    let mid = c.give_up.new.self.engine in
    let same = c.in_ok-give_up.ensures.carries.schema in
    subst (λ (schema : Schema). IsAt g.B.View
    (seeing p (view_in schema p.kept (p.session c.args.session))) c.open.new.self.engine) same
    (c.in_ok-open.ensures.opened p (p.session c.args.session)
    (c.in_ok-give_up.ensures.given_up p shared.working shared.at)
    (subst (λ (schema : Schema). IsSession schema (p.session c.args.session) c.args.state.now)
    (sym same) is))

pub returns-clause-carries : goal.returns-clause-carries
returns-clause-carries g c =
    carries_then g.B.View c.args.self.now.engine c.give_up.new.self.engine c.open.new.self.engine _
    c.in_ok-give_up.ensures.carries c.in_ok-open.ensures.carries
