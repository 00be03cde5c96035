use Rattle.std.proofs.Common.{ℕ, Option, Err, refl, sym, subst, ◌∙◌}
use Rattle.std.proofs.lemmas.Bool.{true≢false}
use Rattle.gx_ports.specs.declared.stop.Stop.TheVariants as stop
use Rattle.gx_schema.specs.declared.schema.Schema.{Schema}
use Rattle.gx_engine.specs.Steps.{schema_of}
use Rattle.gx_sharing.specs.Sharing.{session_after}
use Rattle.gx_sessions.specs.Standings.{IsSession}
use Rattle.gx_sessions.specs.Shared.{seeing, view_for, EndsCarry, IsCarriedFor}
use Rattle.gx_sessions.proofs.SharedLemmas.{carries_unmade, err_is}
use Rattle.gx_sessions.proofs.CarryLemmas.{ends_early, ends_by}
use Rattle.gx_sessions.proofs.ReadLemmas.{reading, read_for}
use Rattle.gx_sessions.proofs.shared.SharedEngine.read.Goals as goal

pub returns-in_err-give_up_stale-clause-not_full : goal.returns-in_err-give_up_stale-clause-not_full
returns-in_err-give_up_stale-clause-not_full g c = λ p shared full.
    c.in_err-give_up_stale.ensures.not_full p shared
    (sym (err_is c.from_residual.result c.in_err-give_up_stale.field-0.0 c.from_residual.ensures.1)
    ∙ full)

pub returns-in_err-follow-clause-ends : goal.returns-in_err-follow-clause-ends
returns-in_err-follow-clause-ends g c =
    subst (EndsCarry g.B.View c.args.command c.args.self.now.engine
    c.give_up_stale.new.self.engine c.args.out.now c.args.out.now)
    (sym (err_is c.from_residual-in_err-follow.result stop.NoMemory
    c.from_residual-in_err-follow.ensures.1))
    (ends_early g.B.View c.args.command c.args.self.now.engine c.give_up_stale.new.self.engine
    c.args.out.now stop.NoMemory
    (carries_unmade g.B.View c.args.self.now.engine c.give_up_stale.new.self.engine stop.NoMemory
    c.in_ok-give_up_stale.ensures.carries refl))

pub returns-in_err-step-clause-not_full : goal.returns-in_err-step-clause-not_full
returns-in_err-step-clause-not_full g c = λ p shared full.
    true≢false (sym (c.in_err-step.ensures.full
    (seeing p (view_for (schema_of c.args.self.now.engine) p c.args.self.now.carried))
    (c.in_ok-give_up_stale.ensures.stands p shared)
    (sym (err_is c.from_residual-in_err-step.result c.in_err-step.field-0.0
    c.from_residual-in_err-step.ensures.1) ∙ full)).0.kind
    ∙ (reading c.args.command c.requires.reads).roomless)

pub returns-in_err-step-clause-ends : goal.returns-in_err-step-clause-ends
returns-in_err-step-clause-ends g c =
    subst (EndsCarry g.B.View c.args.command c.args.self.now.engine c.step.new.engine
    c.args.out.now c.step.new.out)
    (sym (err_is c.from_residual-in_err-step.result c.in_err-step.field-0.0
    c.from_residual-in_err-step.ensures.1))
    (ends_by g.B.View c.args.command c.args.self.now.engine c.give_up_stale.new.self.engine
    c.step.new.engine c.args.out.now c.step.new.out (Err c.in_err-step.field-0.0)
    c.in_ok-give_up_stale.ensures.carries c.in_err-step.ensures.rest
    c.in_err-step.ensures.kept c.in_err-step.ensures.unsaid c.in_err-step.ensures.cause.0
    c.in_err-step.ensures.cause.1 c.in_err-step.ensures.goes_on.0 c.in_err-step.ensures.goes_on.1)

pub returns-clause-carried : goal.returns-clause-carried
returns-clause-carried g c = λ p n shared is other clear.
    let e = c.args.self.now.engine in
    let x = c.in_ok-give_up_stale.ensures.carries in
    let q = seeing p (view_for (schema_of e) p c.args.self.now.carried) in
    let at = c.in_ok-give_up_stale.ensures.stands p shared in
    subst (λ (k : Option ℕ). IsCarriedFor g.B.View p n c.args.command (schema_of e) k
    c.step.new.engine c.follow.new.self c.args.out.now c.step.new.out)
    (sym c.in_ok-give_up_stale.ensures.carried)
    (read_for g.B.View p n c.args.command (schema_of e) c.args.self.now.carried
    c.give_up_stale.new.self.engine c.step.new.engine c.follow.new.self c.args.out.now
    c.step.new.out x.schema other c.requires.reads clear at c.in_ok-step.ensures.rest
    (c.in_ok-step.ensures.carried q at)
    (subst (λ (schema : Schema). IsSession schema (session_after (p.session n) c.args.command)
    c.follow.new.self)
    (c.schema.ensures ∙ x.schema)
    (c.in_ok-follow.ensures.followed (p.session n)
    (subst (λ (schema : Schema). IsSession schema (p.session n) c.args.state.now)
    (sym (c.schema.ensures ∙ x.schema)) is))))
