use Rattle.std.proofs.Common.{◌∷◌, [], Result, Ok, Err, refl, sym, ap, subst, ◌∙◌}
use Rattle.gx_ports.specs.Stops.{is_fault}
use Rattle.gx_ports.specs.declared.stop.Stop.{Stop}
use Rattle.gx_ports.specs.declared.stop.Stop.TheVariants as stop
use Rattle.gx_schema.specs.declared.schema.Schema.{Schema}
use Rattle.gx_commands.specs.Commands.{IsOfSchema, place_reason, inside_after}
use Rattle.gx_model.specs.Play.{after_command}
use Rattle.gx_engine.specs.Steps.{schema_of, built_of, leaves_of}
use Rattle.gx_sharing.specs.Sharing.{play_of, session_after, after_turn, answered}
use Rattle.gx_sessions.specs.Standings.{IsSession, IsWhole, commands_of}
use Rattle.gx_sessions.specs.Shared.{EndsCarry, LeavesTurn}
use Rattle.gx_sessions.proofs.SharedLemmas.{short_more, carries_unmade, err_is}
use Rattle.gx_sessions.proofs.BringLemmas.{short_last, carried_for}
use Rattle.gx_sessions.proofs.CarryLemmas.{ends_early, ends_by, kept_turn, stepped_turn}
use Rattle.gx_sessions.proofs.shared.SharedEngine.carry_out.Goals as goal

pub returns-in_err-bring-clause-full : goal.returns-in_err-bring-clause-full
returns-in_err-bring-clause-full g c = λ p shared is full.
    let e = c.args.self.now.engine in
    short_more (schema_of e) (built_of e) (g.B.View.limit (leaves_of e)) p
    c.args.state.now.kept.items (commands_of (p.session c.args.session)) (c.args.command ∷ [])
    is.kept (c.in_err-bring.ensures.full p shared is
    (sym (err_is c.from_residual.result c.in_err-bring.field-0.0 c.from_residual.ensures.1) ∙ full))

pub returns-in_err-bring-clause-images : goal.returns-in_err-bring-clause-images
returns-in_err-bring-clause-images g c = λ p shared is start calm.
    kept_turn g.B.View g.met.B.Leaves.calm_means g.met.B.Leaves.calm_now p _ shared.working
    c.args.self.now.engine c.bring.new.self.engine _ shared.at c.in_err-bring.ensures.carries.keeps
    start calm

pub returns-in_err-bring-clause-ends : goal.returns-in_err-bring-clause-ends
returns-in_err-bring-clause-ends g c =
    subst (EndsCarry g.B.View c.args.command c.args.self.now.engine c.bring.new.self.engine
    c.args.out.now c.args.out.now)
    (sym (err_is c.from_residual.result c.in_err-bring.field-0.0 c.from_residual.ensures.1))
    (ends_early g.B.View c.args.command c.args.self.now.engine c.bring.new.self.engine
    c.args.out.now c.in_err-bring.field-0.0 c.in_err-bring.ensures.carries)

pub returns-in_err-follow-clause-images : goal.returns-in_err-follow-clause-images
returns-in_err-follow-clause-images g c = λ p shared is start calm.
    kept_turn g.B.View g.met.B.Leaves.calm_means g.met.B.Leaves.calm_now p _ shared.working
    c.args.self.now.engine c.bring.new.self.engine _ shared.at c.in_ok-bring.ensures.carries.keeps
    start calm

pub returns-in_err-follow-clause-ends : goal.returns-in_err-follow-clause-ends
returns-in_err-follow-clause-ends g c =
    subst (EndsCarry g.B.View c.args.command c.args.self.now.engine c.bring.new.self.engine
    c.args.out.now c.args.out.now)
    (sym (err_is c.from_residual-in_err-follow.result stop.NoMemory
    c.from_residual-in_err-follow.ensures.1))
    (ends_early g.B.View c.args.command c.args.self.now.engine c.bring.new.self.engine
    c.args.out.now stop.NoMemory
    (carries_unmade g.B.View c.args.self.now.engine c.bring.new.self.engine stop.NoMemory
    c.in_ok-bring.ensures.carries refl))

pub returns-in_err-step-clause-full : goal.returns-in_err-step-clause-full
returns-in_err-step-clause-full g c = λ p shared is full.
    let e = c.args.self.now.engine in
    let x = c.in_ok-bring.ensures.carries in
    short_last g.B.View p c.args.session c.args.command (schema_of e) (built_of e)
    (g.B.View.limit (leaves_of e)) c.args.state.now c.bring.new.self.engine x.schema x.built
    x.keeps.limit is c.requires.due.allowed x.ready
    (c.in_ok-bring.ensures.brought p shared is)
    (c.in_err-step.ensures.full (play_of (schema_of e) p c.args.session)
    (c.in_ok-bring.ensures.brought p shared is)
    (sym (err_is c.from_residual-in_err-step.result c.in_err-step.field-0.0
    c.from_residual-in_err-step.ensures.1) ∙ full))

pub returns-in_err-step-clause-images : goal.returns-in_err-step-clause-images
returns-in_err-step-clause-images g c = λ p shared is start calm.
    let e = c.args.self.now.engine in
    let x = c.in_ok-bring.ensures.carries in
    let q = play_of (schema_of e) p c.args.session in
    subst (λ (r : Result (Unit {0}) Stop). LeavesTurn g.B.View p
    (after_turn (schema_of e) p c.args.session c.args.command answered) e c.step.new.engine
    (is_fault r))
    (sym (err_is c.from_residual-in_err-step.result c.in_err-step.field-0.0
    c.from_residual-in_err-step.ensures.1))
    (stepped_turn g.B.View g.met.B.Leaves.calm_means g.met.B.Leaves.calm_now p
    (after_turn (schema_of e) p c.args.session c.args.command answered) shared.working q
    c.args.command e c.bring.new.self.engine c.step.new.engine
    (is_fault {T = Unit {0}} (Err c.in_err-step.field-0.0)) shared.at x start calm
    (c.in_err-step.ensures.images q (c.in_ok-bring.ensures.brought p shared is) start
    (x.keeps.calm start calm)) refl
    (ap (λ (schema : Schema). (after_command schema q c.args.command).kept) x.schema))

pub returns-in_err-step-clause-ends : goal.returns-in_err-step-clause-ends
returns-in_err-step-clause-ends g c =
    subst (EndsCarry g.B.View c.args.command c.args.self.now.engine c.step.new.engine
    c.args.out.now c.step.new.out)
    (sym (err_is c.from_residual-in_err-step.result c.in_err-step.field-0.0
    c.from_residual-in_err-step.ensures.1))
    (ends_by g.B.View c.args.command c.args.self.now.engine c.bring.new.self.engine
    c.step.new.engine c.args.out.now c.step.new.out (Err c.in_err-step.field-0.0)
    c.in_ok-bring.ensures.carries c.in_err-step.ensures.rest
    c.in_err-step.ensures.kept c.in_err-step.ensures.unsaid c.in_err-step.ensures.cause.0
    c.in_err-step.ensures.cause.1 c.in_err-step.ensures.goes_on.0 c.in_err-step.ensures.goes_on.1)

pub returns-clause-carried : goal.returns-clause-carried
returns-clause-carried g c = λ p shared is.
    let e = c.args.self.now.engine in
    let x = c.in_ok-bring.ensures.carries in
    carried_for g.B.View p c.args.session c.args.command (schema_of e) _
    c.bring.new.self.engine c.step.new.engine _ _ _ x.schema c.in_ok-bring.ensures.own.0
    (c.in_ok-bring.ensures.brought p shared is) c.in_ok-step.ensures.rest
    (c.in_ok-step.ensures.carried (play_of (schema_of e) p c.args.session)
    (c.in_ok-bring.ensures.brought p shared is))
    (subst (λ (schema : Schema). IsSession schema
    (session_after (p.session c.args.session) c.args.command) c.follow.new.self)
    (c.schema.ensures ∙ x.schema)
    (c.in_ok-follow.ensures.followed (p.session c.args.session)
    (subst (λ (schema : Schema). IsSession schema (p.session c.args.session) c.args.state.now)
    (sym (c.schema.ensures ∙ x.schema)) is)))

pub returns-clause-images : goal.returns-clause-images
returns-clause-images g c = λ p shared is start calm.
    let e = c.args.self.now.engine in
    let x = c.in_ok-bring.ensures.carries in
    let q = play_of (schema_of e) p c.args.session in
    stepped_turn g.B.View g.met.B.Leaves.calm_means g.met.B.Leaves.calm_now p
    (after_turn (schema_of e) p c.args.session c.args.command answered) shared.working q
    c.args.command e c.bring.new.self.engine c.step.new.engine _ shared.at x start calm
    (c.in_ok-step.ensures.images q (c.in_ok-bring.ensures.brought p shared is) start
    (x.keeps.calm start calm)) refl
    (ap (λ (schema : Schema). (after_command schema q c.args.command).kept) x.schema)

pub returns-clause-ends : goal.returns-clause-ends
returns-clause-ends g c =
    ends_by g.B.View c.args.command c.args.self.now.engine c.bring.new.self.engine
    c.step.new.engine c.args.out.now c.step.new.out (Ok tt) c.in_ok-bring.ensures.carries
    c.in_ok-step.ensures.rest
    c.in_ok-step.ensures.kept c.in_ok-step.ensures.unsaid c.in_ok-step.ensures.cause.0
    c.in_ok-step.ensures.cause.1 c.in_ok-step.ensures.goes_on.0 c.in_ok-step.ensures.goes_on.1

pub follow-requires-clause-whole : goal.follow-requires-clause-whole
follow-requires-clause-whole g c =
    subst (λ (schema : Schema). IsWhole schema c.args.state.now)
    (sym (c.schema.ensures ∙ c.in_ok-bring.ensures.carries.schema)) c.requires.whole

pub follow-requires-clause-of_schema : goal.follow-requires-clause-of_schema
follow-requires-clause-of_schema g c =
    subst (λ (schema : Schema). IsOfSchema schema c.args.command)
    (sym (c.schema.ensures ∙ c.in_ok-bring.ensures.carries.schema)) c.requires.due.of_schema

pub step-requires-clause-due : goal.step-requires-clause-due
step-requires-clause-due g c = record {
  of_schema = subst (λ (schema : Schema). IsOfSchema schema c.args.command)
      (sym c.in_ok-bring.ensures.carries.schema) c.requires.due.of_schema;
  few = c.requires.due.few;
  allowed = ap (λ b. place_reason b c.args.command) c.in_ok-bring.ensures.own.1
      ∙ c.requires.due.allowed;
}

pub returns-in_err-follow-clause-whole : goal.returns-in_err-follow-clause-whole
returns-in_err-follow-clause-whole g c =
    subst (λ (schema : Schema). IsWhole schema c.follow.new.self)
    (c.schema.ensures ∙ c.in_ok-bring.ensures.carries.schema) c.in_err-follow.ensures.whole

pub returns-in_err-step-clause-whole : goal.returns-in_err-step-clause-whole
returns-in_err-step-clause-whole g c =
    subst (λ (schema : Schema). IsWhole schema c.follow.new.self)
    (c.schema.ensures ∙ c.in_ok-bring.ensures.carries.schema) c.in_ok-follow.ensures.whole

pub returns-clause-whole : goal.returns-clause-whole
returns-clause-whole g c =
    subst (λ (schema : Schema). IsWhole schema c.follow.new.self)
    (c.schema.ensures ∙ c.in_ok-bring.ensures.carries.schema) c.in_ok-follow.ensures.whole

pub returns-clause-own : goal.returns-clause-own
returns-clause-own g c = (
  c.in_ok-bring.ensures.own.0,
  c.in_ok-step.ensures.rest.inside
      ∙ ap (λ b. inside_after b c.args.command) c.in_ok-bring.ensures.own.1
      ∙ sym c.in_ok-follow.ensures.inside,
)
