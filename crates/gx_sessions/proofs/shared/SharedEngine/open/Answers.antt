use Rattle.std.proofs.Common.{List, sym, subst, ◌∙◌}
use Rattle.std.proofs.lemmas.Bool.{true≢false}
use Rattle.gx_commands.specs.declared.command.Command.{Command}
use Rattle.gx_engine.specs.Steps.{schema_of, built_of, leaves_of}
use Rattle.std.specs.Prelude.{None}
use Rattle.gx_sessions.specs.Shared.{seeing, IsShortAmong}
use Rattle.gx_sessions.proofs.SharedLemmas.{err_is, opened_inside}
use Rattle.gx_sessions.proofs.BringLemmas.{short_same}
use Rattle.gx_sessions.proofs.shared.SharedEngine.open.Goals as goal

pub returns-in_err-pass-in-Inside-clause-full : goal.returns-in_err-pass-in-Inside-clause-full
returns-in_err-pass-in-Inside-clause-full g c = λ p at full.
    absurd (true≢false (sym (c.in_err-pass-in-Inside.ensures.full (seeing p None) at
    (sym (err_is c.from_residual.result c.in_err-pass-in-Inside.field-0.0
    c.from_residual.ensures.1) ∙ full)).0.kind))

pub returns-in_err-carry_again-in-Inside-clause-full :
    goal.returns-in_err-carry_again-in-Inside-clause-full
returns-in_err-carry_again-in-Inside-clause-full g c = λ p at full.
    let e = c.args.self.now.engine in
    short_same g.B.View e c.pass.new.self.engine c.in_ok-pass-in-Inside.ensures.carries p
    c.args.state.now.kept.items
    (subst (λ (cs : List Command). IsShortAmong (schema_of c.pass.new.self.engine)
    (built_of c.pass.new.self.engine) (g.B.View.limit (leaves_of c.pass.new.self.engine)) p cs)
    c.deref.ensures.value
    (c.in_err-carry_again-in-Inside.ensures.full p
    (c.in_ok-pass-in-Inside.ensures.passed (seeing p None) at)
    (sym (err_is c.from_residual-in_err-carry_again-in-Inside.result
    c.in_err-carry_again-in-Inside.field-0.0
    c.from_residual-in_err-carry_again-in-Inside.ensures.1) ∙ full)))

pub returns-in_ok-carry_again-in-Inside-clause-opened :
    goal.returns-in_ok-carry_again-in-Inside-clause-opened
returns-in_ok-carry_again-in-Inside-clause-opened g c = λ p s at is.
    opened_inside g.B.View (schema_of c.args.self.now.engine) (schema_of c.pass.new.self.engine) p s
    c.args.state.now c.deref.result.now c.carry_again.new.self.engine
    c.in_ok-pass-in-Inside.ensures.carries.schema c.in-Inside.is is c.deref.ensures.value
    (c.in_ok-carry_again-in-Inside.ensures.again p
    (c.in_ok-pass-in-Inside.ensures.passed (seeing p None) at))
