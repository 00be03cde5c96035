use Rattle.std.proofs.Common.{◌≡◌, Bool, None, sym, subst}
use Rattle.gx_schema.specs.declared.schema.Schema.{Schema}
use Rattle.gx_commands.specs.Commands.{place_reason}
use Rattle.gx_script.specs.Grammar.{IsLineOf}
use Rattle.gx_play.proofs.PlayLemmas.{is_err}
use Rattle.gx_shares.specs.Carried.{IsTurnLineStep}
use Rattle.gx_shares.proofs.StepLemmas.{step_none, turn_line}
use Rattle.gx_shares.proofs.carry.play_turn.Goals as goal

pub returns-in_err-command-clause-step : goal.returns-in_err-command-clause-step
returns-in_err-command-clause-step g c =
    let s = c.args.sessions.now in
    subst (IsTurnLineStep g.B.View s s c.args.session c.args.line.now)
    (sym (is_err _ _ c.from_residual.ensures.1))
    (step_none g.B.View g.met.B.Leaves.calm_means g.met.B.Leaves.calm_now _ _ _ s _ c.requires.ready
    c.in_err-command.ensures.unread)

pub returns-in_err-carry_out-clause-step : goal.returns-in_err-carry_out-clause-step
returns-in_err-carry_out-clause-step g c =
    let s = c.args.sessions.now in
    let line = c.args.line.now in
    let command = c.in_ok-command.command in
    subst (IsTurnLineStep g.B.View s c.carry_out.new.sessions c.args.session line)
    (sym (is_err _ _ c.from_residual-in_err-carry_out.ensures.1))
    (turn_line g.B.View c.args.session line command s c.carry_out.new.sessions _ c.requires.ready
    c.requires.numbered
    (subst (λ (k : Schema). IsLineOf k line command) c.schema.ensures c.in_ok-command.ensures.read)
    (subst (λ (b : Bool). place_reason b command ≡ None) c.inside-inside.ensures.inside
    c.in_ok-command.ensures.placed)
    (c.in_err-carry_out.ensures.step line))

pub returns-clause-step : goal.returns-clause-step
returns-clause-step g c =
    let s = c.args.sessions.now in
    let line = c.args.line.now in
    let command = c.in_ok-command.command in
    turn_line g.B.View c.args.session line command s c.carry_out.new.sessions _ c.requires.ready
    c.requires.numbered
    (subst (λ (k : Schema). IsLineOf k line command) c.schema.ensures c.in_ok-command.ensures.read)
    (subst (λ (b : Bool). place_reason b command ≡ None) c.inside-inside.ensures.inside
    c.in_ok-command.ensures.placed)
    (c.in_ok-carry_out.ensures.step line)
