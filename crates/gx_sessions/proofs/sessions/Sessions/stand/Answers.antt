use Rattle.std.proofs.Common.{◌≡◌, ◌+◌, ◌-◌, ◌<◌, ap, refl, arith}
use Rattle.gx_sessions.specs.Standings.{bare, is_within}
use Rattle.gx_sessions.specs.Turns.{schema_of}
use Rattle.gx_sessions.proofs.SessionsLemmas.{moved}
use Rattle.gx_sessions.proofs.TurnLemmas.{stood}
use Rattle.gx_sessions.proofs.sessions.Sessions.stand.Goals as goal

pub returns-clause-stands : goal.returns-clause-stands
returns-clause-stands g c = λ p are.
    let i = c.from.result - 1 in
    let number : i + 1 ≡ c.args.session =
    omega (arith, c.from.ensures, c.requires.numbered.0) in
    let lt : i < 8 = omega (arith, c.from.ensures, c.requires.numbered.1, c.requires.numbered.0) in
    stood g.B.View p c.args.session i (bare c.args.standing) c.stand.new.self c.args.self.now _
    number lt c.requires.ready.states c.forget.ensures.engine refl c.forget.ensures.forgot
    c.forget.ensures.others (c.stand.ensures.stands (schema_of c.args.self.now)) are

pub returns-clause-moves : goal.returns-clause-moves
returns-clause-moves g c =
    let i = c.from.result - 1 in
    let number : i + 1 ≡ c.args.session =
    omega (arith, c.from.ensures, c.requires.numbered.0) in
    let lt : i < 8 = omega (arith, c.from.ensures, c.requires.numbered.1, c.requires.numbered.0) in
    moved c.args.self.now _ i c.stand.new.self c.requires.ready.states.eight lt refl c.args.session
    (is_within c.args.standing) number (ap is_within c.stand.ensures.standing)
