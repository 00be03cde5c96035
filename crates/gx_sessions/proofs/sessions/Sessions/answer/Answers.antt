use Rattle.std.proofs.Common.{◌≡◌, ◌+◌, ◌-◌, ◌<◌, refl, arith}
use Rattle.gx_ports.specs.declared.stop.Stop.TheVariants as stop
use Rattle.gx_sessions.specs.Turns.{engine_of}
use Rattle.gx_sessions.proofs.CarryLemmas.{kept_turn}
use Rattle.gx_sessions.proofs.ReadLemmas.{reading}
use Rattle.gx_sessions.proofs.SessionsLemmas.{moved_on}
use Rattle.gx_sessions.proofs.SharedLemmas.{err_is}
use Rattle.gx_sessions.proofs.TurnLemmas.{rested_images, rested_ends, unmade_ends, came_on, session_there}
use Rattle.gx_sessions.proofs.sessions.Sessions.answer.Goals as goal

pub returns-in_err-pass-in-Some-clause-images : goal.returns-in_err-pass-in-Some-clause-images
returns-in_err-pass-in-Some-clause-images g c = λ p are start calm.
    rested_images g.B.View g.met.B.Leaves.calm_means g.met.B.Leaves.calm_now p _
    c.args.self.now c.pass.new.self _ c.in_err-pass-in-Some.ensures.rest.engine are start calm

pub returns-in_err-pass-in-Some-clause-ends : goal.returns-in_err-pass-in-Some-clause-ends
returns-in_err-pass-in-Some-clause-ends g c =
    unmade_ends g.B.View c.args.command c.args.self.now c.pass.new.self c.args.out.now
    c.pass.new.out c.from_residual.result
    (err_is c.from_residual.result stop.NoMemory c.from_residual.ensures.1)
    c.in_err-pass-in-Some.ensures.unsaid c.requires.ready c.requires.going
    c.in_err-pass-in-Some.ensures.rest

pub returns-in_ok-pass-in-Some-clause-images : goal.returns-in_ok-pass-in-Some-clause-images
returns-in_ok-pass-in-Some-clause-images g c = λ p are start calm.
    rested_images g.B.View g.met.B.Leaves.calm_means g.met.B.Leaves.calm_now p _
    c.args.self.now c.pass.new.self _ c.pass.ensures.rest.engine are start calm

pub returns-in_ok-pass-in-Some-clause-ends : goal.returns-in_ok-pass-in-Some-clause-ends
returns-in_ok-pass-in-Some-clause-ends g c =
    rested_ends g.B.View c.args.command c.args.self.now c.pass.new.self c.args.out.now
    c.pass.new.out c.requires.ready c.requires.going c.pass.ensures.rest

pub returns-then-as_it_stands-clause-comes : goal.returns-then-as_it_stands-clause-comes
returns-then-as_it_stands-clause-comes g c = λ p are.
    let i = c.from.result - 1 in
    let number : i + 1 ≡ c.args.session =
    omega (arith, c.from.ensures, c.requires.numbered.0) in
    let lt : i < 8 = omega (arith, c.from.ensures, c.requires.numbered.1, c.requires.numbered.0) in
    let may = c.answers_as_it_stands-as_it_stands.ensures in
    let yes = c.if-as_it_stands.true in
    came_on g.B.View c.read.result p c.args.session i c.args.command c.read.new.state
    c.args.self.now _ _ _ number lt c.requires.ready.states c.read.ensures.ends.schema refl are
    (c.read.ensures.carried p c.args.session are.engine
    (session_there g.B.View p c.args.session i c.index_mut-state.result.now c.args.self.now number
    lt are c.index_mut-state.ensures.value)
    (may.other yes) (may.clear yes p are.sessions))

pub returns-then-as_it_stands-clause-images : goal.returns-then-as_it_stands-clause-images
returns-then-as_it_stands-clause-images g c = λ p are start calm.
    let reads = c.answers_as_it_stands-as_it_stands.ensures.reads c.if-as_it_stands.true in
    kept_turn g.B.View g.met.B.Leaves.calm_means g.met.B.Leaves.calm_now p _ are.engine.working
    (engine_of c.args.self.now) c.read.new.self.engine _ are.engine.at
    (c.read.ensures.ends.quiet (reading c.args.command reads).quiet) start calm

pub returns-then-as_it_stands-clause-moves : goal.returns-then-as_it_stands-clause-moves
returns-then-as_it_stands-clause-moves g c =
    let i = c.from.result - 1 in
    let number : i + 1 ≡ c.args.session =
    omega (arith, c.from.ensures, c.requires.numbered.0) in
    let lt : i < 8 = omega (arith, c.from.ensures, c.requires.numbered.1, c.requires.numbered.0) in
    moved_on c.read.result c.args.self.now _ i c.index_mut-state.result.now c.read.new.state
    c.requires.ready.states.eight lt refl c.args.session c.args.command number
    c.index_mut-state.ensures.value c.read.ensures.within

pub returns-else-as_it_stands-clause-comes : goal.returns-else-as_it_stands-clause-comes
returns-else-as_it_stands-clause-comes g c = λ p are.
    let i = c.from.result - 1 in
    let number : i + 1 ≡ c.args.session =
    omega (arith, c.from.ensures, c.requires.numbered.0) in
    let lt : i < 8 = omega (arith, c.from.ensures, c.requires.numbered.1, c.requires.numbered.0) in
    came_on g.B.View c.carry_out.result p c.args.session i c.args.command c.carry_out.new.state
    c.args.self.now _ _ _ number lt c.requires.ready.states c.carry_out.ensures.ends.schema refl are
    (c.carry_out.ensures.carried p are.engine
    (session_there g.B.View p c.args.session i c.index_mut-state.result.now c.args.self.now number
    lt are c.index_mut-state.ensures.value))

pub returns-else-as_it_stands-clause-images : goal.returns-else-as_it_stands-clause-images
returns-else-as_it_stands-clause-images g c = λ p are start calm.
    let i = c.from.result - 1 in
    let number : i + 1 ≡ c.args.session =
    omega (arith, c.from.ensures, c.requires.numbered.0) in
    let lt : i < 8 = omega (arith, c.from.ensures, c.requires.numbered.1, c.requires.numbered.0) in
    c.carry_out.ensures.images p are.engine
    (session_there g.B.View p c.args.session i c.index_mut-state.result.now c.args.self.now number
    lt are c.index_mut-state.ensures.value) start calm

pub returns-else-as_it_stands-clause-moves : goal.returns-else-as_it_stands-clause-moves
returns-else-as_it_stands-clause-moves g c =
    let i = c.from.result - 1 in
    let number : i + 1 ≡ c.args.session =
    omega (arith, c.from.ensures, c.requires.numbered.0) in
    let lt : i < 8 = omega (arith, c.from.ensures, c.requires.numbered.1, c.requires.numbered.0) in
    moved_on c.carry_out.result c.args.self.now _ i c.index_mut-state.result.now
    c.carry_out.new.state c.requires.ready.states.eight lt refl c.args.session c.args.command number
    c.index_mut-state.ensures.value c.carry_out.ensures.within
