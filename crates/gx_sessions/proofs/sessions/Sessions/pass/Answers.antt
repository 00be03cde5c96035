use Rattle.std.proofs.Common.{ap, inl}
use Rattle.std.specs.Prelude.{is_some}
use Rattle.gx_sessions.proofs.TurnLemmas.{came_at_once}
use Rattle.gx_sessions.proofs.sessions.Sessions.pass.Goals as goal

pub returns-clause-comes : goal.returns-clause-comes
returns-clause-comes g c = λ p are.
    came_at_once g.B.View p c.args.session c.args.command.now c.args.self.now c.settle.new.self
    c.args.out.now c.append.new.out c.args.text.now c.requires.text c.in_ok-append.ensures.ok
    (c.settle.ensures.settled p are (inl (ap is_some c.requires.text)))
