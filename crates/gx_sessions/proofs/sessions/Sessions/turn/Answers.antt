use Rattle.std.proofs.Common.{refl}
use Rattle.gx_sessions.proofs.TurnLemmas.{rested_images}
use Rattle.gx_sessions.proofs.sessions.Sessions.turn.Goals as goal

pub returns-in-Some-clause-images : goal.returns-in-Some-clause-images
returns-in-Some-clause-images g c = λ p are start calm.
    rested_images g.B.View g.met.B.Leaves.calm_means g.met.B.Leaves.calm_now p _
    c.args.self.now c.args.self.now _ refl are start calm
