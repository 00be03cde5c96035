use Rattle.gx_engine.proofs.CrashLemmas.{still_states}
use Rattle.gx_engine.proofs.engine.Engine.step.Goals as goal

pub returns-in-Some-clause-images : goal.returns-in-Some-clause-images
returns-in-Some-clause-images g c = λ p at start calm.
    still_states g.B.View g.met.B.Leaves.calm_means g.met.B.Leaves.calm_now p c.args.command
    c.args.self.now _ at start calm
