use Rattle.std.proofs.Common.{true, false}
use Rattle.std.proofs.lemmas.Bool.{true≢false}
use Rattle.gx_commands.specs.declared.command.Command.TheVariants as command
use Rattle.gx_engine.proofs.CrashLemmas.{commit_states, still_states}
use Rattle.gx_engine.proofs.engine.Engine.commit.Goals as goal

pub returns-in_err-line-clause-images : goal.returns-in_err-line-clause-images
returns-in_err-line-clause-images g c = λ p at start calm.
    still_states g.B.View g.met.B.Leaves.calm_means g.met.B.Leaves.calm_now p command.Commit
    c.args.self.now _ at start calm

pub returns-in_err-append-clause-images : goal.returns-in_err-append-clause-images
returns-in_err-append-clause-images g c = λ p at start calm.
    still_states g.B.View g.met.B.Leaves.calm_means g.met.B.Leaves.calm_now p command.Commit
    c.args.self.now _ at start calm

pub returns-in-Ok-clause-images : goal.returns-in-Ok-clause-images
returns-in-Ok-clause-images g c = λ p at start calm.
    commit_states g.B.View p c.args.self.now _ c.commit.result false at c.commit.ensures.replaces
    (λ begin was none. c.in-Ok.ensures.replaces.calm begin was) start calm

pub returns-clause-images : goal.returns-clause-images
returns-clause-images g c = λ p at start calm.
    commit_states g.B.View p c.args.self.now _ c.commit.result true at c.commit.ensures.replaces
    (λ begin was none. absurd (true≢false none)) start calm
