use Rattle.std.proofs.Common.{◌∙◌, sym, subst}
use Rattle.gx_commands.specs.declared.command.Command.{Command}
use Rattle.gx_ports.specs.Stops.{is_fault}
use Rattle.gx_engine.specs.Steps.{IsStep}
use Rattle.gx_engine.specs.Crashes.{LeavesStates}
use Rattle.gx_engine.proofs.CrashLemmas.{edit_alone, commit_only, keeps_states}
use Rattle.gx_engine.proofs.engine.Engine.carry_out.Goals as goal

pub returns-then-is_edit-clause-images : goal.returns-then-is_edit-clause-images
returns-then-is_edit-clause-images g c = λ p at start calm.
    keeps_states g.B.View g.met.B.Leaves.calm_means g.met.B.Leaves.calm_now p c.args.command
    c.args.self.now c.edit.new.self _ at
    (c.edit.ensures.ends.keeps.keeps
    (edit_alone c.args.command (sym c.is_edit.ensures ∙ c.if-is_edit.true))) start calm

pub returns-then-is_commit-clause-step : goal.returns-then-is_commit-clause-step
returns-then-is_commit-clause-step g c =
    subst (λ (x : Command). IsStep g.B.View c.args.self.now c.commit.new.self x c.args.out.now
    c.commit.new.out c.commit.result)
    (sym (commit_only c.args.command (sym c.is_commit.ensures ∙ c.if-is_commit.true)))
    c.commit.ensures.step

pub returns-then-is_commit-clause-images : goal.returns-then-is_commit-clause-images
returns-then-is_commit-clause-images g c = λ p at start calm.
    subst (λ (x : Command). LeavesStates g.B.View p x c.args.self.now c.commit.new.self
    (is_fault c.commit.result))
    (sym (commit_only c.args.command (sym c.is_commit.ensures ∙ c.if-is_commit.true)))
    (c.commit.ensures.images p at start calm)

pub returns-clause-images : goal.returns-clause-images
returns-clause-images g c = λ p at start calm.
    keeps_states g.B.View g.met.B.Leaves.calm_means g.met.B.Leaves.calm_now p c.args.command
    c.args.self.now c.carry_other.new.self _ at
    (c.carry_other.ensures.step.ends.keeps.keeps (sym c.is_commit.ensures ∙ c.if-is_commit.false))
    start calm
