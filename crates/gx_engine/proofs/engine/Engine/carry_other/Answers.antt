use Rattle.std.proofs.Common.{sym, subst}
use Rattle.gx_commands.specs.declared.command.Command.{Command}
use Rattle.gx_engine.specs.Steps.{TakesFewSteps}
use Rattle.gx_engine.proofs.engine.Engine.carry_other.Goals as goal

pub returns-in-Get-clause-few_steps : goal.returns-in-Get-clause-few_steps
returns-in-Get-clause-few_steps g c =
    subst (λ (x : Command). TakesFewSteps g.B.View x c.args.self.now c.get.new.self c.get.result)
    (sym c.in-Get.is) c.get.ensures.few_steps
