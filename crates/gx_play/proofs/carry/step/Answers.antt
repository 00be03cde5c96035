use Rattle.std.proofs.Common.{sym, subst}
use Rattle.gx_play.specs.declared.lines.Asked.{Asked}
use Rattle.gx_play.specs.declared.lines.Asked.TheVariants as asked
use Rattle.gx_play.specs.Carrying.{IsAskedStep}
use Rattle.gx_play.proofs.CarryingLemmas.{command_step, path_step}
use Rattle.gx_play.proofs.carry.step.Goals as goal

pub returns-in-Command : goal.returns-in-Command
returns-in-Command g c =
    let old = c.args.engine.now in
    let new = c.step.new.self in
    let out = c.args.out.now in
    let now = c.step.new.out in
    record {
      step = subst (λ (a : Asked). IsAskedStep g.B.View old new a out now
          c.without_first.result)
          (sym c.in-Command.is)
          (subst (λ r. IsAskedStep g.B.View old new (asked.Command c.in-Command.command) out now r)
          (sym c.without_first.ensures)
          (command_step g.B.View c.in-Command.command old new out now c.requires.going c.step.result
          c.step.ensures.carried c.step.ensures.full c.step.ensures.images c.step.ensures.ends));
    }

pub returns-in-Path : goal.returns-in-Path
returns-in-Path g c =
    let old = c.args.engine.now in
    let new = c.answer_path.new.engine in
    let out = c.args.out.now in
    let now = c.answer_path.new.out in
    record {
      step = subst (λ (a : Asked). IsAskedStep g.B.View old new a out now
          c.without_first-in-Path.result)
          (sym c.in-Path.is)
          (subst (λ r. IsAskedStep g.B.View old new (asked.Path c.in-Path.query) out now r)
          (sym c.without_first-in-Path.ensures)
          (path_step g.B.View g.met.B.Leaves.calm_means g.met.B.Leaves.calm_now c.in-Path.query old new
          out now c.requires.going c.answer_path.result c.answer_path.ensures.text
          c.answer_path.ensures.unsaid c.answer_path.ensures.ends));
    }
