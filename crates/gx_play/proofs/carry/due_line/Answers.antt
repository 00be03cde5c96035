use Rattle.std.proofs.Common.{Bool, subst}
use Rattle.gx_schema.specs.declared.schema.Schema.{Schema}
use Rattle.gx_engine.specs.Steps.{is_open}
use Rattle.gx_play.specs.Asked.{IsBadLine}
use Rattle.gx_play.proofs.carry.due_line.Goals as goal

pub returns-clause-bad : goal.returns-clause-bad
returns-clause-bad g c = λ why e.
    subst (λ (s : Schema). IsBadLine s (is_open c.args.engine.now) c.args.line.now why)
    c.schema.ensures
    (subst (λ (b : Bool). IsBadLine c.schema.result.now b c.args.line.now why) c.inside.ensures
    (c.asked_line.ensures.bad why e))
