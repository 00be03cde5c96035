use Rattle.gx_sessions.proofs.SharedLemmas.{passed_by, carries_by}
use Rattle.gx_sessions.proofs.shared.SharedEngine.pass.Goals as goal

pub returns-clause-passed : goal.returns-clause-passed
returns-clause-passed g c = λ p at.
    passed_by g.B.View p c.args.command c.args.self.now.engine c.step.new.engine _ c.step.new.out
    c.step.result at c.step.ensures.rest (c.step.ensures.carried p at)

pub returns-clause-carries : goal.returns-clause-carries
returns-clause-carries g c =
    carries_by g.B.View c.args.command c.args.self.now.engine c.step.new.engine c.step.result
    c.requires.quiet c.step.ensures.rest c.step.ensures.cause.0 c.step.ensures.cause.1
    c.step.ensures.goes_on.0 c.step.ensures.goes_on.1
    (λ p at. passed_by g.B.View p c.args.command c.args.self.now.engine c.step.new.engine _
    c.step.new.out c.step.result at c.step.ensures.rest (c.step.ensures.carried p at))
