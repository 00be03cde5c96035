use Rattle.std.proofs.Common.{◌≤◌, ◌+◌, ◌*◌, sym, subst}
use Rattle.std.specs.Prelude.{OnOk}
use Rattle.gx_engine.specs.Steps.{leaves_of}
use Rattle.gx_walks.specs.Readers.{Costs}
use Rattle.gx_walks.proofs.engine.EngineLinkReader.records.Goals as goal

pub returns-clause-steps : goal.returns-clause-steps
returns-clause-steps g c = λ s costs shows is.
    subst (λ (k : Costs). OnOk c.read_found.result
    (g.B.View.work (leaves_of c.read_found.new.engine) ≤ g.B.View.work (leaves_of c.args.self.now)
    + 2 * (k.candidates c.args.find.now + 1) * k.look_up)) (sym is)
    (c.read_found.ensures.steps s shows)
