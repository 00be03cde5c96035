use Rattle.std.proofs.Common.{refl}
use Rattle.gx_model.specs.Play.{seen_state}
use Rattle.gx_walks.specs.Engines.{costs_in}
use Rattle.gx_walks.proofs.engine.answer_path.Goals as goal

pub returns-clause-steps : goal.returns-clause-steps
returns-clause-steps g c = λ d is found p at.
    c.answer.ensures.steps (seen_state p) (costs_in g.B.View c.args.engine.now (seen_state p)) d is
    (p, at, refl) refl found
