use Rattle.std.proofs.Common.{sym, subst}
use Rattle.gx_engine.specs.declared.engine.StepStop.{StepStop}
use Rattle.std.specs.Prelude.{Result}
use Rattle.std.proofs.Common.{◌∷◌, []}
use Rattle.gx_move.specs.Giving.{insert_of, CarriesOn}
use Rattle.gx_move.proofs.CarryLemmas.{carries_read, err_is}
use Rattle.gx_move.proofs.giving.insert.Goals as goal

pub returns-in_err-command : goal.returns-in_err-command
returns-in_err-command g c =
    subst (λ (r : Result (Unit {0}) StepStop).
    CarriesOn g.B.View (insert_of c.args.file c.args.rec.now ∷ []) c.args.engine.now
    c.or_stop.new.engine r)
    (sym (err_is c.from_residual.result c.in_err-command.field-0.0 c.from_residual.ensures.1))
    (carries_read g.B.View (insert_of c.args.file c.args.rec.now ∷ []) c.args.engine.now
    c.or_stop.new.engine c.in_err-command.field-0.0 c.requires.going c.in_err-command.ensures.ends)
