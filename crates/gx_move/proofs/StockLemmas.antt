-- Which records a stock has, and how calls that make one end.
use Rattle.std.proofs.Common.{[], ◌≡◌, List, ◌∷◌, refl, sym, subst}
use Rattle.std.specs.Prelude.{filter, Result, Ok, Err, IsErrAnd}
use Rattle.gx_model.specs.States.{Row}
use Rattle.gx_model.specs.Found.{meets_conds}
use Rattle.gx_ports.specs.declared.view.View.{Ghosts}
use Rattle.gx_engine.specs.declared.engine.Engine.{Engine}
use Rattle.gx_engine.specs.declared.engine.StepStop.{StepStop}
use Rattle.gx_engine.specs.Parts.{EndsReading}
use Rattle.gx_walks.specs.Readers.{ended}

-- each record meets no condition at all
pub all_chosen : (rows : List Row) → filter (meets_conds []) rows ≡ rows
all_chosen [] = refl
all_chosen (r ∷ rows) = λ i. r ∷ all_chosen rows i

-- a stop that is handed on is how the call ends
pub ends_given : {S T : Type 0} (g : Ghosts S) (a b : Engine S) (why : StepStop)
    (r : Result T StepStop) → IsErrAnd r (λ y. y ≡ why) → EndsReading g a b (Err why)
    → EndsReading g a b (ended r)
ends_given g a b why (Ok x) is ends = absurd is
ends_given g a b why (Err y) is ends =
    subst (λ (w : StepStop). EndsReading g a b (Err w)) (sym is) ends
