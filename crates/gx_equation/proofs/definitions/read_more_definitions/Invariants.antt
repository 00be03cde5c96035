use Rattle.std.proofs.Common.{◌≡◌, ◌<◌, [], ◌∷◌, suc, length, ℕ}
use Rattle.gx_equation.specs.Definitions.{definitions_at}
use Rattle.gx_equation.specs.Seen.{definition_of, definitions_of}
use Rattle.gx_equation.proofs.definitions.read_more_definitions.Given as goal

abbrev pub invariant-loop-definitions : goal.invariant-loop-definitions
invariant-loop-definitions l = (fuel : ℕ) × (length l.rest < fuel)
    × (definitions_at fuel (definitions_of l.definitions.items) l.places.items l.rest
    ≡ definitions_at (suc (length l.bytes)) (definition_of l.fn.first ∷ [])
    l.initial.places.items l.bytes)

abbrev pub decreases-loop-definitions : goal.decreases-loop-definitions
decreases-loop-definitions l = length l.rest
