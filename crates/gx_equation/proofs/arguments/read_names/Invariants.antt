use Rattle.std.proofs.Common.{◌≡◌, ◌<◌, [], ◌∷◌, suc, length, ℕ}
use Rattle.gx_tokens.specs.Reading.{a_word}
use Rattle.gx_equation.specs.Heads.{items_at}
use Rattle.gx_equation.proofs.arguments.read_names.Given as goal

abbrev pub invariant-loop-names : goal.invariant-loop-names
invariant-loop-names l = (fuel : ℕ) × (length l.rest < fuel)
    × (items_at a_word fuel l.names.items l.rest ≡ items_at a_word (suc (length l.bytes))
    (l.fn.first ∷ []) l.bytes)

abbrev pub decreases-loop-names : goal.decreases-loop-names
decreases-loop-names l = length l.rest
