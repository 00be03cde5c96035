use Rattle.std.proofs.Common.{◌≡◌, ◌<◌, [], ◌∷◌, suc, length, ℕ}
use Rattle.gx_equation.specs.Heads.{a_bound, items_at}
use Rattle.gx_equation.proofs.arguments.read_bounds.Given as goal

abbrev pub invariant-loop-bounds : goal.invariant-loop-bounds
invariant-loop-bounds l = (fuel : ℕ) × (length l.rest < fuel)
    × (items_at a_bound fuel l.bounds.items l.rest ≡ items_at a_bound (suc (length l.bytes))
    (l.fn.first ∷ []) l.bytes)

abbrev pub decreases-loop-bounds : goal.decreases-loop-bounds
decreases-loop-bounds l = length l.rest
