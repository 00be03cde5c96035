use Rattle.std.proofs.Common.{◌≡◌, ◌<◌, [], suc, length, ℕ, ◌+◌, ◌*◌}
use Rattle.gx_equation.specs.Seen.{trees_of}
use Rattle.gx_equation.specs.Terms.{kids_at, term_at}
use Rattle.gx_equation.proofs.terms.+terms.Given as goal

abbrev pub decreases-read_term : goal.decreases-read_term
decreases-read_term l = 3 * l.levels

abbrev pub decreases-read_kid : goal.decreases-read_kid
decreases-read_kid l = 3 * l.levels + 1

abbrev pub decreases-read_two_kids : goal.decreases-read_two_kids
decreases-read_two_kids l = 3 * l.levels + 1

abbrev pub decreases-read_kids : goal.decreases-read_kids
decreases-read_kids l = 3 * l.levels + 1

abbrev pub decreases-read_term_behind : goal.decreases-read_term_behind
decreases-read_term_behind l = 3 * l.levels + 2

abbrev pub invariant-read_kids-loop-kids : goal.invariant-read_kids-loop-kids
invariant-read_kids-loop-kids l = (fuel : ℕ) × (length l.rest < fuel)
    × (kids_at (term_at l.levels) fuel (trees_of l.kids.items) l.places.items l.rest ≡ kids_at
    (term_at l.levels) (suc (length l.bytes)) [] l.initial.places.items l.bytes)

abbrev pub decreases-read_kids-loop-kids : goal.decreases-read_kids-loop-kids
decreases-read_kids-loop-kids l = length l.rest
