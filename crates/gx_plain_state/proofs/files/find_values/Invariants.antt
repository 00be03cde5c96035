use Rattle.std.proofs.Common.{◌≡◌, length}
use Rattle.std.specs.FinMap as fin
use Rattle.gx_values.specs.Values.{value_cmp}
use Rattle.gx_plain_state.proofs.files.find_values.Given as goal

abbrev pub invariant-loop-rest : goal.invariant-loop-rest
invariant-loop-rest l = fin.find value_cmp l.key l.rest ≡ fin.find value_cmp l.key l.rows

abbrev pub decreases-loop-rest : goal.decreases-loop-rest
decreases-loop-rest l = length l.rest
