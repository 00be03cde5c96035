use Rattle.std.proofs.Common.{◌≡◌, length}
use Rattle.gx_typing.specs.Conditions.{ascends}
use Rattle.gx_typing.proofs.rows.ascends.Given as goal

abbrev pub invariant-loop-rest : goal.invariant-loop-rest
invariant-loop-rest l = ascends l.rest ≡ ascends l.bounds

abbrev pub decreases-loop-rest : goal.decreases-loop-rest
decreases-loop-rest l = length l.rest
