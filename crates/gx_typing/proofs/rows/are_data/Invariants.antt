use Rattle.std.proofs.Common.{◌≡◌, length}
use Rattle.gx_typing.specs.Conditions.{are_data}
use Rattle.gx_typing.proofs.rows.are_data.Given as goal

abbrev pub invariant-loop-rest : goal.invariant-loop-rest
invariant-loop-rest l = are_data l.form l.rest ≡ are_data l.form l.names

abbrev pub decreases-loop-rest : goal.decreases-loop-rest
decreases-loop-rest l = length l.rest
