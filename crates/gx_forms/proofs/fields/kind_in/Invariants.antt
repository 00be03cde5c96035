use Rattle.std.proofs.Common.{◌≡◌, length}
use Rattle.gx_values.specs.Values.{kind_in}
use Rattle.gx_forms.proofs.fields.kind_in.Given as goal

abbrev pub invariant-loop-rest : goal.invariant-loop-rest
invariant-loop-rest l = kind_in l.rest l.name ≡ kind_in l.fields l.name

abbrev pub decreases-loop-rest : goal.decreases-loop-rest
decreases-loop-rest l = length l.rest
