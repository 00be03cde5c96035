use Rattle.std.proofs.Common.{◌≡◌, drop}
use Rattle.gx_values.specs.Values.{values_cmp}
use Rattle.gx_gather.proofs.order.compare_keys.Given as goal

abbrev pub invariant-loop-i : goal.invariant-loop-i
invariant-loop-i l = values_cmp (drop l.i l.a) (drop l.i l.b) ≡ values_cmp l.a l.b
