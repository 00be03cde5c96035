use Rattle.std.proofs.Common.{◌≡◌, take}
use Rattle.gx_gather.proofs.gather.copy_front.Given as goal

abbrev pub invariant-loop-value : goal.invariant-loop-value
invariant-loop-value l = l.values.items ≡ take l.value-index l.key
