use Rattle.std.proofs.Common.{◌≡◌, take}
use Rattle.gx_access.proofs.access.NestedGroups.copy.Given as goal

abbrev pub invariant-loop-group : goal.invariant-loop-group
invariant-loop-group l = l.copies.items ≡ take l.group-index l.self
