use Rattle.std.proofs.Common.{◌≡◌, ◌∷◌, take}
use Rattle.gx_access.proofs.access.NestedGroups.below.Given as goal

abbrev pub invariant-loop-other : goal.invariant-loop-other
invariant-loop-other l = l.groups.items ≡ l.fn.group ∷ take l.other-index l.self
