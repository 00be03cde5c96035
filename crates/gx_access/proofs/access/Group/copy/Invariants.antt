use Rattle.std.proofs.Common.{◌≡◌, take}
use Rattle.gx_access.proofs.access.Group.copy.Given as goal

abbrev pub invariant-loop-tested : goal.invariant-loop-tested
invariant-loop-tested l = l.copies.items ≡ take l.tested-index l.self
