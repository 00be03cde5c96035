use Rattle.std.proofs.Common.{◌≡◌, take}
use Rattle.gx_access.proofs.access.Slots.copy.Given as goal

abbrev pub invariant-loop-slot : goal.invariant-loop-slot
invariant-loop-slot l = l.copies.items ≡ take l.slot-index l.self
