use Rattle.std.proofs.Common.{◌≡◌, ◌++◌, drop}
use Rattle.gx_split.specs.Groups.{chosen}
use Rattle.gx_access.proofs.views.chosen_slots.Given as goal

abbrev pub invariant-loop-i : goal.invariant-loop-i
invariant-loop-i l = l.made.items ++ chosen (drop l.i l.fn.mask) (drop l.i l.fn.slots)
    ≡ chosen l.fn.mask l.fn.slots
