use Rattle.std.proofs.Common.{◌≡◌}
use Rattle.gx_access.specs.Access.{all_slots}
use Rattle.gx_access.proofs.views.whole_view.Given as goal

abbrev pub invariant-loop-number : goal.invariant-loop-number
invariant-loop-number l = l.slots.items ≡ all_slots 0 l.number
