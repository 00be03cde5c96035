use Rattle.std.proofs.Common.{◌≡◌, map, take}
use Rattle.std.specs.Prelude.{not}
use Rattle.gx_access.proofs.views.inverted.Given as goal

abbrev pub invariant-loop-is_chosen : goal.invariant-loop-is_chosen
invariant-loop-is_chosen l = l.others.items ≡ map not (take l.is_chosen-index l.fn.mask)
