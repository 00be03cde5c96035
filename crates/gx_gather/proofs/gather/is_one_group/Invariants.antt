use Rattle.std.proofs.Common.{◌≡◌, false, take}
use Rattle.gx_mapping.specs.declared.parts.Part.{Part}
use Rattle.gx_mapping.specs.Rule.{In}
use Rattle.gx_gather.specs.Gather.{is_next}
use Rattle.gx_gather.proofs.gather.is_one_group.Given as goal

abbrev pub invariant-loop-i : goal.invariant-loop-i
invariant-loop-i l = (p : Part) → In p (take l.i l.parts) → is_next l.width l.parts p ≡ false
