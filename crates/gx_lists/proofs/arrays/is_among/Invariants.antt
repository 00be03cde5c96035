use Rattle.std.proofs.Common.{take}
use Rattle.gx_mapping.specs.Rule.{In}
use Rattle.gx_lists.proofs.arrays.is_among.Given as goal

abbrev pub invariant-loop-other : goal.invariant-loop-other
invariant-loop-other l = In l.member (take l.other-index l.members) → ⊥
