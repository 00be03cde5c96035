use Rattle.std.proofs.Common.{take}
use Rattle.gx_values.specs.declared.records.Rec.{Rec}
use Rattle.gx_mapping.specs.Rule.{In}
use Rattle.gx_lists.specs.Arrays.{WithoutMember}
use Rattle.gx_lists.proofs.arrays.owner_among.Given as goal

abbrev pub invariant-loop-rec : goal.invariant-loop-rec
invariant-loop-rec l = (r : Rec) → In r (take l.rec-index l.found) → WithoutMember l.kind r l.member
