use Rattle.std.proofs.Common.{take}
use Rattle.gx_lists.specs.Arrays.{AreCutOf}
use Rattle.gx_lists.proofs.array_pairs.cut_owners.Given as goal

abbrev pub invariant-loop-rec : goal.invariant-loop-rec
invariant-loop-rec l = AreCutOf l.kind (take l.rec-index l.rec-items) l.owners.items
