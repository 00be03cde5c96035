use Rattle.std.proofs.Common.{length}
use Rattle.gx_memory_machine.proofs.NameLemmas.{Copies}
use Rattle.gx_memory_machine.proofs.names.copied_map.Given as goal

abbrev pub invariant-loop-name : goal.invariant-loop-name
invariant-loop-name g l = Copies l.map.entries l.left l.copy.entries

abbrev pub decreases-loop-name : goal.decreases-loop-name
decreases-loop-name g l = length l.left
