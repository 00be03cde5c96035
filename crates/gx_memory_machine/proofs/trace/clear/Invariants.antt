use Rattle.std.proofs.Common.{◌≡◌, ◌++◌, false, drop, replicate}
use Rattle.gx_memory_machine.proofs.trace.clear.Given as goal

abbrev pub invariant-loop-i : goal.invariant-loop-i
invariant-loop-i l = l.flags.items ≡ replicate l.i false ++ drop l.i l.fn.flags.items
