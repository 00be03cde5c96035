use Rattle.std.proofs.Common.{◌≡◌, ◌++◌, take}
use Rattle.gx_chain.proofs.gather.append_all.Given as goal

abbrev pub invariant-loop-entry : goal.invariant-loop-entry
invariant-loop-entry l = l.out ≡ l.fn.out ++ take l.entry-index l.found
