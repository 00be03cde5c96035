use Rattle.std.proofs.Common.{◌≡◌, ◌++◌, map, take, drop}
use Rattle.gx_memory_leaves.specs.Cells.{ended}
use Rattle.gx_memory_leaves.proofs.plain.settle_leaves.Given as goal

abbrev pub invariant-loop-leaf : goal.invariant-loop-leaf
invariant-loop-leaf l =
    l.leaves ≡ map (ended l.end) (take l.leaf-index l.fn.leaves) ++ drop l.leaf-index l.fn.leaves
