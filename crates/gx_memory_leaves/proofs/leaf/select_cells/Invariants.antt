use Rattle.std.proofs.Common.{◌++◌}
use Rattle.std.specs.List.{flat_map}
use Rattle.gx_memory_leaves.specs.Cells.{picked}
use Rattle.gx_memory_leaves.proofs.SelectLemmas.{IsGoing}
use Rattle.gx_memory_leaves.proofs.leaf.select_cells.Given as goal

-- what is left gives the rest of what the range gives
abbrev pub invariant-loop-key : goal.invariant-loop-key
invariant-loop-key l = IsGoing l.span.lo l.span.hi
    (l.fn.out ++ flat_map (picked l.span.lo l.span.hi) l.initial.key-iterator) l.fn.out l.out
    l.key-iterator
