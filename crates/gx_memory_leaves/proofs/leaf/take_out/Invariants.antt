use Rattle.std.proofs.Common.{◌≡◌, vec_len}
use Rattle.gx_memory_leaves.specs.Cells.{cells_of, without, IsAscending}
use Rattle.gx_memory_leaves.proofs.leaf.take_out.Given as goal

-- what is still to be taken out gives the start
abbrev pub invariant-loop-key : goal.invariant-loop-key
invariant-loop-key l = IsAscending l.cells.entries
    × (without l.made.items (cells_of l.cells.entries) ≡ without l.fn.made.items
    (cells_of l.fn.cells.entries))

abbrev pub decreases-loop-key : goal.decreases-loop-key
decreases-loop-key l = vec_len l.made
