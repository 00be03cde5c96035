use Rattle.std.proofs.Common.{◌≡◌, vec_len}
use Rattle.gx_memory_leaves.specs.Cells.{cells_of, IsAscending, bodies}
use Rattle.gx_memory_leaves.proofs.leaf.keep.Given as goal

abbrev pub invariant-loop-undo : goal.invariant-loop-undo
invariant-loop-undo l = IsAscending l.cells.entries
    × (bodies (cells_of l.cells.entries) ≡ bodies (cells_of l.fn.cells.entries))

abbrev pub decreases-loop-undo : goal.decreases-loop-undo
decreases-loop-undo l = vec_len l.undos
