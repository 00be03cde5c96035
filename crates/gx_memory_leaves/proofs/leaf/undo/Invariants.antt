use Rattle.std.proofs.Common.{◌≡◌, vec_len}
use Rattle.gx_memory_leaves.specs.Cells.{cells_of, undone, IsOpen}
use Rattle.gx_memory_leaves.proofs.leaf.undo.Given as goal

-- what is still to be taken back gives the start
abbrev pub invariant-loop-key : goal.invariant-loop-key
invariant-loop-key l = IsOpen l.cells.entries l.undos.items
    × (undone l.undos.items (cells_of l.cells.entries) ≡ undone l.fn.undos.items
    (cells_of l.fn.cells.entries))

abbrev pub decreases-loop-key : goal.decreases-loop-key
decreases-loop-key l = vec_len l.undos
