use Rattle.std.proofs.Common.{ap, ◌∙◌}
use Rattle.gx_memory_leaves.specs.Cells.{cells_of}
use Rattle.gx_memory_leaves.proofs.MapLemmas.{remove_cells}
use Rattle.gx_memory_leaves.proofs.CellLemmas.{taken_out}
use Rattle.gx_memory_leaves.proofs.leaf.take_out.Goals as goal

pub loop-key-preserved : goal.loop-key-preserved
loop-key-preserved c =
    let es = c.loop-key.cells.entries in (
      c.remove.ensures.ordered,
      taken_out c.loop-key.made.items c.pop.new.self.items c.in-Some.key
          (cells_of es) _ _ c.in-Some.ensures.items
          (ap cells_of c.remove.ensures.entries
          ∙ remove_cells es c.in-Some.key c.loop-key.invariant.0) c.loop-key.invariant.1,
    )

pub loop-key-preserved-in-Some : goal.loop-key-preserved-in-Some
loop-key-preserved-in-Some c =
    let es = c.loop-key.cells.entries in (
      c.remove.ensures.ordered,
      taken_out c.loop-key.made.items c.pop.new.self.items c.in-Some.key
          (cells_of es) _ _ c.in-Some.ensures.items
          (ap cells_of c.remove.ensures.entries
          ∙ remove_cells es c.in-Some.key c.loop-key.invariant.0) c.loop-key.invariant.1,
    )
