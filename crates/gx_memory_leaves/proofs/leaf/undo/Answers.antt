use Rattle.gx_memory_leaves.specs.Cells.{cells_of}
use Rattle.gx_memory_leaves.proofs.CellLemmas.{taken, last_place}
use Rattle.gx_memory_leaves.proofs.leaf.undo.Goals as goal

pub put_back-requires-clause-place : goal.put_back-requires-clause-place
put_back-requires-clause-place c =
    last_place c.loop-key.undos.items c.pop.new.self.items c.in-Some.field-0
    (cells_of c.loop-key.cells.entries) c.in-Some.ensures.items c.loop-key.invariant.0.can

pub loop-key-preserved : goal.loop-key-preserved
loop-key-preserved c =
    let rest = taken c.loop-key.undos.items c.pop.new.self.items c.in-Some.field-0
    (cells_of c.loop-key.cells.entries) _ _ c.in-Some.ensures.items c.put_back.ensures.cells
    c.loop-key.invariant.0.can c.loop-key.invariant.1 in
    (record { ascending = c.put_back.ensures.ascending; can = rest.0 }, rest.1)

pub loop-key-preserved-in-Some : goal.loop-key-preserved-in-Some
loop-key-preserved-in-Some c =
    let rest = taken c.loop-key.undos.items c.pop.new.self.items c.in-Some.field-0
    (cells_of c.loop-key.cells.entries) _ _ c.in-Some.ensures.items c.put_back.ensures.cells
    c.loop-key.invariant.0.can c.loop-key.invariant.1 in
    (record { ascending = c.put_back.ensures.ascending; can = rest.0 }, rest.1)
