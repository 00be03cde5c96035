use Rattle.std.proofs.Common.{ap}
use Rattle.gx_memory_leaves.specs.Cells.{Cells, without}
use Rattle.gx_memory_leaves.proofs.CellLemmas.{remove_view, same_view}
use Rattle.gx_memory_leaves.proofs.leaf.Leaf.remove.Goals as goal

pub returns-clause-ok : goal.returns-clause-ok
returns-clause-ok c = remove_view c.remove_body.result _ _ _ _ _ _ _ _ c.remove_body.ensures.ok
    c.remove_body.ensures.undone c.in_ok-key.ensures c.self.view_is

pub returns-clause-err : goal.returns-clause-err
returns-clause-err c = same_view c.remove_body.result _ _ _ _ _ _ _ c.remove_body.ensures.err
    (ap (λ (m : Cells). without c.self.inside.made.items m) c.remove_body.ensures.undone)
    c.self.view_is
