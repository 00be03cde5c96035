use Rattle.gx_memory_leaves.proofs.CellLemmas.{put_view, same_view}
use Rattle.gx_memory_leaves.proofs.leaf.Leaf.put.Goals as goal

pub returns-clause-ok : goal.returns-clause-ok
returns-clause-ok c = put_view c.replace.result _ _ _ _ _ _ _ _ _ _ _ c.replace.ensures.ok
    c.replace.ensures.kept c.in_ok-key.ensures c.in_ok-body.ensures c.self.view_is

pub returns-clause-err : goal.returns-clause-err
returns-clause-err c = same_view c.replace.result _ _ _ _ _ _ _ c.replace.ensures.err
    c.replace.ensures.kept c.self.view_is
