use Rattle.std.proofs.Common.{ap, ◌∙◌, set, get_or}
use Rattle.std.proofs.lemmas.List.Edits.{map_over_more}
use Rattle.gx_memory_leaves.specs.Cells.{LeafPair, ended}
use Rattle.gx_memory_leaves.proofs.plain.settle_leaves.Goals as goal

pub loop-leaf-preserved : goal.loop-leaf-preserved
loop-leaf-preserved c =
    ap (set c.loop-leaf.leaves c.loop-leaf.leaf-index) c.settle.ensures
    ∙ map_over_more (ended c.args.end) c.args.leaves.now c.loop-leaf.leaves c.loop-leaf.leaf-index _
    c.loop-leaf-test.true c.loop-leaf.invariant
    (ap (λ (d : LeafPair). get_or c.loop-leaf.leaves c.loop-leaf.leaf-index d)
    c.leaf-item.is)
