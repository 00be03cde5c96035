use Rattle.std.proofs.Common.{◌≡◌, rules, [], ◌∙◌}
use Rattle.gx_memory_leaves.specs.Cells.{cells_of, pair_of}
use Rattle.gx_memory_leaves.proofs.CellLemmas.{no_pair}
use Rattle.gx_memory_leaves.proofs.leaf.Leaf.new.Goals as goal

pub returns : goal.returns
returns c =
    let made : c.new-2.result.items ≡ [] = search rules in
    let none : c.new-3.result.items ≡ [] = search rules in
    (λ i. pair_of (cells_of (c.new.ensures.empty i)) (made i) (none i)) ∙ no_pair
