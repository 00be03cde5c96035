use Rattle.std.proofs.Common.{◌∙◌, sym}
use Rattle.std.specs.Map.{keys_of}
use Rattle.std.proofs.lemmas.List.Elements.{recursion_from_All}
use Rattle.gx_laws.proofs.OrderingLemmas.{less_from_lt}
use Rattle.gx_memory_leaves.proofs.SelectLemmas.{past_each}
use Rattle.gx_memory_leaves.proofs.leaf.is_past_all.Goals as goal

pub returns-in-Some : goal.returns-in-Some
returns-in-Some c = λ less.
    let keys = keys_of c.args.cells.now.entries in
    let up_to = recursion_from_All _ keys c.in-Some.ensures.all_up_to in
    past_each c.in-Some.last.now c.args.key.now keys up_to (sym c.cmp.ensures
    ∙ less_from_lt c.cmp.result (sym c.is_lt.ensures ∙ less))
