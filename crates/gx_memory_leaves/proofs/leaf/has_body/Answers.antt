use Rattle.std.proofs.Common.{rules, ◌≡◌, ap, sym, ◌∙◌}
use Rattle.std.specs.Prelude.{is_some}
use Rattle.std.specs.Option.{option_copied}
use Rattle.gx_memory_leaves.proofs.MapLemmas.{get_cells}
use Rattle.gx_memory_leaves.proofs.CellLemmas.{flat}
use Rattle.gx_memory_leaves.proofs.leaf.has_body.Goals as goal

pub returns-in-Some : goal.returns-in-Some
returns-in-Some c =
    let is : c.is_some.result ≡ is_some c.in-Some.cell.now = search rules in
    is ∙ ap (λ o. is_some (flat o))
    (sym (get_cells c.args.cells.now.entries c.args.key.now ∙ sym c.get.ensures.value
    ∙ ap option_copied c.in-Some.is))

pub returns-in-None : goal.returns-in-None
returns-in-None c = ap (λ o. is_some (flat o))
    (sym (get_cells c.args.cells.now.entries c.args.key.now ∙ sym c.get.ensures.value
    ∙ ap option_copied c.in-None.is))
