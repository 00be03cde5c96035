use Rattle.std.proofs.Common.{sym, ap, ◌∙◌}
use Rattle.gx_memory_leaves.specs.Cells.{cells_of, bodies}
use Rattle.gx_memory_leaves.proofs.MapLemmas.{remove_cells}
use Rattle.gx_memory_leaves.proofs.CellLemmas.{dropped}
use Rattle.gx_memory_leaves.proofs.leaf.drop_removed.Goals as goal

pub returns-then-not-has_body-clause-bodies : goal.returns-then-not-has_body-clause-bodies
returns-then-not-has_body-clause-bodies c =
    let es = c.args.cells.now.entries in
    let key = c.args.key.now in
    ap (λ xs. bodies (cells_of xs)) c.remove.ensures.entries
    ∙ ap bodies (remove_cells es key c.requires)
    ∙ dropped (cells_of es) key (sym c.has_body.ensures ∙ c.if-not-has_body.true)
