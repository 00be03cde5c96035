use Rattle.std.proofs.Common.{sym, ap, ◌∙◌}
use Rattle.std.specs.Prelude.{is_some}
use Rattle.std.specs.Option.{option_copied_mut}
use Rattle.std.specs.FinMap as fin
use Rattle.gx_memory_leaves.specs.Cells.{cells_of, emptied}
use Rattle.gx_memory_leaves.proofs.MapLemmas.{get_cells, set_cells}
use Rattle.gx_memory_leaves.proofs.CellLemmas.{flat, emptied_here}
use Rattle.gx_memory_leaves.proofs.leaf.take_body.Goals as goal

pub returns-in-Some-clause-body : goal.returns-in-Some-clause-body
returns-in-Some-clause-body c =
    let found = sym c.get_mut.ensures.value ∙ ap option_copied_mut c.in-Some.is in
    c.replace.ensures.value
    ∙ sym (ap flat (get_cells c.args.cells.now.entries c.args.key.now ∙ found))

pub returns-in-Some-clause-cells : goal.returns-in-Some-clause-cells
returns-in-Some-clause-cells c =
    let es = c.args.cells.now.entries in
    let key = c.args.key.now in
    let found = sym c.get_mut.ensures.value ∙ ap option_copied_mut c.in-Some.is in
    ap cells_of (c.get_mut.follows.holds c.replace.new.dest).0
    ∙ set_cells es key c.replace.new.dest (ap is_some found)
    ∙ ap (fin.insert (cells_of es) key) (c.replace.ensures.after ∙ c.none.ensures)
    ∙ emptied_here (cells_of es) key c.in-Some.cell.now (get_cells es key ∙ found)
    ∙ ap (emptied (cells_of es) key) (sym c.replace.ensures.value)

pub returns-in-None-clause-body : goal.returns-in-None-clause-body
returns-in-None-clause-body c =
    let found = sym c.get_mut.ensures.value ∙ ap option_copied_mut c.in-None.is in
    c.none-in-None.ensures ∙ sym
    (ap flat (get_cells c.args.cells.now.entries c.args.key.now ∙ found))
