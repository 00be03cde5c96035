use Rattle.std.proofs.Common.{sym, ap, ◌∙◌}
use Rattle.std.specs.Prelude.{is_some}
use Rattle.std.specs.Option.{option_copied_mut}
use Rattle.gx_memory_leaves.specs.Cells.{cells_of}
use Rattle.gx_memory_leaves.proofs.MapLemmas.{get_cells, set_cells}
use Rattle.gx_memory_leaves.proofs.CellLemmas.{no_place}
use Rattle.gx_memory_leaves.proofs.leaf.put_back.Goals as goal

pub returns-in-Some-clause-cells : goal.returns-in-Some-clause-cells
returns-in-Some-clause-cells c =
    let es = c.args.cells.now.entries in
    let key = c.args.key.now in
    let before = c.args.before in
    let found = sym c.get_mut.ensures.value ∙ ap option_copied_mut c.in-Some.is in
    ap cells_of (c.get_mut.follows.holds before).0
    ∙ set_cells es key before (ap is_some found)

pub returns-in_default-clause-cells : goal.returns-in_default-clause-cells
returns-in_default-clause-cells c =
    let found = sym c.get_mut.ensures.value ∙ ap option_copied_mut c.in_default.is in
    absurd (no_place _ (get_cells c.args.cells.now.entries c.args.key.now ∙ found) c.requires.place)
