use Rattle.std.proofs.Common.{◌≡◌, rules, sym, ap, ◌∙◌, None, Some}
use Rattle.std.specs.FinMap as fin
use Rattle.gx_memory_leaves.specs.Cells.{cells_of, without}
use Rattle.gx_memory_leaves.proofs.MapLemmas.{get_cells, insert_cells}
use Rattle.gx_memory_leaves.proofs.CellLemmas.{made_more, noted_more}
use Rattle.gx_memory_leaves.proofs.leaf.replace.Goals as goal

pub returns-in_ok-push-in-None-clause-ok : goal.returns-in_ok-push-in-None-clause-ok
returns-in_ok-push-in-None-clause-ok c =
    ap cells_of c.in_ok-insert.ensures.entries
    ∙ insert_cells c.args.cells.now.entries c.args.key c.args.cell

pub returns-in_ok-push-in-None-clause-kept : goal.returns-in_ok-push-in-None-clause-kept
returns-in_ok-push-in-None-clause-kept c =
    let same : c.in_ok-noted.noted ≡ c.args.key = search rules in
    let es = c.args.cells.now.entries in
    let none : fin.get (cells_of es) c.args.key ≡ None = get_cells es c.args.key
    ∙ sym c.in_ok-insert.ensures.old ∙ c.in-None.is in
    (made_more c.args.made.now.items _ _ c.args.undos.now.items _ (cells_of es) _ c.args.key
    c.in_ok-noted.noted c.args.cell
    c.in_ok-try_reserve.ensures.items c.in_ok-push-in-None.ensures.items same
    c.in_ok-try_reserve-2.ensures.items
    (returns-in_ok-push-in-None-clause-ok c) none c.requires.can).0

pub returns-in_ok-push-in-None-clause-open : goal.returns-in_ok-push-in-None-clause-open
returns-in_ok-push-in-None-clause-open c =
    let same : c.in_ok-noted.noted ≡ c.args.key = search rules in
    let es = c.args.cells.now.entries in
    let none : fin.get (cells_of es) c.args.key ≡ None = get_cells es c.args.key
    ∙ sym c.in_ok-insert.ensures.old ∙ c.in-None.is in
    record {
      ascending = c.in_ok-insert.ensures.ordered;
      can = (made_more c.args.made.now.items _ _ c.args.undos.now.items _ (cells_of es) _ c.args.key
          c.in_ok-noted.noted c.args.cell
          c.in_ok-try_reserve.ensures.items c.in_ok-push-in-None.ensures.items same
          c.in_ok-try_reserve-2.ensures.items
          (returns-in_ok-push-in-None-clause-ok c) none c.requires.can).1;
    }

pub returns-in_ok-push-in-Some-clause-ok : goal.returns-in_ok-push-in-Some-clause-ok
returns-in_ok-push-in-Some-clause-ok c =
    ap cells_of c.in_ok-insert.ensures.entries
    ∙ insert_cells c.args.cells.now.entries c.args.key c.args.cell

pub returns-in_ok-push-in-Some-clause-kept : goal.returns-in_ok-push-in-Some-clause-kept
returns-in_ok-push-in-Some-clause-kept c =
    let same : c.in_ok-noted.noted ≡ c.args.key = search rules in
    let es = c.args.cells.now.entries in
    let some : fin.get (cells_of es) c.args.key ≡ Some c.in-Some.before = get_cells es c.args.key
    ∙ sym c.in_ok-insert.ensures.old ∙ c.in-Some.is in
    let rest = noted_more c.args.undos.now.items _ _ _ (cells_of es) _ c.args.key c.args.cell
    c.in_ok-try_reserve-2.ensures.items c.in_ok-push-in-Some.ensures.items
    (returns-in_ok-push-in-Some-clause-ok c) same some c.requires.can in
    λ i. without (c.in_ok-try_reserve.ensures.items i) (rest.0 i)

pub returns-in_ok-push-in-Some-clause-open : goal.returns-in_ok-push-in-Some-clause-open
returns-in_ok-push-in-Some-clause-open c =
    let same : c.in_ok-noted.noted ≡ c.args.key = search rules in
    let es = c.args.cells.now.entries in
    let some : fin.get (cells_of es) c.args.key ≡ Some c.in-Some.before = get_cells es c.args.key
    ∙ sym c.in_ok-insert.ensures.old ∙ c.in-Some.is in
    record {
      ascending = c.in_ok-insert.ensures.ordered;
      can = (noted_more c.args.undos.now.items _ _ _ (cells_of es) _ c.args.key c.args.cell
          c.in_ok-try_reserve-2.ensures.items c.in_ok-push-in-Some.ensures.items
          (returns-in_ok-push-in-Some-clause-ok c) same some c.requires.can).1;
    }
