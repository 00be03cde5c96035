use Rattle.std.proofs.Common.{sym, ◌∙◌, refl}
use Rattle.gx_memory_leaves.specs.Cells.{cells_of}
use Rattle.gx_memory_leaves.proofs.CellLemmas.{removed_body, removal_noted}
use Rattle.gx_memory_leaves.proofs.leaf.remove_body.Goals as goal

pub returns-in_ok-push-clause-ok : goal.returns-in_ok-push-clause-ok
returns-in_ok-push-clause-ok c =
    removed_body (cells_of c.args.cells.now.entries) _ c.args.key _ c.take_body-before.ensures.body
    c.take_body-before.ensures.cells

pub returns-in_ok-push-clause-undone : goal.returns-in_ok-push-clause-undone
returns-in_ok-push-clause-undone c =
    (removal_noted c.args.undos.now.items _ _ _ (cells_of c.args.cells.now.entries) _ c.args.key
    c.in_ok-try_reserve.ensures.items c.in_ok-push.ensures.items c.take_body-before.ensures.cells
    refl
    c.take_body-before.ensures.body (sym c.is_some.ensures ∙ c.if-is_some.true) c.requires.can).0

pub returns-in_ok-push-clause-open : goal.returns-in_ok-push-clause-open
returns-in_ok-push-clause-open c = record {
  ascending = c.take_body-before.ensures.ascending;
  can = (removal_noted c.args.undos.now.items _ _ _ (cells_of c.args.cells.now.entries) _ c.args.key
      c.in_ok-try_reserve.ensures.items c.in_ok-push.ensures.items c.take_body-before.ensures.cells
      refl
      c.take_body-before.ensures.body (sym c.is_some.ensures ∙ c.if-is_some.true) c.requires.can).1;
}

pub returns-else-is_some-clause-ok : goal.returns-else-is_some-clause-ok
returns-else-is_some-clause-ok c =
    removed_body (cells_of c.args.cells.now.entries) _ c.args.key _ c.take_body-before.ensures.body
    c.take_body-before.ensures.cells
