use Rattle.gx_btree.proofs.SelectingLemmas.{IsSelecting}
use Rattle.gx_btree.proofs.selection.select.Given as goal

abbrev pub invariant-loop : goal.invariant-loop
invariant-loop g l =
    IsSelecting g.P.PageView l.place l.span.lo l.span.hi l.fn.pages l.pages l.fn.out l.out l.key
    l.counter
