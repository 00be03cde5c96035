use Rattle.std.proofs.Common.{drop}
use Rattle.gx_btree.proofs.GiveLemmas.{IsGiving}
use Rattle.gx_btree.proofs.selection.give.Given as goal

abbrev pub invariant-loop : goal.invariant-loop
invariant-loop l =
    IsGiving l.fn.out l.from l.span.lo l.span.hi l.page (drop 8 l.page) l.counter l.out l.rest
