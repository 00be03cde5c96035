use Rattle.std.proofs.Common.{drop}
use Rattle.gx_slots.specs.Page.{IsEntryPage}
use Rattle.gx_chain.proofs.GatherLemmas.{ArePassed}
use Rattle.gx_chain.proofs.gather.copy_inside.Given as goal

abbrev pub invariant-loop : goal.invariant-loop
invariant-loop l =
    IsEntryPage l.page
    → ArePassed l.fn.found.items l.span.lo l.span.hi l.page (drop 8 l.page) l.counter l.found.items
    l.rest
