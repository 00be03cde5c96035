use Rattle.std.proofs.Common.{◌≡◌, drop}
use Rattle.gx_bnode.specs.Page.{IsInnerPage}
use Rattle.gx_btree.proofs.WayLemmas.{IsOnWay}
use Rattle.gx_btree.proofs.searching.child_on.Given as goal

abbrev pub invariant-loop : goal.invariant-loop
invariant-loop l =
    (l.bound ≡ l.fn.bound)
    × (IsInnerPage l.page →
    IsOnWay l.page (drop 8 l.page) l.key l.fn.bound l.counter l.child l.rest)
