use Rattle.std.proofs.Common.{◌≡◌, length}
use Rattle.gx_btree.proofs.FindLemmas.{IsFinding}
use Rattle.gx_btree.proofs.searching.find.Given as goal

abbrev pub invariant-loop : goal.invariant-loop
invariant-loop g l =
    (length l.page ≡ 4096)
    × IsFinding g.P.PageView l.place l.key l.fn.pages l.pages l.from l.at l.bound l.counter
