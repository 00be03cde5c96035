use Rattle.std.proofs.Common.{◌≡◌, length}
use Rattle.gx_seen.proofs.SeenLemmas.{IsSeekingUnseen}
use Rattle.gx_seen.proofs.seen.seek_unseen.Given as goal

abbrev pub invariant-loop-table : goal.invariant-loop-table
invariant-loop-table g l = IsSeekingUnseen g.P.PageView l.owner l.seen l.fn.pages l.pages l.table
    × (length l.owners ≡ 2048)
