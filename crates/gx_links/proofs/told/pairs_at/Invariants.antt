use Rattle.std.proofs.Common.{◌≡◌, ◌++◌, drop, map}
use Rattle.gx_links.specs.Pairs.{pair_at}
use Rattle.gx_links.proofs.told.pairs_at.Given as goal

abbrev pub invariant-loop-rec : goal.invariant-loop-rec
invariant-loop-rec l = l.pairs.items ++ map (pair_at l.index) (drop l.rec-index l.rec-items) ≡ map
    (pair_at l.index) l.fn.records
