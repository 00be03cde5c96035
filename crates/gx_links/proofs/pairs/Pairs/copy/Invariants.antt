use Rattle.std.proofs.Common.{◌≡◌, take}
use Rattle.gx_links.proofs.pairs.Pairs.copy.Given as goal

abbrev pub invariant-loop-pair : goal.invariant-loop-pair
invariant-loop-pair l = l.copies.items ≡ take l.pair-index l.pair-items
