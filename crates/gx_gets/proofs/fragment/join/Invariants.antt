use Rattle.std.proofs.Common.{◌≡◌, ◌++◌, take}
use Rattle.gx_gets.proofs.PlaceLemmas.{bodies}
use Rattle.gx_gets.proofs.fragment.join.Given as goal

abbrev pub invariant-loop-index : goal.invariant-loop-index
invariant-loop-index l = l.bytes.items ≡ l.fn.bytes.items ++ bodies (take l.index l.entries)
