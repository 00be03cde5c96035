use Rattle.std.proofs.Common.{ℕ, ◌-◌, List, drop}
use Rattle.gx_ports.specs.declared.leaves.Entry.{Entry}
use Rattle.gx_scan.proofs.PiecedLemmas.{AreAhead, AreJoinedTo}
use Rattle.gx_scan.proofs.pieced.push_pieces.Given as goal

abbrev pub invariant-loop-index : goal.invariant-loop-index
invariant-loop-index l =
    (whole : List ℕ) (more : List Entry) → AreAhead l.size l.key 0 whole more (drop l.at l.entries)
    → AreJoinedTo l.size l.key (l.index - l.at) whole more (drop l.index l.entries)
    l.fn.bytes.items l.bytes.items
