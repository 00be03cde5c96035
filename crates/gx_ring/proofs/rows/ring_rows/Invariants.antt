use Rattle.std.proofs.Common.{◌≡◌, ◌++◌, drop}
use Rattle.gx_links.specs.Pairs.{rows_of}
use Rattle.gx_ring.specs.Ring.{ring_rows}
use Rattle.gx_ring.proofs.rows.ring_rows.Given as goal

abbrev pub invariant-loop-owned : goal.invariant-loop-owned
invariant-loop-owned l =
    l.rows ++ rows_of ring_rows (drop l.owned-index l.owned-items) ≡ rows_of ring_rows l.fn.owners
