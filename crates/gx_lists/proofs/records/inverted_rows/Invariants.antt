use Rattle.std.proofs.Common.{◌≡◌, ◌++◌, drop}
use Rattle.gx_links.specs.Pairs.{rows_of}
use Rattle.gx_lists.specs.Inverted.{inverted_rows}
use Rattle.gx_lists.proofs.records.inverted_rows.Given as goal

abbrev pub invariant-loop-owned : goal.invariant-loop-owned
invariant-loop-owned l =
    l.rows ++ rows_of inverted_rows (drop l.owned-index l.owned-items) ≡ rows_of inverted_rows
    l.fn.owners
