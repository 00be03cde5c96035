use Rattle.std.proofs.Common.{◌≡◌, ◌++◌, drop}
use Rattle.gx_lists.specs.Inverted.{inverted_rows}
use Rattle.gx_lists.proofs.records.add_rows.Given as goal

abbrev pub invariant-loop-member : goal.invariant-loop-member
invariant-loop-member l =
    l.rows-inside.0.items ++ inverted_rows l.owner (drop l.member-index l.member-items) ≡ l.fn.rows
    ++ inverted_rows l.fn.owner l.fn.members
