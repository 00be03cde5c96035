use Rattle.std.proofs.Common.{◌≡◌, ◌++◌, map}
use Rattle.gx_scan.specs.Within.{row_of}
use Rattle.gx_walks.proofs.reading.push_rows.Given as goal

abbrev pub invariant-loop-rec : goal.invariant-loop-rec
invariant-loop-rec l = l.rows.items ≡ l.fn.rows.items ++ map row_of l.yielded
