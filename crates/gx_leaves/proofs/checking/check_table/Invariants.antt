use Rattle.std.proofs.Common.{◌≡◌, length}
use Rattle.gx_leaves.proofs.TableLemmas.{IsCheckingTable}
use Rattle.gx_leaves.proofs.checking.check_table.Given as goal

abbrev pub invariant-loop-table : goal.invariant-loop-table
invariant-loop-table g l = IsCheckingTable g.P.PageView l.leaves l.fn.pages l.pages l.table
    × (length l.owners ≡ 2048)
