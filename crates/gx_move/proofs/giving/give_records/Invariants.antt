use Rattle.std.proofs.Common.{take, Ok}
use Rattle.gx_move.specs.Giving.{inserts_of, CarriesOn}
use Rattle.gx_move.proofs.giving.give_records.Given as goal

abbrev pub invariant-loop-i : goal.invariant-loop-i
invariant-loop-i g l = record {
  carried : CarriesOn g.B.View (inserts_of l.file (take l.i l.records)) l.fn.engine
      l.engine (Ok tt);
}
