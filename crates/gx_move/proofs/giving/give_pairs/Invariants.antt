use Rattle.std.proofs.Common.{take, Ok}
use Rattle.gx_move.specs.Giving.{connects_of, CarriesOn}
use Rattle.gx_move.proofs.giving.give_pairs.Given as goal

abbrev pub invariant-loop-i : goal.invariant-loop-i
invariant-loop-i g l = record {
  carried : CarriesOn g.B.View (connects_of l.link (take l.i l.pairs)) l.fn.engine l.engine (Ok tt);
}
