use Rattle.std.proofs.Common.{take}
use Rattle.gx_move.specs.Giving.{connects_of, AreOfSchema}
use Rattle.gx_move.proofs.fitting.pairs_fit.Given as goal

abbrev pub invariant-loop-i : goal.invariant-loop-i
invariant-loop-i l = record {
  met : AreOfSchema l.schema (connects_of l.link (take l.i l.pairs));
}
