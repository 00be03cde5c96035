use Rattle.std.proofs.Common.{take}
use Rattle.gx_move.specs.Giving.{inserts_of, AreOfSchema}
use Rattle.gx_move.proofs.fitting.records_fit.Given as goal

abbrev pub invariant-loop-i : goal.invariant-loop-i
invariant-loop-i l = record {
  met : AreOfSchema l.schema (inserts_of l.file (take l.i l.records));
}
