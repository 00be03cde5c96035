use Rattle.std.proofs.Common.{take}
use Rattle.gx_move.specs.Giving.{inserts_of, each_from, AreOfSchema}
use Rattle.gx_move.proofs.fitting.files_fit.Given as goal

abbrev pub invariant-loop-file : goal.invariant-loop-file
invariant-loop-file l = record {
  met : AreOfSchema l.schema (each_from inserts_of 0 (take l.file l.files));
}
