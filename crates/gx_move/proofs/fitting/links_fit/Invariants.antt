use Rattle.std.proofs.Common.{take}
use Rattle.gx_move.specs.Giving.{connects_of, each_from, AreOfSchema}
use Rattle.gx_move.proofs.fitting.links_fit.Given as goal

abbrev pub invariant-loop-link : goal.invariant-loop-link
invariant-loop-link l = record {
  met : AreOfSchema l.schema (each_from connects_of 0 (take l.link l.links));
}
