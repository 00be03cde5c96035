use Rattle.std.proofs.Common.{◌≡◌}
use Rattle.gx_engine.specs.Steps.{IsReady, schema_of}
use Rattle.tests_structures.proofs.readings.expect_asked.Given as goal

abbrev pub invariant-loop-asked : goal.invariant-loop-asked
invariant-loop-asked g l = record {
  ready : IsReady g.B.View l.engine;
  schema : schema_of l.engine ≡ schema_of l.fn.engine;
}
