use Rattle.std.proofs.Common.{◌≡◌}
use Rattle.gx_engine.specs.Steps.{IsReady, schema_of}
use Rattle.tests_structures.proofs.walks.expect_answers.Given as goal

abbrev pub invariant-loop-asked : goal.invariant-loop-asked
invariant-loop-asked g l = record {
  ready : IsReady g.B.View l.engine;
  schema : schema_of l.engine ≡ schema_of l.fn.engine;
}
