use Rattle.std.proofs.Common.{◌≡◌}
use Rattle.gx_sessions.specs.Turns.{IsReady, schema_of}
use Rattle.tests_sessions.proofs.turns.said_by.Given as goal

abbrev pub invariant-loop-line : goal.invariant-loop-line
invariant-loop-line g l = record {
  ready : IsReady g.B.View l.sessions;
  schema : schema_of l.sessions ≡ schema_of l.fn.sessions;
}
