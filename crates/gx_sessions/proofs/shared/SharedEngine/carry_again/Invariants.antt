use Rattle.std.proofs.Common.{◌≡◌, take, true, Some, Ok}
use Rattle.gx_engine.specs.Steps.{IsAt, schema_of, is_open}
use Rattle.gx_sharing.specs.Sharing.{Sharing, played}
use Rattle.gx_sessions.specs.Shared.{seeing, Carries}
use Rattle.gx_sessions.proofs.shared.SharedEngine.carry_again.Given as goal

abbrev pub invariant-loop-i : goal.invariant-loop-i
invariant-loop-i g l = record {
  again : (p : Sharing) → IsAt g.B.View (seeing p (Some p.kept)) l.fn.self.engine
      → IsAt g.B.View
      (seeing p (Some (played (schema_of l.fn.self.engine) p.kept (take l.i l.kept))))
      l.self.engine;
  carries : Carries g.B.View l.fn.self.engine l.self.engine (Ok tt);
  inside : is_open l.self.engine ≡ true;
  carried : l.self.carried ≡ l.fn.self.carried;
}
