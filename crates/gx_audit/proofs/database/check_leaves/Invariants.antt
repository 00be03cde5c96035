use Rattle.std.proofs.Common.{◌≡◌, ◌<◌, ℕ}
use Rattle.std.specs.Prelude.{◌↔◌, IsTrue}
use Rattle.gx_ports.specs.Calls.{Reads}
use Rattle.gx_audit.proofs.database.check_leaves.Given as goal

abbrev pub invariant-loop-leaf : goal.invariant-loop-leaf
invariant-loop-leaf g l = let b = g.B.View in record {
  checked : IsTrue b.tells → (i : ℕ) → i < l.leaf → b.whole_at l.fn.leaves i;
  each : (i : ℕ) → b.whole_at l.fn.leaves i ↔ b.whole_at l.leaves i;
  reads : Reads b l.fn.leaves l.leaves;
  whole : b.whole l.fn.leaves → b.whole l.leaves;
  steady : b.steady l.fn.leaves ↔ b.steady l.leaves;
  stored : b.stored l.leaves ≡ b.stored l.fn.leaves;
  counted : b.faults l.leaves ≡ b.faults l.fn.leaves;
}
