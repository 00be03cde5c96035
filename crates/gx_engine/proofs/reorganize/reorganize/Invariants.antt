use Rattle.std.proofs.Common.{◌≡◌, ◌<◌, ℕ}
use Rattle.std.specs.Prelude.{slice_get, Some}
use Rattle.gx_ports.specs.Calls.{Keeps}
use Rattle.gx_engine.proofs.reorganize.reorganize.Given as goal

abbrev pub invariant-loop-leaf : goal.invariant-loop-leaf
invariant-loop-leaf g l = let b = g.B.View in record {
  working : b.whole l.fn.leaves → b.whole l.leaves × (b.working l.leaves ≡ b.working l.fn.leaves);
  fresh : b.whole l.fn.leaves → (n : ℕ) → n < l.leaf → slice_get l.owners n ≡ Some l.definition
      → b.fresh l.leaves n;
  keeps : Keeps b l.fn.leaves l.leaves;
  counted : b.faults l.leaves ≡ b.faults l.fn.leaves;
}
