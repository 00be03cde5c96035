use Rattle.std.proofs.Common.{take}
use Rattle.gx_values.specs.Values.{AreFit}
use Rattle.gx_move.proofs.fitting.values_fit.Given as goal

abbrev pub invariant-loop-i : goal.invariant-loop-i
invariant-loop-i l = record {
  fit : AreFit (take l.i l.fields) (take l.i l.values);
}
