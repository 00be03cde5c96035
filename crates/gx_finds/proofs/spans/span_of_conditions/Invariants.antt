use Rattle.std.proofs.Common.{take}
use Rattle.gx_values.specs.Spans.{IsValueSpan}
use Rattle.gx_finds.specs.Spans.{HoldsAllMet}
use Rattle.gx_finds.proofs.spans.span_of_conditions.Given as goal

abbrev pub invariant-loop-cond : goal.invariant-loop-cond
invariant-loop-cond l = record {
  meets : HoldsAllMet l.kind l.field (take l.cond-index l.conds) l.met;
  whole : IsValueSpan l.kind l.met;
}
