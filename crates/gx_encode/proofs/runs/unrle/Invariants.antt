use Rattle.gx_encode.proofs.RunSteps.{IsReading}
use Rattle.std.proofs.Common.{length}
use Rattle.gx_encode.proofs.runs.unrle.Given as goal

abbrev pub invariant-loop-rest : goal.invariant-loop-rest
invariant-loop-rest l = IsReading l.fn.longest l.fn.bytes l.previous l.text.items l.rest

abbrev pub decreases-loop-rest : goal.decreases-loop-rest
decreases-loop-rest l = length l.rest
