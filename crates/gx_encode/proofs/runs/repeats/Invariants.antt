use Rattle.std.proofs.Common.{◌≡◌, ◌+◌, drop}
use Rattle.gx_encode.specs.Runs.{repeats}
use Rattle.gx_encode.proofs.runs.repeats.Given as goal

abbrev pub invariant-loop-i : goal.invariant-loop-i
invariant-loop-i l = l.i + repeats l.byte (drop l.i l.text) ≡ repeats l.byte l.text
