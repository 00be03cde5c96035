use Rattle.std.proofs.Common.{◌≡◌, take}
use Rattle.gx_actual.specs.Bodies.{body_of}
use Rattle.gx_actual.proofs.bodies.body_bytes.Given as goal

abbrev pub invariant-loop-value : goal.invariant-loop-value
invariant-loop-value l = l.body.items ≡ body_of (take l.value-index l.values)
