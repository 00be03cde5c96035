use Rattle.std.proofs.Common.{◌≡◌, ◌++◌, drop, map}
use Rattle.std.specs.Prelude.{not}
use Rattle.gx_actual.specs.Bodies.{body_of}
use Rattle.gx_split.specs.Groups.{chosen, defaults_of}
use Rattle.gx_scan.proofs.joined.default_body.Given as goal

abbrev pub invariant-loop-at : goal.invariant-loop-at
invariant-loop-at l =
    l.body.items ++ body_of (defaults_of (chosen (drop l.at (map not l.mask)) (drop l.at l.fields)))
    ≡ body_of (defaults_of (chosen (map not l.mask) l.fields))
