use Rattle.std.proofs.Common.{◌≡◌, ◌++◌, take}
use Rattle.gx_values.specs.Values.{AreFit}
use Rattle.gx_actual.specs.Bodies.{body_of}
use Rattle.gx_actual.proofs.bodies.read_body.Given as goal

abbrev pub invariant-loop-field : goal.invariant-loop-field
invariant-loop-field l = record {
  so_far : AreFit (take l.field-index l.fields) l.values.items;
  is : l.body ≡ body_of l.values.items ++ l.rest;
}
