use Rattle.std.proofs.Common.{◌≡◌, take}
use Rattle.gx_actual.specs.Bodies.{body_of}
use Rattle.gx_split.specs.Groups.{defaults_of}
use Rattle.gx_access.specs.Access.{picked}
use Rattle.gx_access.proofs.fragments.defaults_body.Given as goal

abbrev pub invariant-loop-slot : goal.invariant-loop-slot
invariant-loop-slot l =
    l.body.items ≡ body_of (picked (defaults_of l.fn.fields) (take l.slot-index l.fn.slots))
