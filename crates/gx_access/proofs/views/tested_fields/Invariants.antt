use Rattle.std.proofs.Common.{◌≡◌, ◌++◌, drop}
use Rattle.gx_access.specs.Access.{tested}
use Rattle.gx_access.proofs.views.tested_fields.Given as goal

abbrev pub invariant-loop-field : goal.invariant-loop-field
invariant-loop-field l = l.made.items ++ tested (drop l.field-index l.fields) l.left
    ≡ tested l.fields l.slots
