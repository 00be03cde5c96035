use Rattle.std.proofs.Common.{◌≡◌, map, take}
use Rattle.gx_values.specs.Values.{default_of}
use Rattle.gx_gets.proofs.whole.default_values.Given as goal

abbrev pub invariant-loop-field : goal.invariant-loop-field
invariant-loop-field l = l.values.items ≡ map default_of (take l.field-index l.fields)
