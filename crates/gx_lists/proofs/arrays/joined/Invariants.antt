use Rattle.std.proofs.Common.{◌≡◌, take}
use Rattle.gx_values.specs.Keys.{key_of}
use Rattle.gx_lists.proofs.arrays.joined.Given as goal

abbrev pub invariant-loop-member : goal.invariant-loop-member
invariant-loop-member l = l.bytes.items ≡ key_of (take l.member-index l.members)
