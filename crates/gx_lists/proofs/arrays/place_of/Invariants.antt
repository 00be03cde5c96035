use Rattle.std.proofs.Common.{◌≡◌, ◌+◌, drop}
use Rattle.gx_lists.specs.Arrays.{place_in}
use Rattle.gx_lists.proofs.arrays.place_of.Given as goal

abbrev pub invariant-loop-i : goal.invariant-loop-i
invariant-loop-i l = l.i + place_in l.member (drop l.i l.members) ≡ place_in l.member l.members
