use Rattle.std.proofs.Common.{◌≡◌, ◌≤◌, length}
use Rattle.gx_encode.specs.Packs.{shortest}
use Rattle.gx_encode.proofs.packs.shortest.Given as goal

abbrev pub invariant-loop-rest : goal.invariant-loop-rest
invariant-loop-rest l = record {
  code : shortest l.rest ≡ shortest l.fn.bytes;
  few : length l.rest ≤ length l.fn.bytes;
}

abbrev pub decreases-loop-rest : goal.decreases-loop-rest
decreases-loop-rest l = length l.rest
