use Rattle.std.proofs.Common.{◌≡◌, drop}
use Rattle.gx_hash.specs.Buckets.{fnv, fnv_from}
use Rattle.gx_hash.proofs.buckets.fnv.Given as goal

-- the bytes that are left make of the number what all bytes make
abbrev pub invariant-loop-byte : goal.invariant-loop-byte
invariant-loop-byte l = fnv_from l.hash (drop l.byte-index l.bytes) ≡ fnv l.bytes
