use Rattle.std.proofs.Common.{◌≡◌, ◌<◌, take}
use Rattle.gx_slots.specs.Scan.{hash_of}
use Rattle.gx_slots.proofs.validity.hash.Given as goal

abbrev pub invariant-loop-byte : goal.invariant-loop-byte
invariant-loop-byte l = (l.hash ≡ hash_of (take l.byte-index l.key)) × (l.hash < 4096)
