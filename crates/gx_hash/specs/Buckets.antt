-- The chain of a hashed file in which an entry stands.
use Rattle.std.specs.Prelude.{ℕ, ◌*◌, ◌%◌, ◌^◌, ◌≤◌, ◌==◌, List, [], ◌∷◌, length, take, Option, Some, None, if◌then◌else◌, bit_xor, nat_le}
use Rattle.std.specs.Option.{option_map, unwrap_or}
use Rattle.gx_values.specs.declared.values.Kind.{Kind}
use Rattle.gx_values.specs.declared.values.Kind.TheVariants as kind
use Rattle.gx_ports.specs.declared.kinds.LeafKind.{LeafKind}
use Rattle.gx_ports.specs.declared.kinds.LeafKind.TheVariants as kinds
use Rattle.gx_ports.specs.declared.kinds.LeafSpec.{LeafSpec}
use Rattle.gx_ports.specs.Roots.{roots_of}

-- FNV-1a of 64 bits, from an offset on: for each byte, exclusive or with it, then times a prime
-- modulo 2 ^ 64
abbrev pub fnv_from : ℕ → List ℕ → ℕ
fnv_from hash [] = hash
fnv_from hash (byte ∷ bytes) = fnv_from (bit_xor hash byte * 1099511628211 % 2 ^ 64) bytes

abbrev pub fnv : List ℕ → ℕ
fnv bytes = fnv_from 14695981039346656037 bytes

-- the bytes up to and with the first 0, where there is one
abbrev pub through_zero : List ℕ → Option (List ℕ)
through_zero [] = None
through_zero (byte ∷ bytes) =
    if byte == 0 then Some (0 ∷ []) else option_map (λ front. byte ∷ front) (through_zero bytes)

-- The front of a key by the kind of its first field: the 8 bytes of an int, or the bytes of a text
-- up to and with the first 0. None where the key has no such front.
abbrev pub whole_front : Kind → List ℕ → Option (List ℕ)
whole_front kind.Int key = if nat_le 8 (length key) then Some (take 8 key) else None
whole_front (kind.Text most) key = through_zero key
whole_front (kind.Bytes most) key = None

-- the front, which is the whole key where it has no such front
abbrev pub front_of : Kind → List ℕ → List ℕ
front_of kind key = unwrap_or (whole_front kind key) key

-- the number of the chain in which an entry with the key stands
abbrev pub hash_bucket : LeafSpec → List ℕ → ℕ
hash_bucket spec key = fnv (front_of spec.first key) % roots_of spec

-- a hashed file of at least one chain
abbrev pub IsHashed : LeafKind → Type 0
IsHashed (kinds.Hash buckets) = 1 ≤ buckets
IsHashed kinds.Heap = ⊥
IsHashed kinds.Isam = ⊥
IsHashed kinds.Bplus = ⊥
