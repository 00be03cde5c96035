-- The number of a piece, in the last bytes of its key.
use Rattle.std.proofs.Common.{◌≡◌, ◌-◌, ◌%◌, ◌^◌, ◌∙◌, ◌++◌, List, ℕ, ap, length, take, drop, arith, length-append}
use Rattle.std.specs.Int.{w64, to_be_bytes, from_be_bytes}
use Rattle.std.proofs.Math.Seq.{take-append_seam}
use Rattle.gx_laws.proofs.ListLemmas.{drop_front}

pub number_behind : (l key front last : List ℕ) (m : ℕ) → l ≡ key ++ to_be_bytes w64 m
    → front ≡ take (length l - 8) l → last ≡ drop (length l - 8) l
    → (front ≡ key) × (last ≡ to_be_bytes w64 m)
number_behind l key front last m same first second =
    let size : length l - 8 ≡ length key =
    omega (arith, ap length same, length-append key (to_be_bytes w64 m)) in (
      first ∙ (λ i. take (size i) (same i)) ∙ take-append_seam key (to_be_bytes w64 m),
      second ∙ (λ i. drop (size i) (same i)) ∙ drop_front key (to_be_bytes w64 m),
    )

pub bytes_wrap : (m : ℕ) → from_be_bytes w64 (to_be_bytes w64 m) ≡ m % 2 ^ 64
bytes_wrap m = omega arith
