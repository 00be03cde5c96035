-- The number that bytes begin with, and bytes behind their length.
use Rattle.std.proofs.Common.{◌≡◌, ℕ, ◌^◌, ◌<◌, ◌≤◌, List, ◌++◌, length, take, drop, sym, ap, ap₂, ◌∙◌}
use Rattle.std.specs.Int.{w16, w32, to_be_bytes, from_be_bytes}
use Rattle.std.proofs.lemmas.List.{length-take-le, take-append-drop}
use Rattle.std.proofs.lemmas.Nat.{from_be_bytes-to_be_bytes_2, from_be_bytes-to_be_bytes_4}

pub from_be_bytes-front_2 : (n : ℕ) (rest : List ℕ) → n < 2 ^ 16
    → from_be_bytes w16 (to_be_bytes w16 n ++ rest) ≡ n
from_be_bytes-front_2 n rest fits = from_be_bytes-to_be_bytes_2 n fits

pub from_be_bytes-front_4 : (n : ℕ) (rest : List ℕ) → n < 2 ^ 32
    → from_be_bytes w32 (to_be_bytes w32 n ++ rest) ≡ n
from_be_bytes-front_4 n rest fits = from_be_bytes-to_be_bytes_4 n fits

-- bytes have one number in front
pub same_front_2 : (m n : ℕ) (xs ys : List ℕ) → m < 2 ^ 16 → n < 2 ^ 16
    → to_be_bytes w16 m ++ xs ≡ to_be_bytes w16 n ++ ys → (m ≡ n) × (xs ≡ ys)
same_front_2 m n xs ys m_fits n_fits same = (
  sym (from_be_bytes-front_2 m xs m_fits) ∙ ap (from_be_bytes w16) same
      ∙ from_be_bytes-front_2 n ys n_fits,
  ap (λ (zs : List ℕ). drop 2 zs) same,
)

-- bytes cut at the length in front of them
pub cut_behind : (tail part behind : List ℕ) (len : ℕ) → len ≤ length tail → part ≡ take len tail
    → behind ≡ drop len tail
    → to_be_bytes w16 len ++ tail ≡ to_be_bytes w16 (length part) ++ (part ++ behind)
cut_behind tail part behind len within part_is behind_is =
    let size : length part ≡ len = ap length part_is ∙ length-take-le len tail within in
    let whole : part ++ behind ≡ tail =
    ap₂ (λ (xs ys : List ℕ). xs ++ ys) part_is behind_is ∙ take-append-drop len tail in
    ap₂ (λ (n : ℕ) (xs : List ℕ). to_be_bytes w16 n ++ xs) (sym size) (sym whole)
