-- The order of bytes, by the numbers that their first eight are.
use Rattle.std.proofs.lemmas.Nat.{be_bytes_8}
use Rattle.std.proofs.Common.{◌≡◌, ℕ, zero, suc, ◌+◌, ◌*◌, ◌/◌, ◌%◌, ◌^◌, ◌<◌, ◌≤◌, List, [], ◌∷◌, ◌++◌, length, take, drop, get_or, min, refl, sym, ap, ◌∙◌, arith, length-take, take-append-drop}
use Rattle.std.specs.Prelude.{◌≢◌}
use Rattle.std.specs.Ordering.{nat_cmp, ordering_then}
use Rattle.std.specs.declared.cmp.Ordering.{Ordering}
use Rattle.std.specs.declared.cmp.Ordering.TheVariants.{Less, Equal, Greater}
use Rattle.std.specs.Cmp.{ranked}
use Rattle.std.specs.Cmp.Lexicographic.{slice_cmp}
use Rattle.std.specs.Int.{w64, to_be_bytes, from_be_bytes}
use Rattle.gx_laws.proofs.NumberLemmas.{times_suc}
use Rattle.gx_laws.proofs.OrderingLemmas.{last_one, cmp_less, cmp_equal, cmp_greater}

-- ---- numbers

scaled : (m q p r s : ℕ) → q < p → r < m → q * m + r < p * m + s
scaled m zero zero r s lt below = absurd (omega arith)
scaled m zero (suc p) r s lt below = omega (arith, times_suc p m)
scaled m (suc q) zero r s lt below = absurd (omega arith)
scaled m (suc q) (suc p) r s lt below =
    omega (arith, scaled m q p r s (omega arith) below, times_suc p m, times_suc q m)

-- a digit in front of what is below the unit
step : (m q r p s : ℕ) → r < m → s < m
    → nat_cmp (q * m + r) (p * m + s) ≡ ordering_then (nat_cmp q p) (nat_cmp r s)
step m q r p s below under =
    elim (nat_cmp q p) as (λ o. o ≡ nat_cmp q p
    → nat_cmp (q * m + r) (p * m + s) ≡ ordering_then o (nat_cmp r s)) [
      | Less ↦ λ e. cmp_less (q * m + r) (p * m + s) (scaled m q p r s (ranked q p Less e) below)
      | Equal ↦ λ e. ap (λ n. nat_cmp (n * m + r) (p * m + s)) (ranked q p Equal e)
          ∙ same (p * m) r s
      | Greater ↦ λ e. cmp_greater (q * m + r) (p * m + s)
          (scaled m p q s r (ranked q p Greater e) under)
    ] refl
  where
    same : (n r s : ℕ) → nat_cmp (n + r) (n + s) ≡ nat_cmp r s
    same n r s = elim (nat_cmp r s) as (λ o. o ≡ nat_cmp r s → nat_cmp (n + r) (n + s) ≡ o) [
      | Less ↦ λ e. let h : r < s = ranked r s Less e in cmp_less (n + r) (n + s) (omega arith)
      | Equal ↦ λ e. let h : r ≡ s = ranked r s Equal e in cmp_equal (n + r) (n + s) (omega arith)
      | Greater ↦ λ e. let h : s < r = ranked r s Greater e in
          cmp_greater (n + r) (n + s) (omega arith)
    ] refl

grow : (m a b qa qb ra rb A B : ℕ) (o : Ordering) → o ≡ nat_cmp ra rb → ra < m → rb < m
    → A ≡ qa * m + ra → B ≡ qb * m + rb → ordering_then (nat_cmp qa qb) o ≡ nat_cmp A B
grow m a b qa qb ra rb A B o e f g ea eb =
    ap (ordering_then (nat_cmp qa qb)) e ∙ sym (step m qa ra qb rb f g)
    ∙ (λ i. nat_cmp (sym ea i) (sym eb i))

-- numbers stand in the order of their big-endian bytes
pub bytes_order : (a b : ℕ) → a < 2 ^ 64 → b < 2 ^ 64
    → slice_cmp nat_cmp (to_be_bytes w64 a) (to_be_bytes w64 b) ≡ nat_cmp a b
bytes_order a b f g =
    let s1 = sym (last_one (nat_cmp (a % 256) (b % 256))) in
    let s2 = grow 256 a b (a / 256 % 256) (b / 256 % 256) (a % 256) (b % 256) (a % 65536)
    (b % 65536) _ s1 (omega arith) (omega arith) (omega arith) (omega arith) in
    let s3 = grow 65536 a b (a / 65536 % 256) (b / 65536 % 256) (a % 65536) (b % 65536)
    (a % 16777216) (b % 16777216) _ s2 (omega arith) (omega arith) (omega arith) (omega arith) in
    let s4 = grow 16777216 a b (a / 16777216 % 256) (b / 16777216 % 256) (a % 16777216)
    (b % 16777216) (a % 4294967296) (b % 4294967296) _ s3 (omega arith) (omega arith) (omega arith)
    (omega arith) in
    let s5 = grow 4294967296 a b (a / 4294967296 % 256) (b / 4294967296 % 256) (a % 4294967296)
    (b % 4294967296) (a % 1099511627776) (b % 1099511627776) _ s4 (omega arith) (omega arith)
    (omega arith) (omega arith) in
    let s6 = grow 1099511627776 a b (a / 1099511627776 % 256) (b / 1099511627776 % 256)
    (a % 1099511627776) (b % 1099511627776) (a % 281474976710656) (b % 281474976710656) _ s5
    (omega arith) (omega arith) (omega arith) (omega arith) in
    let s7 = grow 281474976710656 a b (a / 281474976710656 % 256) (b / 281474976710656 % 256)
    (a % 281474976710656) (b % 281474976710656) (a % 72057594037927936) (b % 72057594037927936) _ s6
    (omega arith) (omega arith) (omega arith) (omega arith) in
    grow 72057594037927936 a b (a / 72057594037927936 % 256) (b / 72057594037927936 % 256)
    (a % 72057594037927936) (b % 72057594037927936) a b _ s7 (omega arith) (omega arith)
    (omega arith) (omega arith)

-- ---- bytes

-- where two fronts have as many bytes they decide, and where they are the same the others do
pub front_order : (a b x y : List ℕ) → length a ≡ length b
    → slice_cmp nat_cmp (a ++ x) (b ++ y)
    ≡ ordering_then (slice_cmp nat_cmp a b) (slice_cmp nat_cmp x y)
front_order [] [] x y e = refl
front_order [] (d ∷ b) x y e = absurd (omega (arith, e))
front_order (c ∷ a) [] x y e = absurd (omega (arith, e))
front_order (c ∷ a) (d ∷ b) x y e =
    elim (nat_cmp c d) as (λ o. ordering_then o (slice_cmp nat_cmp (a ++ x) (b ++ y))
    ≡ ordering_then (ordering_then o (slice_cmp nat_cmp a b)) (slice_cmp nat_cmp x y)) [
      | Less ↦ refl
      | Equal ↦ front_order a b x y (omega (arith, e))
      | Greater ↦ refl
    ]

pub first_bytes : (n : ℕ) (l : List ℕ) → ((i : ℕ) → get_or l i 0 < 256) → (i : ℕ)
    → get_or (take n l) i 0 < 256
first_bytes zero l small i = omega arith
first_bytes (suc n) [] small i = omega arith
first_bytes (suc n) (x ∷ l) small zero = small 0
first_bytes (suc n) (x ∷ l) small (suc i) = first_bytes n l (λ k. small (suc k)) i

-- bytes are the number that they begin with, and the others
pub split : (bytes front rest : List ℕ) (n : ℕ) → 8 ≤ length bytes → front ≡ take 8 bytes
    → rest ≡ drop 8 bytes → ((i : ℕ) → get_or bytes i 0 < 256) → n ≡ from_be_bytes w64 front
    → bytes ≡ to_be_bytes w64 n ++ rest
split bytes front rest n long first second small gives =
    let eight : length (take 8 bytes) ≡ 8 =
    length-take 8 bytes ∙ (let e : min 8 (length bytes) ≡ 8 = omega arith in e) in
    let written : to_be_bytes w64 n ≡ take 8 bytes = be_bytes_8 (take 8 bytes) n eight
    (first_bytes 8 bytes small) (gives ∙ ap (from_be_bytes w64) first) in
    sym (take-append-drop 8 bytes) ∙ (λ i. sym written i ++ sym second i)

module _ (a b : List ℕ) (x y : ℕ) (rest others : List ℕ) (small_x : x < 2 ^ 64)
    (small_y : y < 2 ^ 64) (of_a : a ≡ to_be_bytes w64 x ++ rest)
    (of_b : b ≡ to_be_bytes w64 y ++ others) where
  by_parts : slice_cmp nat_cmp a b ≡ ordering_then (nat_cmp x y) (slice_cmp nat_cmp rest others)
  by_parts =
      (λ i. slice_cmp nat_cmp (of_a i) (of_b i))
      ∙ front_order (to_be_bytes w64 x) (to_be_bytes w64 y) rest others refl
      ∙ ap (λ o. ordering_then o (slice_cmp nat_cmp rest others)) (bytes_order x y small_x small_y)

  pub by_others : x ≡ y → slice_cmp nat_cmp rest others ≡ slice_cmp nat_cmp a b
  by_others e =
      ap (λ o. ordering_then o (slice_cmp nat_cmp rest others)) (sym (cmp_equal x y e))
      ∙ sym by_parts

  pub by_fronts : x ≢ y → nat_cmp x y ≡ slice_cmp nat_cmp a b
  by_fronts apart = decided (nat_cmp x y) refl ∙ sym by_parts
    where
      decided : (o : Ordering) → o ≡ nat_cmp x y
          → o ≡ ordering_then o (slice_cmp nat_cmp rest others)
      decided Less e = refl
      decided Equal e = absurd (apart (ranked x y Equal e))
      decided Greater e = refl
