-- Tests of numbers, and numbers that are equal or not.
use Rattle.std.proofs.Common.{◌≡◌, ℕ, zero, suc, ◌<◌, ◌≤◌, true, ◌⊎◌, inl, inr, refl, ap, arith, ◌+◌, ◌*◌}
use Rattle.std.specs.Prelude.{◌==◌, ◌≢◌, nat_eq, nat_le}
use Rattle.std.proofs.lemmas.Bool.Decides.{nat_tests}

pub number_itself : (n : ℕ) → (n == n) ≡ true
number_itself n = grind (arith, nat_tests)

pub same_number : (n m : ℕ) → n ≡ m → (n == m) ≡ true
same_number n m e = grind (arith, nat_tests)

pub nat_eq_itself : (n : ℕ) → nat_eq n n ≡ true
nat_eq_itself n = grind (arith, nat_tests)

pub equal_from_nat_eq : (m n : ℕ) → nat_eq m n ≡ true → m ≡ n
equal_from_nat_eq m n e = grind (arith, nat_tests)

pub at_most_from_nat_le : (m n : ℕ) → nat_le m n ≡ true → m ≤ n
at_most_from_nat_le m n e = grind (arith, nat_tests)

pub nat_le_from_at_most : (m n : ℕ) → m ≤ n → nat_le m n ≡ true
nat_le_from_at_most m n e = grind (arith, nat_tests)

pub below_last : (x n : ℕ) → x < suc n → x ≢ n → x < n
below_last x n b d = omega (arith, b, d)

pub nat_cases : (m n : ℕ) → (m ≡ n) ⊎ (m ≡ n → ⊥)
nat_cases zero zero = inl refl
nat_cases zero (suc n) = inr (λ e. omega arith)
nat_cases (suc m) zero = inr (λ e. omega arith)
nat_cases (suc m) (suc n) = elim (nat_cases m n) [
  | inl e ↦ inl (ap suc e)
  | inr other ↦ inr (λ e. other (omega arith))
]

pub times_suc : (m n : ℕ) → suc m * n ≡ n + m * n
times_suc m n = omega arith
