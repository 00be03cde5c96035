-- Keys compared one value after the other, and their fronts.
use Rattle.std.proofs.Common.{◌≡◌, ◌<◌, ◌≤◌, ◌+◌, ℕ, List, [], ◌∷◌, ◌⊎◌, inl, inr, sym, ◌∙◌, length, get_or, drop, arith}
use Rattle.std.specs.Prelude.{min}
use Rattle.std.proofs.lemmas.Bool.{cases_lt}
use Rattle.std.proofs.lemmas.List.{drop_more}
use Rattle.std.specs.Ordering.{nat_cmp, ordering_then}
use Rattle.std.specs.declared.cmp.Ordering.TheVariants.{Less, Equal, Greater}
use Rattle.std.specs.Cmp.{nat_cmp_is}
use Rattle.gx_values.specs.declared.values.Value.{Value}
use Rattle.gx_values.specs.Values.{value_cmp, values_cmp}

-- where one is at its end
pub keys_end : (i m n : ℕ) (a b : List Value) → length a + i ≡ m → length b + i ≡ n
    → (length a ≡ 0) ⊎ (length b ≡ 0) → nat_cmp m n ≡ values_cmp a b
keys_end i m n [] [] e f end = sym (nat_cmp_is m n Equal (omega arith))
keys_end i m n [] (y ∷ b) e f end = sym (nat_cmp_is m n Less (omega arith))
keys_end i m n (x ∷ a) [] e f end = sym (nat_cmp_is m n Greater (omega arith))
keys_end i m n (x ∷ a) (y ∷ b) e f end =
    absurd (elim end [ inl k ↦ omega arith | inr k ↦ omega arith ])

-- at values of both
pub keys_next : (a b : List Value) (i : ℕ) (x y : Value) → x ≡ get_or a i x → y ≡ get_or b i y
    → i < length a → i < length b
    → values_cmp (drop i a) (drop i b) ≡ ordering_then (value_cmp x y)
    (values_cmp (drop (i + 1) a) (drop (i + 1) b))
keys_next a b i x y read read' l l' =
    (λ j. values_cmp (drop_more a i x l j) (drop_more b i y l' j))
    ∙ (λ j. ordering_then (value_cmp (sym read j) (sym read' j))
    (values_cmp (drop (i + 1) a) (drop (i + 1) b)))

-- at the end of the shorter one
pub shorter : (i m n : ℕ) → min m n ≤ i → (m ≤ i) ⊎ (n ≤ i)
shorter i m n l = elim (cases_lt m n) [ inl lt ↦ inl (omega arith) | inr ge ↦ inr (omega arith) ]
