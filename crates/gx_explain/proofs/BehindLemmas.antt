-- A text behind what was said before.
use Rattle.std.proofs.Common.{◌≡◌, ℕ, zero, suc, ◌+◌, List, [], ◌∷◌, ◌++◌, length, take, refl, sym, ap, ◌∙◌, arith}
use Rattle.std.specs.Prelude.{min}
use Rattle.std.proofs.lemmas.List.{append_assoc, take_all}
use Rattle.std.proofs.Math.Seq.{take-append-add}

-- a line behind what was said before
pub behind : (before mid now first line : List ℕ) → mid ≡ before ++ first → now ≡ mid ++ line
    → now ≡ before ++ (first ++ line)
behind before mid now first line is said = said ∙ ap (λ t. t ++ line) is
    ∙ append_assoc before first line

-- a front of a line behind what was said before
pub front_behind : (before mid now first line : List ℕ) (n : ℕ) → mid ≡ before ++ first
    → now ≡ mid ++ take n line → now ≡ before ++ take (length first + n) (first ++ line)
front_behind before mid now first line n is said =
    said ∙ ap (λ t. t ++ take n line) is ∙ append_assoc before first (take n line)
    ∙ ap (λ t. before ++ t) (sym (take-append-add first line n))

-- as much as there is of so many
pub taken : (xs : List ℕ) (n m : ℕ) → m ≡ min n (length xs) → take n xs ≡ take m xs
taken [] n m e = take_all n [] (omega arith) ∙ sym (take_all m [] (omega arith))
taken (x ∷ xs) zero m e = ap (λ k. take k (x ∷ xs)) (let z : zero ≡ m = omega (arith, e) in z)
taken (x ∷ xs) (suc n) m e =
    ap (λ (ys : List ℕ). x ∷ ys) (taken xs n (min n (length xs)) refl)
    ∙ ap (λ k. take k (x ∷ xs)) (let z : suc (min n (length xs)) ≡ m = omega (arith, e) in z)
