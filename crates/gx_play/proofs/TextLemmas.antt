-- Fronts of texts and of lists of lines.
use Rattle.std.proofs.Common.{◌≡◌, ◌⊎◌, inl, inr, ℕ, zero, suc, List, [], ◌∷◌, ◌++◌, length, take, drop, get_or, refl, sym, ◌∙◌, ap, arith}
use Rattle.std.specs.Prelude.{◌≢◌}
use Rattle.std.specs.List.{AllByRecursion}
use Rattle.gx_laws.proofs.ListLemmas.{drop_front}

pub cancel : {A : Type 0} (xs ys zs : List A) → xs ++ ys ≡ xs ++ zs → ys ≡ zs
cancel {A} xs ys zs same =
    sym (drop_front xs ys) ∙ ap (λ (l : List A). drop (length xs) l) same ∙ drop_front xs zs

-- what begins a front of a text is a front of it
pub front_of : (m rest xs : List ℕ) (k : ℕ) → m ++ rest ≡ take k xs → m ≡ take (length m) xs
front_of [] rest xs k is = refl
front_of (x ∷ m) rest xs zero is = absurd (omega (arith, ap (λ (l : List ℕ). length l) is))
front_of (x ∷ m) rest [] (suc k) is = absurd (omega (arith, ap (λ (l : List ℕ). length l) is))
front_of (x ∷ m) rest (y ∷ ys) (suc k) is =
    let head : x ≡ y = ap (λ (l : List ℕ). get_or l 0 0) is in
    let tail = front_of m rest ys k (ap (λ (l : List ℕ). drop 1 l) is) in
    λ i. head i ∷ tail i

-- of two fronts of one list one begins with the other
pub fronts : {A : Type 0} (a b c d : List A) → a ++ b ≡ c ++ d
    → ((more : List A) × (c ≡ a ++ more)) ⊎ ((x : A) × (more : List A) × (a ≡ c ++ x ∷ more))
fronts [] b c d same = inl (c, refl)
fronts (x ∷ a) b [] d same = inr (x, a, refl)
fronts {A} (x ∷ a) b (y ∷ c) d same =
    let head : x ≡ y = ap (λ (l : List A). get_or l 0 x) same in
    elim (fronts a b c d (ap (λ (l : List A). drop 1 l) same)) [
      | inl p ↦ inl (p.0, (let e = p.1 in let back : y ≡ x = sym head in λ i. back i ∷ e i))
      | inr p ↦ inr (p.0, p.1, (let e = p.2 in λ i. head i ∷ e i))
    ]

-- two texts that are empty together are both
pub both_empty : (a b : List ℕ) → [] ≡ a ++ b → (a ≡ []) × (b ≡ [])
both_empty [] b same = (refl, sym same)
both_empty (x ∷ a) b same = absurd (omega (arith, ap (λ (l : List ℕ). length l) same))

-- ---- a byte that a text lacks

abbrev pub Lacks : ℕ → List ℕ → Type 0
Lacks b = AllByRecursion (λ x. x ≢ b)

pub lacks_front : (b : ℕ) (xs ys : List ℕ) → Lacks b (xs ++ ys) → Lacks b xs
lacks_front b [] ys lacks = tt
lacks_front b (x ∷ xs) ys lacks = (lacks.0, lacks_front b xs ys lacks.1)

pub lacks_back : (b : ℕ) (xs ys : List ℕ) → Lacks b (xs ++ ys) → Lacks b ys
lacks_back b [] ys lacks = lacks
lacks_back b (x ∷ xs) ys lacks = lacks_back b xs ys lacks.1

pub lacks_both : (b : ℕ) (xs ys : List ℕ) → Lacks b xs → Lacks b ys → Lacks b (xs ++ ys)
lacks_both b [] ys one two = two
lacks_both b (x ∷ xs) ys one two = (one.0, lacks_both b xs ys one.1 two)

pub lacks_take : (b n : ℕ) (xs : List ℕ) → Lacks b xs → Lacks b (take n xs)
lacks_take b zero xs lacks = tt
lacks_take b (suc n) [] lacks = tt
lacks_take b (suc n) (x ∷ xs) lacks = (lacks.0, lacks_take b n xs lacks.1)
