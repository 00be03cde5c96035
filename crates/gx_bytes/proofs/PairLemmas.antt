-- Lists of which each element stands in a relation to those behind it.
use Rattle.std.proofs.Common.{◌≡◌, ◌⊎◌, inl, inr, ℕ, ◌+◌, ◌-◌, ◌<◌, ◌≤◌, List, [], ◌∷◌, length, map, take, drop, get_or, sym, ap, ◌∙◌, subst, arith}
use Rattle.std.specs.List.{AllPairs, insert}
use Rattle.std.proofs.lemmas.Bool.{cases_lt}
use Rattle.std.proofs.lemmas.List.{get_or-take, get_or-drop, get_or-map, length-map, length-take, length-drop}
use Rattle.std.proofs.lemmas.List.Edits.{get_or-insert_below, get_or-insert_at, get_or-insert_above, length-insert}

-- another element between those that it stands behind and those that stand behind it
pub all_pairs_insert : {X : Type 0} (R : X → X → Type 0) (xs : List X) (i : ℕ) (y : X)
    → i ≤ length xs → AllPairs R xs
    → ((k : ℕ) (d : X) → k < i → R (get_or xs k d) y)
    → ((k : ℕ) (d : X) → i ≤ k → k < length xs → R y (get_or xs k d)) → AllPairs R (insert xs i y)
all_pairs_insert {X} R xs i y in' pairs above under j k d lt below =
    cases (cases_lt k i) (cases_lt i k) (cases_lt j i) (cases_lt i j) where
      len : length (insert xs i y) ≡ length xs + 1
      len = length-insert xs i y in'

      both : (a b : X) → get_or (insert xs i y) j d ≡ a → get_or (insert xs i y) k d ≡ b → R a b
          → R (get_or (insert xs i y) j d) (get_or (insert xs i y) k d)
      both a b j_is k_is r =
          subst (λ (x : X). R x (get_or (insert xs i y) k d)) (sym j_is) (subst (R a) (sym k_is) r)

      before : (n : ℕ) → n < i → get_or (insert xs i y) n d ≡ get_or xs n d
      before n h = get_or-insert_below xs i y d n h in'

      here : (n : ℕ) → n ≡ i → get_or (insert xs i y) n d ≡ y
      here n same = ap (λ (m : ℕ). get_or (insert xs i y) m d) same ∙ get_or-insert_at xs i y d in'

      behind : (n : ℕ) → i < n → get_or (insert xs i y) n d ≡ get_or xs (n - 1) d
      behind n h =
          ap (λ (m : ℕ). get_or (insert xs i y) m d) (let e : n ≡ n - 1 + 1 = omega arith in e)
          ∙ get_or-insert_above xs i y d (n - 1) (omega arith) in'

      cases : ((k < i) ⊎ (i ≤ k)) → ((i < k) ⊎ (k ≤ i)) → ((j < i) ⊎ (i ≤ j)) → ((i < j) ⊎ (j ≤ i))
          → R (get_or (insert xs i y) j d) (get_or (insert xs i y) k d)
      cases (inl k_low) k_high j_low j_high =
          both _ _ (before j (omega arith)) (before k k_low) (pairs j k d lt (omega arith))
      cases (inr k_ge) (inr k_le) j_low j_high =
          both _ _ (before j (omega arith)) (here k (omega arith)) (above j d (omega arith))
      cases (inr k_ge) (inl k_high) (inl j_low) j_high =
          both _ _ (before j j_low) (behind k k_high)
          (pairs j (k - 1) d (omega arith) (omega (arith, len)))
      cases (inr k_ge) (inl k_high) (inr j_ge) (inl j_high) =
          both _ _ (behind j j_high) (behind k k_high)
          (pairs (j - 1) (k - 1) d (omega arith) (omega (arith, len)))
      cases (inr k_ge) (inl k_high) (inr j_ge) (inr j_le) =
          both _ _ (here j (omega arith)) (behind k k_high)
          (under (k - 1) d (omega arith) (omega (arith, len)))

-- the parts of such a list
pub all_pairs_take : {X : Type 0} (R : X → X → Type 0) (xs : List X) (n : ℕ) → AllPairs R xs
    → AllPairs R (take n xs)
all_pairs_take R xs n pairs i j d lt below =
    let short = length-take n xs in
    subst (λ x. R x (get_or (take n xs) j d)) (sym (get_or-take n xs i d (omega arith)))
    (subst (R (get_or xs i d)) (sym (get_or-take n xs j d (omega arith)))
    (pairs i j d lt (omega arith)))

pub all_pairs_drop : {X : Type 0} (R : X → X → Type 0) (xs : List X) (n : ℕ) → AllPairs R xs
    → AllPairs R (drop n xs)
all_pairs_drop R xs n pairs i j d lt below =
    let short = length-drop n xs in
    subst (λ x. R x (get_or (drop n xs) j d)) (sym (get_or-drop n xs i d))
    (subst (R (get_or xs (n + i) d)) (sym (get_or-drop n xs j d))
    (pairs (n + i) (n + j) d (omega arith) (omega arith)))

-- the list read through a function
pub all_pairs_map : {X Y : Type 0} (R : Y → Y → Type 0) (f : X → Y) (xs : List X)
    → AllPairs (λ a b. R (f a) (f b)) xs → AllPairs R (map f xs)
all_pairs_map R f [] pairs i j d lt below = absurd (omega arith)
all_pairs_map {X} R f (x ∷ xs) pairs i j d lt below =
    let all : List X = x ∷ xs in
    let within : j < length all = omega (arith, length-map all f) in
    let left = get_or-map f all i x d (omega arith) in
    let right = get_or-map f all j x d within in
    subst (λ y. R y (get_or (map f all) j d)) (sym left)
    (subst (R (f (get_or all i x))) (sym right) (pairs i j x lt within))

pub all_pairs_of_map : {X Y : Type 0} (R : Y → Y → Type 0) (f : X → Y) (xs : List X)
    → AllPairs R (map f xs) → AllPairs (λ a b. R (f a) (f b)) xs
all_pairs_of_map R f xs pairs i j d lt below =
    let left = get_or-map f xs i d (f d) (omega arith) in
    let right = get_or-map f xs j d (f d) below in
    subst (λ y. R y (f (get_or xs j d))) left
    (subst (R (get_or (map f xs) i (f d))) right
    (pairs i j (f d) lt (omega (arith, length-map xs f))))
