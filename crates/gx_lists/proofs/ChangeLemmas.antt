-- One member more or less, among ascending ones, by its place.
use Rattle.std.proofs.Common.{◌≡◌, ◌<◌, ◌≤◌, ◌+◌, ℕ, suc, Bool, true, false, cond, List, [], ◌∷◌, ◌++◌, length, take, drop, get_or, refl, sym, ap, ◌∙◌, arith}
use Rattle.std.specs.Ordering.{is_lt}
use Rattle.std.proofs.lemmas.List.{drop_more}
use Rattle.gx_values.specs.declared.values.Value.{Value}
use Rattle.gx_values.specs.Values.{value_cmp}
use Rattle.gx_links.specs.Links.{with_member}
use Rattle.gx_lists.specs.Arrays.{place_in}

pub with_at : (m : Value) (xs : List Value)
    → take (place_in m xs) xs ++ m ∷ drop (place_in m xs) xs ≡ with_member m xs
with_at m [] = refl
with_at m (x ∷ xs) = go (is_lt (value_cmp m x)) (with_at m xs)
  where
    go : (b : Bool) → take (place_in m xs) xs ++ m ∷ drop (place_in m xs) xs ≡ with_member m xs
        → take (cond b 0 (suc (place_in m xs))) (x ∷ xs)
        ++ m ∷ drop (cond b 0 (suc (place_in m xs))) (x ∷ xs) ≡ cond b (m ∷ x ∷ xs)
        (x ∷ with_member m xs)
    go true e = refl
    go false e = ap (λ zs. x ∷ zs) e

pub place_within : (m : Value) (xs : List Value) → place_in m xs ≤ length xs
place_within m [] = omega arith
place_within m (x ∷ xs) = go (is_lt (value_cmp m x)) (place_within m xs)
  where
    go : (b : Bool) → place_in m xs ≤ length xs → cond b 0 (suc (place_in m xs)) ≤ suc (length xs)
    go true l = omega arith
    go false l = omega (arith, l)

-- from one place on
place_at : (m : Value) (xs : List Value) (i : ℕ) (x : Value) → i < length xs → x ≡ get_or xs i x
    → place_in m (drop i xs) ≡ cond (is_lt (value_cmp m x)) 0 (suc (place_in m (drop (i + 1) xs)))
place_at m xs i x l read = ap (place_in m) (drop_more xs i x l)
    ∙ ap (λ y. cond (is_lt (value_cmp m y)) 0 (suc (place_in m (drop (i + 1) xs)))) (sym read)

pub place_here : (m : Value) (xs : List Value) (i : ℕ) (x : Value) → i < length xs
    → x ≡ get_or xs i x
    → i + place_in m (drop i xs) ≡ place_in m xs → is_lt (value_cmp m x) ≡ true → i ≡ place_in m xs
place_here m xs i x l read so_far less =
    let at : place_in m (drop i xs) ≡ 0 = place_at m xs i x l read
    ∙ ap (λ b. cond b 0 (suc (place_in m (drop (i + 1) xs)))) less in
    omega (arith, at, so_far)

pub place_next : (m : Value) (xs : List Value) (i : ℕ) (x : Value) → i < length xs
    → x ≡ get_or xs i x
    → i + place_in m (drop i xs) ≡ place_in m xs → is_lt (value_cmp m x) ≡ false
    → (i + 1) + place_in m (drop (i + 1) xs) ≡ place_in m xs
place_next m xs i x l read so_far less =
    let at : place_in m (drop i xs) ≡ suc (place_in m (drop (i + 1) xs)) = place_at m xs i x l read
    ∙ ap (λ b. cond b 0 (suc (place_in m (drop (i + 1) xs)))) less in
    omega (arith, at, so_far)
