-- Places of lists, and what holds of all that a list has.
use Rattle.std.proofs.Common.{◌≡◌, ℕ, zero, suc, ◌<◌, Bool, true, false, cond, Some, List, [], ◌∷◌, ◌++◌, length, get_or, map, drop, slice_get, refl, ap, arith}
use Rattle.std.specs.Prelude.{◌≢◌, not, replicate}
use Rattle.std.specs.List.{AllByRecursion, filter}
use Rattle.std.proofs.lemmas.Bool.{false≢true}
use Rattle.std.proofs.lemmas.Option.{none-some, same_Some}

-- ---- places

pub get_or_any : {A : Type 0} (xs : List A) (i : ℕ) (d e : A) → i < length xs
    → get_or xs i d ≡ get_or xs i e
get_or_any [] i d e l = absurd (omega arith)
get_or_any (x ∷ xs) zero d e l = refl
get_or_any (x ∷ xs) (suc i) d e l = get_or_any xs i d e (omega arith)

pub no_flag : (n p : ℕ) → get_or (replicate n false) p false ≡ false
no_flag zero p = refl
no_flag (suc n) zero = refl
no_flag (suc n) (suc p) = no_flag n p

pub unmarked : (n p : ℕ) → slice_get (replicate n false) p ≢ Some true
unmarked zero p is = none-some true is
unmarked (suc n) zero is = false≢true (same_Some false true is)
unmarked (suc n) (suc p) is = unmarked n p is

pub turned_at : (mask : List Bool) (i : ℕ) (b : Bool) → i < length mask → b ≡ get_or mask i false
    → not b ≡ get_or (map not mask) i false
turned_at [] i b lt is = absurd (omega arith)
turned_at (c ∷ mask) zero b lt is = ap not is
turned_at (c ∷ mask) (suc i) b lt is = turned_at mask i b (omega arith) is

-- ---- fronts and ends

pub drop_front : {A : Type 0} (xs ys : List A) → drop (length xs) (xs ++ ys) ≡ ys
drop_front [] ys = refl
drop_front (x ∷ xs) ys = drop_front xs ys

pub right_empty : (xs ys : List ℕ) → xs ++ ys ≡ [] → ys ≡ []
right_empty [] ys e = e
right_empty (x ∷ xs) ys e = cc

pub none_long : {A : Type 0} (xs : List A) → length xs ≡ 0 → xs ≡ []
none_long [] e = refl
none_long (x ∷ xs) e = absurd (omega (arith, e))

-- ---- what holds of all

pub all_places : {A : Type 0} (P : A → Type 0) (d : A) (xs : List A)
    → ((i : ℕ) → i < length xs → P (get_or xs i d)) → AllByRecursion P xs
all_places P d [] h = tt
all_places P d (x ∷ xs) h = (h 0 (omega arith), all_places P d xs (λ i lt. h (suc i) (omega arith)))

pub all_more : {A : Type 0} (P : A → Type 0) (xs : List A) (x : A) → AllByRecursion P xs → P x
    → AllByRecursion P (xs ++ x ∷ [])
all_more P [] x all p = (p, tt)
all_more P (y ∷ xs) x all p = (all.0, all_more P xs x all.1 p)

pub all_filter : {A : Type 0} (P : A → Type 0) (p : A → Bool) (xs : List A) → AllByRecursion P xs
    → AllByRecursion P (filter p xs)
all_filter P p [] h = tt
all_filter P p (x ∷ xs) h =
    elim (p x) as (λ b. AllByRecursion P (cond b (x ∷ filter p xs) (filter p xs))) [
      | true ↦ (h.0, all_filter P p xs h.1)
      | false ↦ all_filter P p xs h.1
    ]
