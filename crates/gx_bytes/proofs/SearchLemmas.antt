-- A search through a list, one element after the other.
use Rattle.std.proofs.Common.{◌≡◌, ℕ, ◌+◌, ◌<◌, ◌≤◌, List, [], ◌∷◌, length, take, drop, get_or, refl, sym, ap, ◌∙◌, subst, arith}
use Rattle.std.specs.List.{All, sum_by}
use Rattle.std.proofs.lemmas.List.{length-drop, take_all}
use Rattle.std.proofs.lemmas.List.Elements.{All-nil, All-more}
use Rattle.std.proofs.lemmas.List.Sums.{sum_by_more}
use Rattle.gx_bytes.proofs.RecordLemmas.{drop-is_cons}

-- a search has come to a place, and these elements are left
pub record IsAt {X : Type 0} (xs : List X) (place : ℕ) (left : List X) : Type 0 where
  pub left_is : left ≡ drop place xs
  pub within : place ≤ length xs

module _ {X : Type 0} where
  pub at_start : (xs left : List X) → left ≡ xs → IsAt xs 0 left
  at_start xs left is = record { left_is = is; within = omega arith }

  pub at_next : (xs : List X) (place : ℕ) (left : List X) (x : X) (rest : List X)
      → IsAt xs place left
      → left ≡ x ∷ rest
      → (place < length xs) × ((d : X) → get_or xs place d ≡ x) × (drop (place + 1) xs ≡ rest)
  at_next xs place left x rest at is = drop-is_cons xs place x rest (sym at.left_is ∙ is)

  pub at_more : (xs : List X) (place : ℕ) (left : List X) (x : X) (rest : List X)
      → IsAt xs place left
      → left ≡ x ∷ rest → IsAt xs (place + 1) rest
  at_more xs place left x rest at is =
      let next = at_next xs place left x rest at is in
      record { left_is = sym next.2; within = omega (arith, next.0) }

  -- each element that is left is one of the list
  pub at_all : (P : X → Type 0) (xs : List X) (place : ℕ) (left : List X) (x : X) (rest : List X)
      → All P xs → IsAt xs place left → left ≡ x ∷ rest → P x
  at_all P xs place left x rest all at is =
      let next = at_next xs place left x rest at is in
      subst P (next.1 x) (all place x next.0)

  pub at_end : (xs : List X) (place : ℕ) (left : List X) → IsAt xs place left → left ≡ []
      → length xs ≤ place
  at_end xs place left at none =
      omega (arith, ap length (sym at.left_is ∙ none), length-drop place xs)

-- a search has come to a place, and P holds of each element before it
pub record HasPassed {X : Type 0} (P : X → Type 0) (xs : List X) (place : ℕ) (left : List X) : Type
    0 where
  pub at : IsAt xs place left
  pub before : All P (take place xs)

module _ {X : Type 0} (P : X → Type 0) where
  pub passed_start : (xs left : List X) → left ≡ xs → HasPassed P xs 0 left
  passed_start xs left is = record { at = at_start xs left is; before = All-nil P }

  pub passed_more : (xs : List X) (place : ℕ) (left : List X) (x : X) (rest : List X)
      → HasPassed P xs place left → left ≡ x ∷ rest → P x → HasPassed P xs (place + 1) rest
  passed_more xs place left x rest passed is here =
      let next = at_next xs place left x rest passed.at is in
      record {
        at = at_more xs place left x rest passed.at is;
        before = All-more P xs place x next.0 passed.before (subst P (sym (next.1 x)) here);
      }

  pub passed_end : (xs : List X) (place : ℕ) (left : List X) → HasPassed P xs place left → left ≡ []
      → All P xs
  passed_end xs place left passed none =
      subst (All P) (take_all place xs (at_end xs place left passed.at none)) passed.before

-- a search has come to a place, and the elements before it take so many bytes, no more than `most`
pub record HasTaken {X : Type 0} (size : X → ℕ) (most : ℕ) (xs : List X) (place taken : ℕ)
    (left : List X) : Type 0 where
  pub at : IsAt xs place left
  pub taken_is : taken ≡ sum_by size (take place xs)
  pub below : taken ≤ most

module _ {X : Type 0} (size : X → ℕ) (most : ℕ) where
  pub taken_start : (xs left : List X) → left ≡ xs → HasTaken size most xs 0 0 left
  taken_start xs left is =
      record { at = at_start xs left is; taken_is = refl; below = omega arith }

  pub taken_next : (xs : List X) (place taken : ℕ) (left : List X) (x : X) (rest : List X)
      → HasTaken size most xs place taken left → left ≡ x ∷ rest
      → taken + size x ≡ sum_by size (take (place + 1) xs)
  taken_next xs place taken left x rest has is =
      let next = at_next xs place left x rest has.at is in
      let more = sum_by_more size xs place x next.0
      ∙ ap (λ (y : X). sum_by size (take place xs) + size y) (next.1 x) in
      omega (arith, more, has.taken_is)

  pub taken_more : (xs : List X) (place taken : ℕ) (left : List X) (x : X) (rest : List X)
      → HasTaken size most xs place taken left → left ≡ x ∷ rest → taken + size x ≤ most
      → HasTaken size most xs (place + 1) (taken + size x) rest
  taken_more xs place taken left x rest has is below = record {
    at = at_more xs place left x rest has.at is;
    taken_is = taken_next xs place taken left x rest has is;
    below = below;
  }

  -- so all of them take no more
  pub taken_end : (xs : List X) (place taken : ℕ) (left : List X)
      → HasTaken size most xs place taken left → left ≡ [] → sum_by size xs ≤ most
  taken_end xs place taken left has none =
      let whole = ap (sum_by size) (take_all place xs (at_end xs place left has.at none)) in
      omega (arith, whole, has.taken_is, has.below)
