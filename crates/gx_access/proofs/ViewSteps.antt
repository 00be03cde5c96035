-- Steps of views: lists of slots, element by element.
use Rattle.std.proofs.Common.{◌≡◌, ℕ, zero, suc, ◌+◌, ◌<◌, ◌≤◌, List, [], ◌∷◌, ◌++◌, length, get_or, drop, Bool, true, false, refl, sym, ap, subst, ◌∙◌, arith, append_assoc, append-nil, None, add-one, if◌then◌else◌}
use Rattle.std.specs.Prelude.{slice_set, is_none}
use Rattle.gx_encode.specs.Forms.{changed}
use Rattle.gx_split.specs.Groups.{chosen}
use Rattle.gx_codec.specs.declared.slots.Slot.{Slot}
use Rattle.gx_access.specs.Access.{all_slots, is_free}

pub slots_more : (j i : ℕ)
    → all_slots j (i + 1) ≡ all_slots j i ++ record { number = j + i; code = None } ∷ []
slots_more j zero =
    let one : 0 + 1 ≡ suc 0 = omega arith in
    let none : j ≡ j + 0 = omega arith in
    ap (all_slots j) one ∙ ap (λ (n : ℕ). record { number = n; code = None } ∷ []) none
slots_more j (suc i) =
    let one : suc i + 1 ≡ suc (i + 1) = omega arith in
    let more : suc j + i ≡ j + suc i = omega arith in
    ap (all_slots j) one ∙ ap (λ (ss : List Slot). record { number = j; code = None } ∷ ss)
    (slots_more (suc j) i)
    ∙ ap (λ (n : ℕ). record { number = j; code = None }
    ∷ (all_slots (suc j) i ++ record { number = n; code = None } ∷ [])) more

pub free_at : (i : ℕ) (slots : List Slot) (d : Slot) → i < length slots
    → is_free i slots ≡ is_none (get_or slots i d).code
free_at i [] d below = absurd (omega arith)
free_at zero (s ∷ slots) d below = refl
free_at (suc i) (s ∷ slots) d below = free_at i slots d (omega arith)

pub free_past : (i : ℕ) (slots : List Slot) → length slots ≤ i → is_free i slots ≡ true
free_past i [] past = refl
free_past zero (s ∷ slots) past = absurd (omega arith)
free_past (suc i) (s ∷ slots) past = free_past i slots (omega arith)

pub changed_at : (i : ℕ) (f : Slot → Slot) (slots : List Slot) (d : Slot)
    → changed i f slots ≡ slice_set slots i (f (get_or slots i d))
changed_at i f [] d = refl
changed_at zero f (s ∷ slots) d = refl
changed_at (suc i) f (s ∷ slots) d = ap (λ (ss : List Slot). s ∷ ss) (changed_at i f slots d)

pub changed_past : (i : ℕ) (f : Slot → Slot) (slots : List Slot) → length slots ≤ i
    → slots ≡ changed i f slots
changed_past i f [] past = refl
changed_past zero f (s ∷ slots) past = absurd (omega arith)
changed_past (suc i) f (s ∷ slots) past =
    ap (λ (ss : List Slot). s ∷ ss) (changed_past i f slots (omega arith))

-- ---- those that a mask chooses

module _ {A : Type 0} where
  -- the first of them, and those behind
  chosen_first : (b : Bool) (x : A) (mask : List Bool) (xs : List A)
      → chosen (b ∷ mask) (x ∷ xs) ≡ (if b then x ∷ [] else []) ++ chosen mask xs
  chosen_first true x mask xs = refl
  chosen_first false x mask xs = refl

  chosen_next : (mask : List Bool) (xs : List A) (i : ℕ) (x : A) → i < length xs
      → x ≡ get_or xs i x
      → chosen (drop i mask) (drop i xs)
      ≡ (if get_or mask i false then x ∷ [] else []) ++ chosen (drop (suc i) mask) (drop (suc i) xs)
  chosen_next mask [] i x below read = absurd (omega arith)
  chosen_next [] (y ∷ xs) zero x below read = refl
  chosen_next (b ∷ mask) (y ∷ xs) zero x below read =
      ap (λ z. chosen (b ∷ mask) (z ∷ xs)) (sym read) ∙ chosen_first b x mask xs
  chosen_next [] (y ∷ xs) (suc i) x below read = refl
  chosen_next (b ∷ mask) (y ∷ xs) (suc i) x below read =
      chosen_next mask xs i x (omega arith) read

  -- one more is done
  pub chosen_so_far : (mask : List Bool) (xs : List A) (i : ℕ) (x : A) (b : Bool)
      (made more all : List A) → i < length xs → x ≡ get_or xs i x → b ≡ get_or mask i false
      → more ≡ made ++ (if b then x ∷ [] else [])
      → made ++ chosen (drop i mask) (drop i xs) ≡ all
      → more ++ chosen (drop (i + 1) mask) (drop (i + 1) xs) ≡ all
  chosen_so_far mask xs i x b made more all below read is pushed so_far =
      let rest = chosen (drop (suc i) mask) (drop (suc i) xs) in
      let first : List A = if b then x ∷ [] else [] in
      ap (λ n. more ++ chosen (drop n mask) (drop n xs)) (add-one i)
      ∙ ap (λ ys. ys ++ rest) pushed
      ∙ append_assoc made first rest
      ∙ ap (λ c. made ++ ((if c then x ∷ [] else []) ++ rest)) is
      ∙ ap (λ ys. made ++ ys) (sym (chosen_next mask xs i x below read))
      ∙ so_far

  -- the same of an element that was read by its number
  pub chosen_read : (mask : List Bool) (xs ys : List A) (i : ℕ) (d : A) (b : Bool)
      (made more all : List A) → ys ≡ xs → i < length ys → b ≡ get_or mask i false
      → more ≡ made ++ (if b then get_or ys i d ∷ [] else [])
      → made ++ chosen (drop i mask) (drop i xs) ≡ all
      → more ++ chosen (drop (i + 1) mask) (drop (i + 1) xs) ≡ all
  chosen_read mask xs ys i d b made more all same below is pushed so_far =
      let at : get_or ys i d ≡ get_or xs i (get_or ys i d) =
      any_default ys i d (get_or ys i d) below
      ∙ ap (λ (zs : List A). get_or zs i (get_or ys i d)) same in
      chosen_so_far mask xs i (get_or ys i d) b made more all
      (subst (λ (zs : List A). i < length zs) same below) at is pushed so_far
    where
      any_default : (xs : List A) (i : ℕ) (d e : A) → i < length xs → get_or xs i d ≡ get_or xs i e
      any_default [] i d e below = absurd (omega arith)
      any_default (x ∷ xs) zero d e below = refl
      any_default (x ∷ xs) (suc i) d e below = any_default xs i d e (omega arith)

  -- nothing is left
  pub chosen_out : (mask : List Bool) (xs : List A) (i : ℕ) (made all : List A) → length xs ≤ i
      → made ++ chosen (drop i mask) (drop i xs) ≡ all → made ≡ all
  chosen_out mask xs i made all past so_far =
      sym (append-nil made) ∙ ap (λ ys. made ++ ys) (sym (none mask xs i past)) ∙ so_far
    where
      empty : (mask : List Bool) → chosen {A = A} mask [] ≡ []
      empty [] = refl
      empty (b ∷ mask) = refl

      none : (mask : List Bool) (xs : List A) (i : ℕ) → length xs ≤ i
          → chosen (drop i mask) (drop i xs) ≡ []
      none mask [] zero past = empty mask
      none mask [] (suc i) past = empty (drop (suc i) mask)
      none mask (x ∷ xs) zero past = absurd (omega arith)
      none [] (x ∷ xs) (suc i) past = refl
      none (b ∷ mask) (x ∷ xs) (suc i) past = none mask xs i (omega arith)
