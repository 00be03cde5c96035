-- Lists of which each item is before the next.
use Rattle.std.proofs.Common.{◌≡◌, ◌<◌, ℕ, zero, suc, Bool, true, false, List, [], ◌∷◌, length, refl, sym, ap, subst, ◌∙◌, get_or, arith}
use Rattle.std.specs.List.{IsAllAdjacentAnswer}
use Rattle.std.specs.List.Sorted.{IsStrictlySortedBy}
use Rattle.std.specs.Ordering.{is_lt}
use Rattle.std.specs.declared.cmp.Ordering.{Ordering}
use Rattle.std.specs.declared.cmp.Ordering.TheVariants.{Less, Equal, Greater}
use Rattle.std.specs.Cmp.{IsTotalOrder}
use Rattle.std.proofs.lemmas.Bool.{true≢false}
use Rattle.gx_gather.proofs.Lists.{all_of}
use Rattle.gx_gather.proofs.Orders.{Ascends, ascends, sorted}
use Rattle.gx_stack.proofs.Selects.{plus_one}
use Rattle.gx_mapping.proofs.RuleLemmas.{all_in}

less_of : (r : Ordering) → true ≡ is_lt r → r ≡ Less
less_of Less e = refl
less_of Equal e = absurd (true≢false e)
less_of Greater e = absurd (true≢false e)

next_ascends : {A : Type 0} {R : A → A → Ordering} (o : IsTotalOrder R) (xs : List A)
    → ((k : ℕ) (d : A) → suc k < length xs → true ≡ is_lt (R (get_or xs k d) (get_or xs (suc k) d)))
    → Ascends R xs
next_ascends o [] h = tt
next_ascends o (x ∷ []) h = (tt, tt)
next_ascends {R = R} o (x ∷ y ∷ xs) h =
    let rest = next_ascends o (y ∷ xs) (λ k d lt. h (suc k) d (omega arith)) in
    let first : R x y ≡ Less = less_of (R x y) (h 0 x (omega arith)) in (
      (
        first,
        all_of (λ z. R x z ≡ Less) xs
            (λ z i. o.trans x y z first (all_in (λ w. R y w ≡ Less) xs z rest.0 i)),
      ),
      rest,
    )

next_less : {A : Type 0} (R : A → A → Ordering) (xs : List A) (k : ℕ) (d : A) → Ascends R xs
    → suc k < length xs
    → R (get_or xs k d) (get_or xs (suc k) d) ≡ Less
next_less R [] k d up lt = absurd (omega arith)
next_less R (x ∷ []) k d up lt = absurd (omega arith)
next_less R (x ∷ y ∷ xs) zero d up lt = up.0.0
next_less R (x ∷ y ∷ xs) (suc k) d up lt = next_less R (y ∷ xs) k d up.1 (omega arith)

pub answer_yes : {A : Type 0} {R : A → A → Ordering} (o : IsTotalOrder R) (xs : List A) (r : Bool)
    → IsAllAdjacentAnswer (λ x y b. b ≡ is_lt (R x y)) xs r → r ≡ true → IsStrictlySortedBy R xs
answer_yes {R = R} o xs true h e = sorted R xs
    (next_ascends o xs (λ k d lt. subst (λ j. true ≡ is_lt (R (get_or xs k d) (get_or xs j d)))
    (plus_one k) (h k d (omega arith))))
answer_yes o xs false h e = absurd (true≢false (sym e))

pub answer_no : {A : Type 0} (R : A → A → Ordering) (xs : List A) (r : Bool)
    → IsAllAdjacentAnswer (λ x y b. b ≡ is_lt (R x y)) xs r
    → r ≡ false → IsStrictlySortedBy R xs → ⊥
answer_no R xs true h e up = true≢false e
answer_no R [] false h e up = absurd (omega (arith, h.1))
answer_no R (x ∷ xs) false h e up =
    let less : R (get_or (x ∷ xs) h.0 x) (get_or (x ∷ xs) (suc h.0) x) ≡ Less =
    next_less R (x ∷ xs) h.0 x (ascends R (x ∷ xs) up)
    (omega (arith, h.1)) in
    true≢false (sym (h.2 x ∙ ap (λ j. is_lt (R (get_or (x ∷ xs) h.0 x) (get_or (x ∷ xs) j x)))
    (plus_one h.0) ∙ ap is_lt less))
