-- The order of keys, and of bounds.
use Rattle.std.proofs.Common.{◌≡◌, ◌≢◌, ◌⊎◌, inl, inr, ℕ, Bool, true, false, List, [], ◌∷◌, Option, Some, None, refl, sym, ap, ◌∙◌, subst}
use Rattle.std.specs.Cmp.Lexicographic.{slice_cmp}
use Rattle.std.specs.Ordering.{nat_cmp, is_lt, is_le, ordering_reverse}
use Rattle.std.specs.declared.cmp.Ordering.{Ordering}
use Rattle.std.specs.declared.cmp.Ordering.TheVariants.{Less, Equal, Greater}
use Rattle.std.specs.FinMap as fin
use Rattle.std.proofs.lemmas.Cmp.{nat_list_cmp_total, tied_itself}
use Rattle.gx_btree.specs.Order.{IsBelow, IsUpTo, is_below, IsUnder, IsOver}

abbrev cmp : List ℕ → List ℕ → Ordering
cmp = slice_cmp nat_cmp

same_of : (a b : List ℕ) → cmp a b ≡ Equal → a ≡ b
same_of a b e = fin.slice_cmp-IsAntisymmetric fin.nat_cmp-IsAntisymmetric a b e

pub up_to_itself : (a : List ℕ) → IsUpTo a a
up_to_itself a = ap is_le (tied_itself nat_list_cmp_total a)

pub below_is_up_to : (a b : List ℕ) → IsBelow a b → IsUpTo a b
below_is_up_to a b h = ap is_le h

pub up_to_cases : (a b : List ℕ) → IsUpTo a b → IsBelow a b ⊎ (a ≡ b)
up_to_cases a b h = go (cmp a b) refl h where
  go : (o : Ordering) → cmp a b ≡ o → is_le o ≡ true → IsBelow a b ⊎ (a ≡ b)
  go Less e h = inl e
  go Equal e h = inr (same_of a b e)
  go Greater e h = absurd cc

-- a key stands before another, or the other one up to it
pub below_or_not : (a b : List ℕ) → IsBelow a b ⊎ IsUpTo b a
below_or_not a b = go (cmp a b) refl (nat_list_cmp_total.antisymm b a) where
  go : (o : Ordering) → cmp a b ≡ o → cmp b a ≡ ordering_reverse (cmp a b)
      → IsBelow a b ⊎ IsUpTo b a
  go Less e turned = inl e
  go Equal e turned = inr (ap is_le (turned ∙ ap ordering_reverse e))
  go Greater e turned = inr (ap is_le (turned ∙ ap ordering_reverse e))

pub not_both : (a b : List ℕ) → IsBelow a b → IsUpTo b a → ⊥
not_both a b h k =
    let turned : is_le (cmp b a) ≡ false =
    ap is_le (nat_list_cmp_total.antisymm b a ∙ ap ordering_reverse h) in let clash : true ≡ false =
    sym k ∙ turned in cc

pub not_itself : (a : List ℕ) → IsBelow a a → ⊥
not_itself a h = not_both a a h (up_to_itself a)

pub below_below : (a b c : List ℕ) → IsBelow a b → IsBelow b c → IsBelow a c
below_below a b c h k = nat_list_cmp_total.trans a b c h k

pub up_to_below : (a b c : List ℕ) → IsUpTo a b → IsBelow b c → IsBelow a c
up_to_below a b c h k =
    elim (up_to_cases a b h)
    [ inl l ↦ below_below a b c l k | inr e ↦ subst (λ x. IsBelow x c) (sym e) k ]

pub below_up_to : (a b c : List ℕ) → IsBelow a b → IsUpTo b c → IsBelow a c
below_up_to a b c h k =
    elim (up_to_cases b c k) [ inl l ↦ below_below a b c h l | inr e ↦ subst (IsBelow a) e h ]

pub up_to_up_to : (a b c : List ℕ) → IsUpTo a b → IsUpTo b c → IsUpTo a c
up_to_up_to a b c h k =
    elim (up_to_cases b c k)
    [ inl l ↦ below_is_up_to a c (up_to_below a b c h l) | inr e ↦ subst (IsUpTo a) e h ]

pub differ : (a b : List ℕ) → IsBelow a b → a ≢ b
differ a b h e = not_itself b (subst (λ x. IsBelow x b) e h)

-- a test of the order
pub below_of : (a b : List ℕ) → is_below a b ≡ true → IsBelow a b
below_of a b h = go (cmp a b) refl h where
  go : (o : Ordering) → cmp a b ≡ o → is_lt o ≡ true → IsBelow a b
  go Less e h = e
  go Equal e h = absurd cc
  go Greater e h = absurd cc

pub up_to_of : (a b : List ℕ) → is_below a b ≡ false → IsUpTo b a
up_to_of a b h =
    elim (below_or_not a b) [
      | inl l ↦ (let clash : true ≡ false = sym (ap is_lt l) ∙ h in let no : ⊥ = cc in absurd no)
      | inr k ↦ k
    ]

pub is_below_of : (a b : List ℕ) → IsBelow a b → is_below a b ≡ true
is_below_of a b h = ap is_lt h

pub not_below_of : (a b : List ℕ) → IsUpTo b a → is_below a b ≡ false
not_below_of a b h = go (is_below a b) refl where
  go : (t : Bool) → is_below a b ≡ t → t ≡ false
  go true e = absurd (not_both a b (below_of a b e) h)
  go false e = refl

-- ---- bounds

pub under_below : (a b : List ℕ) (hi : Option (List ℕ)) → IsBelow a b → IsUnder b hi → IsUnder a hi
under_below a b None h k = tt
under_below a b (Some c) h k = below_below a b c h k

pub under_up_to : (a b : List ℕ) (hi : Option (List ℕ)) → IsUpTo a b → IsUnder b hi → IsUnder a hi
under_up_to a b None h k = tt
under_up_to a b (Some c) h k = up_to_below a b c h k

pub over_up_to : (a b : List ℕ) (hi : Option (List ℕ)) → IsUpTo a b → IsOver a hi → IsOver b hi
over_up_to a b None h k = k
over_up_to a b (Some c) h k = up_to_up_to c a b k h

pub under_or_over : (a : List ℕ) (hi : Option (List ℕ)) → IsUnder a hi ⊎ IsOver a hi
under_or_over a None = inl tt
under_or_over a (Some c) = below_or_not a c

pub not_under_over : (a : List ℕ) (hi : Option (List ℕ)) → IsUnder a hi → IsOver a hi → ⊥
not_under_over a None h k = k
not_under_over a (Some c) h k = not_both a c h k

-- a bound that stands at a key that is under another one
pub under_within : (s x : List ℕ) (hi : Option (List ℕ)) → IsUpTo s x → IsUnder x hi → (y : List ℕ)
    → IsBelow y s → IsUnder y hi
under_within s x hi h k y l = under_below y x hi (below_up_to y s x l h) k

-- the empty key stands before all others
pub nothing_up_to : (a : List ℕ) → IsUpTo [] a
nothing_up_to [] = refl
nothing_up_to (x ∷ xs) = refl
