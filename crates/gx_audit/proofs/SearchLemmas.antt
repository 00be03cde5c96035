-- Keys in order, in two parts around one of them.
use Rattle.std.proofs.Common.{◌≡◌, ◌<◌, ◌-◌, ℕ, List, [], ◌∷◌, ◌++◌, length, take, drop, get_or, ap, inl, inr, refl, sym, subst, ◌∙◌, arith}
use Rattle.std.specs.List.Sorted.{IsStrictlySortedBy}
use Rattle.std.proofs.lemmas.List.{take-append-drop, drop_more, take_all, length-drop}
use Rattle.std.specs.Ordering.{ordering_reverse}
use Rattle.std.specs.declared.cmp.Ordering.TheVariants.{Less, Equal, Greater}
use Rattle.gx_values.specs.declared.values.Value.{Value}
use Rattle.gx_values.specs.Values.{value_cmp}
use Rattle.gx_values.proofs.OrderLemmas.{value_cmp_total, value_cmp_same}
use Rattle.gx_mapping.specs.Rule.{In}
use Rattle.gx_mapping.proofs.RuleLemmas.{all_in}
use Rattle.gx_gather.proofs.Lists.{in_left, in_right, in_cases}
use Rattle.gx_gather.proofs.Orders.{Ascends, ascends, sorted, ascends_middle, not_before_itself, not_both_before}

pub none_there : (keys : List Value) (key : Value) → length keys ≡ 0 → ¬ In key keys
none_there [] key e h = absurd h
none_there (k ∷ keys) key e h = absurd (omega arith)

-- the items in front of one are before it, and those behind it are after it
front_before : (front back : List Value) (m x : Value) → Ascends value_cmp (front ++ m ∷ back)
    → In x front → value_cmp x m ≡ Less
front_before [] back m x up h = absurd h
front_before (y ∷ front) back m x up (inl e) =
    subst (λ z. value_cmp z m ≡ Less) (sym e)
    (all_in (λ z. value_cmp y z ≡ Less) (front ++ m ∷ back) m up.0
    (in_right m front (m ∷ back) (inl refl)))
front_before (y ∷ front) back m x up (inr h) = front_before front back m x up.1 h

back_after : (front back : List Value) (m x : Value) → Ascends value_cmp (front ++ m ∷ back)
    → In x back → value_cmp m x ≡ Less
back_after [] back m x up h = all_in (λ z. value_cmp m z ≡ Less) back x up.0 h
back_after (y ∷ front) back m x up h = back_after front back m x up.1 h

back_ascends : (front back : List Value) (m : Value) → Ascends value_cmp (front ++ m ∷ back)
    → Ascends value_cmp back
back_ascends [] back m up = up.1
back_ascends (y ∷ front) back m up = back_ascends front back m up.1

module _ (keys front back : List Value) (m key : Value) (is : keys ≡ front ++ m ∷ back) where
  pub from_front : In key front → In key keys
  from_front h = subst (In key) (sym is) (in_left key front (m ∷ back) h)

  pub from_middle : value_cmp key m ≡ Equal → In key keys
  from_middle e = subst (In key) (sym is)
      (in_right key front (m ∷ back) (inl (value_cmp_same key m e)))

  pub from_back : In key back → In key keys
  from_back h = subst (In key) (sym is) (in_right key front (m ∷ back) (inr h))

  up : IsStrictlySortedBy value_cmp keys → Ascends value_cmp (front ++ m ∷ back)
  up order = subst (Ascends value_cmp) is (ascends value_cmp keys order)

  pub not_before : value_cmp key m ≡ Less → (IsStrictlySortedBy value_cmp front → ¬ In key front)
      → IsStrictlySortedBy value_cmp keys → ¬ In key keys
  not_before less none order h = elim (in_cases key front (m ∷ back) (subst (In key) is h)) [
    | inl f ↦ none (sorted value_cmp front
        (ascends_middle value_cmp [] front (m ∷ back) (up order))) f
    | inr (inl e) ↦ not_before_itself value_cmp_total m (subst (λ z. value_cmp z m ≡ Less) e less)
    | inr (inr b) ↦ not_both_before value_cmp_total key m less
        (back_after front back m key (up order) b)
  ]

  pub not_behind : value_cmp key m ≡ Greater → (IsStrictlySortedBy value_cmp back → ¬ In key back)
      → IsStrictlySortedBy value_cmp keys → ¬ In key keys
  not_behind greater none order h =
      let less : value_cmp m key ≡ Less = value_cmp_total.antisymm m key
      ∙ (λ i. ordering_reverse (greater i)) in
      elim (in_cases key front (m ∷ back) (subst (In key) is h)) [
        | inl f ↦ not_both_before value_cmp_total key m (front_before front back m key (up order) f)
            less
        | inr (inl e) ↦ not_before_itself value_cmp_total m
            (subst (λ z. value_cmp m z ≡ Less) e less)
        | inr (inr b) ↦ none (sorted value_cmp back (back_ascends front back m (up order))) b
      ]

-- what follows the first item
abbrev pub behind : List Value → List Value
behind rest = take (length rest - 1) (drop 1 rest)

-- a list in two parts, of which the second begins with this item
pub split_here : (keys front rest : List Value) (n : ℕ) (m : Value) → front ≡ take n keys
    → rest ≡ drop n keys → 0 < length rest
    → m ≡ get_or rest 0 m → keys ≡ front ++ m ∷ behind rest
split_here keys front rest n m f r some is =
    let all : behind rest ≡ drop 1 rest =
    take_all (length rest - 1) (drop 1 rest) (omega (arith, length-drop 1 rest)) in
    sym (take-append-drop n keys) ∙ (λ i. sym f i ++ sym r i)
    ∙ ap (λ (ks : List Value). front ++ ks) (drop_more rest 0 m some ∙ (λ i. sym is i ∷ sym all i))
