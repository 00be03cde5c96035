-- The entries of a sorted list, found by their keys.
use Rattle.std.proofs.Common.{◌≡◌, List, [], ◌∷◌, cond, Bool, true, false, Some, inl, inr, refl, sym, ap, subst, ◌∙◌}
use Rattle.std.specs.Prelude.{T}
use Rattle.std.specs.Ordering.{is_eq, eq_by_cmp, ordering_reverse}
use Rattle.std.specs.declared.cmp.Ordering.{Ordering}
use Rattle.std.specs.declared.cmp.Ordering.TheVariants.{Less, Greater}
use Rattle.std.specs.Cmp.{IsTotalOrder, tied_itself}
use Rattle.std.specs.FinMap as fin
use Rattle.std.specs.FinMap.Entries.{below_all}
use Rattle.std.proofs.lemmas.Option.{same_Some}
use Rattle.gx_laws.proofs.BoolLemmas.{first_of_both, second_of_both}
use Rattle.gx_laws.proofs.OrderingLemmas.{is_less, equal_from_eq}
use Rattle.gx_mapping.specs.Rule.{In}
use Rattle.gx_gather.proofs.Lists.{none_some}

pub below_in : {K X : Type 0} (R : K → K → Ordering) (x : K) (es : List (K × X)) (r : K × X)
    → T (below_all R x es) → In r es → R x r.0 ≡ Less
below_in R x [] r h there = absurd there
below_in {K} {X} R x (s ∷ es) r h (inl same) =
    subst (λ (q : K × X). R x q.0 ≡ Less) (sym same) (is_less _ (first_of_both _ _ h))
below_in R x (s ∷ es) r h (inr there) = below_in R x es r (second_of_both _ _ h) there

module _ {K X : Type 0} {R : K → K → Ordering} where
  pub find_in : fin.IsAntisymmetric R → (k : K) (v : X) (es : List (K × X))
      → fin.find R k es ≡ Some v → In (k, v) es
  find_in same k v [] e = none_some v e
  find_in same k v (r ∷ es) e = go (eq_by_cmp R k r.0) refl e (λ f. find_in same k v es f)
    where
      go : (b : Bool) → eq_by_cmp R k r.0 ≡ b → cond b (Some r.1) (fin.find R k es) ≡ Some v
          → (fin.find R k es ≡ Some v → In (k, v) es) → In (k, v) (r ∷ es)
      go true t f more = inl (λ i.
          (same k r.0 (equal_from_eq (R k r.0) t) i, sym (same_Some r.1 v f) i))
      go false t f more = inr (more f)

  pub in_find : IsTotalOrder R → (r : K × X) (es : List (K × X)) → T (fin.is_sorted R es) → In r es
      → fin.find R r.0 es ≡ Some r.1
  in_find total r [] h there = absurd there
  in_find total r (s ∷ es) h (inl same) =
      ap (λ b. cond b (Some s.1) (fin.find R r.0 es))
      (subst (λ (q : K × X). eq_by_cmp R r.0 q.0 ≡ true) same
      (ap is_eq (tied_itself total r.0))) ∙ ap (λ (q : K × X). Some q.1) (sym same)
  in_find total r (s ∷ es) h (inr there) =
      let above : R r.0 s.0 ≡ Greater = total.antisymm r.0 s.0
      ∙ ap ordering_reverse (below_in R s.0 es r (first_of_both _ _ h) there) in
      ap (λ o. cond (is_eq o) (Some s.1) (fin.find R r.0 es)) above
      ∙ in_find total r es (second_of_both _ _ h) there
