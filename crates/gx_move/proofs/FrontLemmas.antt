-- Finite maps that are made of the first of ascending entries.
use Rattle.std.proofs.Common.{◌≡◌, List, [], ◌∷◌, ◌++◌, Bool, true, false, cond, ◌&&◌, T, Some, None, refl, sym, ap, ◌∙◌}
use Rattle.std.specs.Cmp.{IsTotalOrder}
use Rattle.std.specs.FinMap as fin
use Rattle.std.specs.FinMap.Entries.{below_all}
use Rattle.std.specs.Ordering.{ordering_reverse, is_eq, is_lt}
use Rattle.std.specs.declared.cmp.Ordering.{Ordering}
use Rattle.std.specs.declared.cmp.Ordering.TheVariants.{Less}
use Rattle.gx_laws.proofs.OrderingLemmas.{is_less}

left : (a b : Bool) → T (a && b) → T a
left true b h = tt
left false b h = absurd h

right : (a b : Bool) → T (a && b) → T b
right true b h = h
right false b h = absurd h

both : (a b : Bool) → T a → T b → T (a && b)
both true b x y = y
both false b x y = absurd x

module _ {K X : Type 0} (R : K → K → Ordering) where
  below_front : (k : K) (front rest : List (K × X)) → T (below_all R k (front ++ rest))
      → T (below_all R k front)
  below_front k [] rest h = tt
  below_front k (e ∷ es) rest h =
      both (is_lt (R k e.0)) (below_all R k es) (left (is_lt (R k e.0)) _ h)
      (below_front k es rest (right (is_lt (R k e.0)) _ h))

  -- the first of ascending entries ascend
  pub front_sorted : (front rest : List (K × X)) → T (fin.is_sorted R (front ++ rest))
      → T (fin.is_sorted R front)
  front_sorted [] rest h = tt
  front_sorted (e ∷ es) rest h =
      both (below_all R e.0 es) (fin.is_sorted R es)
      (below_front e.0 es rest (left (below_all R e.0 (es ++ rest)) _ h))
      (front_sorted es rest (right (below_all R e.0 (es ++ rest)) _ h))

  below_next : (k : K) (front : List (K × X)) (e : K × X) (rest : List (K × X))
      → T (below_all R k (front ++ e ∷ rest)) → R k e.0 ≡ Less
  below_next k [] e rest h = is_less (R k e.0) (left (is_lt (R k e.0)) _ h)
  below_next k (f ∷ es) e rest h = below_next k es e rest (right (is_lt (R k f.0)) _ h)

  module _ (o : IsTotalOrder R) where
    -- of ascending entries the key of the next isn't that of one before
    pub next_new : (front : List (K × X)) (e : K × X) (rest : List (K × X))
        → T (fin.is_sorted R (front ++ e ∷ rest)) → fin.find R e.0 front ≡ None
    next_new [] e rest h = refl
    next_new (f ∷ es) e rest h =
        let before : R f.0 e.0 ≡ Less =
        below_next f.0 es e rest (left (below_all R f.0 (es ++ e ∷ rest)) _ h) in
        ap (λ (r : Ordering). cond (is_eq r) (Some f.1) (fin.find R e.0 es))
        (o.antisymm e.0 f.0 ∙ ap ordering_reverse before)
        ∙ next_new es e rest (right (below_all R f.0 (es ++ e ∷ rest)) _ h)

    module _ (same : fin.IsAntisymmetric R) where
      -- a map is that of its entries
      pub map_again : (m : fin.FinMap R X) → fin.from_entries {R = R} (fin.entries m) ≡ m
      map_again m =
          fin.same_map o same (fin.from_entries {R = R} (fin.entries m)) m
          (λ q. fin.get-from_entries o (fin.entries m) q ∙ sym (fin.get-entries m q))

      -- ascending entries are those of their map
      pub entries_again : (es : List (K × X)) → T (fin.is_sorted R es)
          → fin.entries (fin.from_entries {R = R} es) ≡ es
      entries_again es h =
          ap (λ (m : fin.FinMap R X). fin.entries m)
          (fin.same_map o same (fin.from_entries {R = R} es) (fin.from_sorted {R = R} es)
          (λ q. fin.get-from_entries o es q ∙ sym (fin.get-from_sorted R es q h)))
          ∙ fin.entries-from_sorted R es h
