-- Records of a child that are replaced one after the other by what they make.
use Rattle.std.proofs.Common.{◌≡◌, ◌<◌, ◌+◌, ℕ, zero, suc, Some, List, [], ◌∷◌, ◌++◌, inl, inr, refl, sym, ap, ◌∙◌, subst, length, map, get_or, set, arith}
use Rattle.std.proofs.lemmas.List.Sorted.{IsPermutation-refl}
use Rattle.std.specs.List.{flat_map}
use Rattle.std.specs.List.Sorted.{IsPermutation}
use Rattle.std.specs.declared.cmp.Ordering.TheVariants.{Less}
use Rattle.gx_values.specs.Values.{values_cmp}
use Rattle.gx_values.specs.declared.records.Rec.{Rec}
use Rattle.gx_mapping.specs.declared.parts.Part.{Part}
use Rattle.gx_mapping.specs.Rule.{Rule, In, IsOf, data_parts, IsGathered}
use Rattle.gx_mapping.proofs.RuleLemmas.{all_in}
use Rattle.gx_gather.specs.Gather.{rec_cmp, part_for, AreEach, AreMade}
use Rattle.gx_gather.proofs.Lists.{all_of}
use Rattle.gx_gather.proofs.Orders.{Ascends, sorted}

-- the first so many are replaced, and the others as they were
abbrev pub AreEachUpTo : Rule → ℕ → ℕ → List Rec → List Rec → Type 0
AreEachUpTo rule c zero qs rs = rs ≡ qs
AreEachUpTo rule c (suc n) [] [] = Unit {0}
AreEachUpTo rule c (suc n) [] (r ∷ rs) = ⊥
AreEachUpTo rule c (suc n) (q ∷ qs) [] = ⊥
AreEachUpTo rule c (suc n) (q ∷ qs) (r ∷ rs) =
    IsGathered rule q.key (part_for c q ∷ []) (Some r) × AreEachUpTo rule c n qs rs

-- the next one is one of those that there were
pub next_in : (rule : Rule) (c n : ℕ) (qs rs : List Rec) (d : Rec) → n < length rs
    → AreEachUpTo rule c n qs rs → In (get_or rs n d) qs
next_in rule c zero qs [] d lt h = absurd (omega arith)
next_in rule c zero qs (r ∷ rs) d lt h = subst (λ xs. In r xs) h (inl refl)
next_in rule c (suc n) [] [] d lt h = absurd (omega arith)
next_in rule c (suc n) [] (r ∷ rs) d lt h = absurd h
next_in rule c (suc n) (q ∷ qs) [] d lt h = absurd h
next_in rule c (suc n) (q ∷ qs) (r ∷ rs) d lt h = inr (next_in rule c n qs rs d (omega arith) h.1)

-- the next one is replaced
replaced : (rule : Rule) (c n : ℕ) (qs rs : List Rec) (d made : Rec) → n < length rs
    → AreEachUpTo rule c n qs rs
    → IsGathered rule (get_or rs n d).key (part_for c (get_or rs n d) ∷ []) (Some made)
    → AreEachUpTo rule c (suc n) qs (set rs n made)
replaced rule c zero qs [] d made lt h is = absurd (omega arith)
replaced rule c zero qs (r ∷ rs) d made lt h is =
    subst (λ xs. AreEachUpTo rule c 1 xs (made ∷ rs)) h (is, refl)
replaced rule c (suc n) [] [] d made lt h is = absurd (omega arith)
replaced rule c (suc n) [] (r ∷ rs) d made lt h is = absurd h
replaced rule c (suc n) (q ∷ qs) [] d made lt h is = absurd h
replaced rule c (suc n) (q ∷ qs) (r ∷ rs) d made lt h is =
    (h.0, replaced rule c n qs rs d made (omega arith) h.1 is)

pub next_replaced : (rule : Rule) (c n : ℕ) (qs rs : List Rec) (d made : Rec) → n < length rs
    → AreEachUpTo rule c n qs rs
    → IsGathered rule (get_or rs n d).key (part_for c (get_or rs n d) ∷ []) (Some made)
    → AreEachUpTo rule c (n + 1) qs (set rs n made)
next_replaced rule c n qs rs d made lt h is =
    let next : suc n ≡ n + 1 = omega arith in
    subst (λ k. AreEachUpTo rule c k qs (set rs n made)) next
    (replaced rule c n qs rs d made lt h is)

-- all are replaced
pub all_replaced : (rule : Rule) (c n : ℕ) (qs rs : List Rec) → n ≡ length rs
    → AreEachUpTo rule c n qs rs → AreEach rule c qs rs
all_replaced rule c zero qs [] e h = subst (λ (xs : List Rec). AreEach rule c xs []) h tt
all_replaced rule c zero qs (r ∷ rs) e h = absurd (omega (arith, e))
all_replaced rule c (suc n) [] [] e h = tt
all_replaced rule c (suc n) [] (r ∷ rs) e h = absurd h
all_replaced rule c (suc n) (q ∷ qs) [] e h = absurd h
all_replaced rule c (suc n) (q ∷ qs) (r ∷ rs) e h =
    (h.0, all_replaced rule c n qs rs (omega (arith, e)) h.1)

-- ---- what they make

module _ (rule : Rule) (c : ℕ) where
  pub each_fit : (qs rs : List Rec) → AreEach rule c qs rs → (r : Rec) → In r rs → IsOf rule.form r
  each_fit [] [] h r there = absurd there
  each_fit [] (s ∷ rs) h r there = absurd h
  each_fit (q ∷ qs) [] h r there = absurd h
  each_fit (q ∷ qs) (s ∷ rs) h r (inl is) = subst (IsOf rule.form) (sym is) h.0.0
  each_fit (q ∷ qs) (s ∷ rs) h r (inr there) = each_fit qs rs h.1 r there

  pub each_those : (qs rs : List Rec) → AreEach rule c qs rs
      → flat_map (data_parts rule) rs ≡ map (part_for c) qs
  each_those [] [] h = refl
  each_those [] (s ∷ rs) h = absurd h
  each_those (q ∷ qs) [] h = absurd h
  each_those (q ∷ qs) (s ∷ rs) h =
      ap (λ (ps : List Part). ps ++ flat_map (data_parts rule) rs) h.0.2
      ∙ ap (λ (ps : List Part). part_for c q ∷ ps) (each_those qs rs h.1)

  each_key : (qs rs : List Rec) → AreEach rule c qs rs → (r : Rec) → In r rs
      → (q : Rec) × In q qs × (r.key ≡ q.key)
  each_key [] [] h r there = absurd there
  each_key [] (s ∷ rs) h r there = absurd h
  each_key (q ∷ qs) [] h r there = absurd h
  each_key (q ∷ qs) (s ∷ rs) h r (inl is) = (q, inl refl, ap (λ (x : Rec). x.key) is ∙ h.0.1)
  each_key (q ∷ qs) (s ∷ rs) h r (inr there) =
      (let k = each_key qs rs h.1 r there in (k.0, inr k.1, k.2))

  -- they stand in the order of their keys where the records of the child do
  each_ascends : (qs rs : List Rec) → AreEach rule c qs rs → Ascends rec_cmp qs → Ascends rec_cmp rs
  each_ascends [] [] h a = tt
  each_ascends [] (s ∷ rs) h a = absurd h
  each_ascends (q ∷ qs) [] h a = absurd h
  each_ascends (q ∷ qs) (s ∷ rs) h a = (
    all_of (λ y. rec_cmp s y ≡ Less) rs (λ r there.
        let k = each_key qs rs h.1 r there in
        (λ i. values_cmp (h.0.1 i) (k.2 i)) ∙ all_in (λ y. rec_cmp q y ≡ Less) qs k.0 a.0 k.1),
    each_ascends qs rs h.1 a.1,
  )

  pub made_of_each : (qs rs : List Rec) → AreEach rule c qs rs → Ascends rec_cmp qs
      → AreMade rule (map (part_for c) qs) rs
  made_of_each qs rs h a = record {
    fit = each_fit qs rs h;
    those = subst (IsPermutation (map (part_for c) qs)) (sym (each_those qs rs h))
        (IsPermutation-refl (map (part_for c) qs));
    in_order = sorted rec_cmp rs (each_ascends qs rs h a);
  }
