-- The least plan applies, and no better one does.
use Rattle.std.proofs.Common.{◌≡◌, ℕ, ◌<◌, ◌≤◌, List, length, get_or, Bool, true, false, eqb, Option, Some, None, refl, sym, ap, ◌∙◌, inl, inr, arith}
use Rattle.std.specs.Prelude.{pos, is_some, IsSome}
use Rattle.std.specs.List.{position, position_or_len}
use Rattle.std.specs.Option.{option_map}
use Rattle.std.proofs.lemmas.Bool.{cases_lt, eqb-true, eq-eqb}
use Rattle.std.proofs.lemmas.Grind.{common_steps}
use Rattle.std.proofs.lemmas.List.Quantifiers.{position-Some}
use Rattle.std.proofs.lemmas.List.Sums.{fails_before_first}
use Rattle.std.proofs.lemmas.Option.{slice_get-get_or, slice_get_cases, same_Some}
use Rattle.gx_values.specs.declared.values.Op.TheVariants as op
use Rattle.gx_values.specs.declared.values.Value.TheVariants as value
use Rattle.gx_commands.specs.declared.command.Cond.{Cond}
use Rattle.gx_commands.specs.declared.command.Find.{Find}
use Rattle.gx_planner.specs.declared.plans.Plan.{Plan}
use Rattle.gx_planner.specs.declared.plans.Plan.TheVariants.{Key, Link, Index, KeyRange, IndexRange, Scan}
use Rattle.gx_planner.specs.Plans.{condition_rank, first_of, by_or, plan_by_condition, plan_rank, number_of, HasRank, Applies, IsLeast}

some_cond : Cond
some_cond = record { field = 0; op = op.Equal; bound = value.Int (pos 0) }

pub not_some : {A : Type 0} (o : Option A) → is_some o ≡ false → IsSome o → ⊥
not_some o e h = cc

-- ---- conditions of a rank

module _ (q : Find) (indexed : List Bool) (rank : ℕ) where
  abbrev has : Cond → Bool
  has c = eqb (condition_rank indexed c) rank

  -- where a condition has the rank, it passes the test
  passes : (k : ℕ) (d : Cond) → k < length q.conds → HasRank q indexed rank k
      → has (get_or q.conds k d) ≡ true
  passes k d lt h =
      let same : Some (condition_rank indexed (get_or q.conds k d)) ≡ Some rank =
      sym (ap (option_map (condition_rank indexed)) (slice_get-get_or q.conds k d lt)) ∙ h in
      eq-eqb (condition_rank indexed (get_or q.conds k d)) rank
      (same_Some (condition_rank indexed (get_or q.conds k d)) rank same)

  pub first_has : (n : ℕ) → first_of rank indexed q.conds ≡ Some n → HasRank q indexed rank n
  first_has n e =
      let p = position-Some has q.conds n some_cond e in
      ap (option_map (condition_rank indexed)) (slice_get-get_or q.conds n some_cond p.0)
      ∙ ap (λ (r : ℕ). Some r)
      (eqb-true (condition_rank indexed (get_or q.conds n some_cond)) rank p.1)

  pub first_before : (n : ℕ) → first_of rank indexed q.conds ≡ Some n → (k : ℕ)
      → HasRank q indexed rank k → n ≤ k
  first_before n e k h =
      let p = position-Some has q.conds n some_cond e in
      elim (cases_lt k n) [
        | inl lt ↦ let t = passes k some_cond (omega (arith, p.0)) h in let f = p.2 k lt in
            absurd cc
        | inr le ↦ le
      ]

  past_none : length q.conds ≤ position_or_len has q.conds → (k : ℕ) → HasRank q indexed rank k → ⊥
  past_none past k h = elim (slice_get_cases q.conds k).1 [
    | inl w ↦
        let t = passes k some_cond w.1 h in
        let f = fails_before_first has q.conds k some_cond (omega (arith, w.1)) in cc
    | inr w ↦ let none : None ≡ Some rank = sym (ap (option_map (condition_rank indexed)) w.1)
        ∙ h in cc
  ]

  none_past : position has q.conds ≡ None → length q.conds ≤ position_or_len has q.conds
  none_past e = grind (arith, common_steps)

  pub none_has : first_of rank indexed q.conds ≡ None → (k : ℕ) → HasRank q indexed rank k → ⊥
  none_has e = past_none (none_past e)

-- ---- plans of a rank

module _ (q : Find) (indexed : List Bool) where
  abbrev Lacks : ℕ → Type 0
  Lacks rank = (k : ℕ) → HasRank q indexed rank k → ⊥

  abbrev IsFirst : ℕ → ℕ → Type 0
  IsFirst rank n = (k : ℕ) → HasRank q indexed rank k → n ≤ k

  from_1 : (other : Plan) → Applies q indexed other → 1 ≤ plan_rank other
  from_1 (Key m) h = omega arith
  from_1 Link h = omega arith
  from_1 (Index m) h = omega arith
  from_1 (KeyRange m) h = omega arith
  from_1 (IndexRange m) h = omega arith
  from_1 Scan h = omega arith

  from_2 : Lacks 1 → (other : Plan) → Applies q indexed other → 2 ≤ plan_rank other
  from_2 no_key (Key m) h = absurd (no_key m h)
  from_2 no_key Link h = omega arith
  from_2 no_key (Index m) h = omega arith
  from_2 no_key (KeyRange m) h = omega arith
  from_2 no_key (IndexRange m) h = omega arith
  from_2 no_key Scan h = omega arith

  from_3 : Lacks 1 → (IsSome q.of → ⊥) → (other : Plan) → Applies q indexed other
      → 3 ≤ plan_rank other
  from_3 no_key no_of (Key m) h = absurd (no_key m h)
  from_3 no_key no_of Link h = absurd (no_of h)
  from_3 no_key no_of (Index m) h = omega arith
  from_3 no_key no_of (KeyRange m) h = omega arith
  from_3 no_key no_of (IndexRange m) h = omega arith
  from_3 no_key no_of Scan h = omega arith

  from_4 : Lacks 1 → (IsSome q.of → ⊥) → Lacks 3 → (other : Plan) → Applies q indexed other
      → 4 ≤ plan_rank other
  from_4 no_key no_of no_index (Key m) h = absurd (no_key m h)
  from_4 no_key no_of no_index Link h = absurd (no_of h)
  from_4 no_key no_of no_index (Index m) h = absurd (no_index m h)
  from_4 no_key no_of no_index (KeyRange m) h = omega arith
  from_4 no_key no_of no_index (IndexRange m) h = omega arith
  from_4 no_key no_of no_index Scan h = omega arith

  from_5 : Lacks 1 → (IsSome q.of → ⊥) → Lacks 3 → Lacks 4 → (other : Plan)
      → Applies q indexed other → 5 ≤ plan_rank other
  from_5 no_key no_of no_index no_range (Key m) h = absurd (no_key m h)
  from_5 no_key no_of no_index no_range Link h = absurd (no_of h)
  from_5 no_key no_of no_index no_range (Index m) h = absurd (no_index m h)
  from_5 no_key no_of no_index no_range (KeyRange m) h = absurd (no_range m h)
  from_5 no_key no_of no_index no_range (IndexRange m) h = omega arith
  from_5 no_key no_of no_index no_range Scan h = omega arith

  from_6 : Lacks 1 → (IsSome q.of → ⊥) → Lacks 3 → Lacks 4 → Lacks 5 → (other : Plan)
      → Applies q indexed other → 6 ≤ plan_rank other
  from_6 no_key no_of no_index no_range no_other (Key m) h = absurd (no_key m h)
  from_6 no_key no_of no_index no_range no_other Link h = absurd (no_of h)
  from_6 no_key no_of no_index no_range no_other (Index m) h = absurd (no_index m h)
  from_6 no_key no_of no_index no_range no_other (KeyRange m) h = absurd (no_range m h)
  from_6 no_key no_of no_index no_range no_other (IndexRange m) h = absurd (no_other m h)
  from_6 no_key no_of no_index no_range no_other Scan h = omega arith

  key_first : (n : ℕ) → IsFirst 1 n → (other : Plan) → Applies q indexed other → plan_rank other ≡ 1
      → n ≤ number_of other
  key_first n first (Key m) h e = first m h
  key_first n first Link h e = absurd (omega arith)
  key_first n first (Index m) h e = absurd (omega arith)
  key_first n first (KeyRange m) h e = absurd (omega arith)
  key_first n first (IndexRange m) h e = absurd (omega arith)
  key_first n first Scan h e = absurd (omega arith)

  index_first : (n : ℕ) → IsFirst 3 n → (other : Plan) → Applies q indexed other
      → plan_rank other ≡ 3 → n ≤ number_of other
  index_first n first (Index m) h e = first m h
  index_first n first (Key m) h e = absurd (omega arith)
  index_first n first Link h e = absurd (omega arith)
  index_first n first (KeyRange m) h e = absurd (omega arith)
  index_first n first (IndexRange m) h e = absurd (omega arith)
  index_first n first Scan h e = absurd (omega arith)

  range_first : (n : ℕ) → IsFirst 4 n → (other : Plan) → Applies q indexed other
      → plan_rank other ≡ 4 → n ≤ number_of other
  range_first n first (KeyRange m) h e = first m h
  range_first n first (Key m) h e = absurd (omega arith)
  range_first n first Link h e = absurd (omega arith)
  range_first n first (Index m) h e = absurd (omega arith)
  range_first n first (IndexRange m) h e = absurd (omega arith)
  range_first n first Scan h e = absurd (omega arith)

  index_range_first : (n : ℕ) → IsFirst 5 n → (other : Plan) → Applies q indexed other
      → plan_rank other ≡ 5 → n ≤ number_of other
  index_range_first n first (IndexRange m) h e = first m h
  index_range_first n first (Key m) h e = absurd (omega arith)
  index_range_first n first Link h e = absurd (omega arith)
  index_range_first n first (Index m) h e = absurd (omega arith)
  index_range_first n first (KeyRange m) h e = absurd (omega arith)
  index_range_first n first Scan h e = absurd (omega arith)

  pub key_least : (n : ℕ) → first_of 1 indexed q.conds ≡ Some n → IsLeast q indexed (Key n)
  key_least n e = record { rank = from_1; number = key_first n (first_before q indexed 1 n e) }

  pub link_least : first_of 1 indexed q.conds ≡ None → IsLeast q indexed Link
  link_least e = record {
    rank = from_2 (none_has q indexed 1 e);
    number = λ other h same. omega arith;
  }

  -- the plan by a condition applies, and is the least
  pub record IsGood (plan : Plan) : Type 0 where
    pub applies : Applies q indexed plan
    pub least : IsLeast q indexed plan

  module _ (no_key : first_of 1 indexed q.conds ≡ None) (no_of : IsSome q.of → ⊥) where
    abbrev lacks_key : Lacks 1
    lacks_key = none_has q indexed 1 no_key

    by_index_range : first_of 3 indexed q.conds ≡ None → first_of 4 indexed q.conds ≡ None
        → (o : Option ℕ) → first_of 5 indexed q.conds ≡ o → IsGood (by_or IndexRange o Scan)
    by_index_range c d (Some n) e = record {
      applies = first_has q indexed 5 n e;
      least = record {
        rank = from_5 lacks_key no_of (none_has q indexed 3 c)
            (none_has q indexed 4 d);
        number = index_range_first n (first_before q indexed 5 n e);
      };
    }
    by_index_range c d None e = record {
      applies = tt;
      least = record {
        rank = from_6 lacks_key no_of (none_has q indexed 3 c)
            (none_has q indexed 4 d) (none_has q indexed 5 e);
        number = λ other h same. omega arith;
      };
    }

    by_range : first_of 3 indexed q.conds ≡ None → (o : Option ℕ) → first_of 4 indexed q.conds ≡ o
        → IsGood (by_or KeyRange o (by_or IndexRange (first_of 5 indexed q.conds) Scan))
    by_range c (Some n) e = record {
      applies = first_has q indexed 4 n e;
      least = record {
        rank = from_4 lacks_key no_of (none_has q indexed 3 c);
        number = range_first n (first_before q indexed 4 n e);
      };
    }
    by_range c None e = by_index_range c e (first_of 5 indexed q.conds) refl

    by_index : (o : Option ℕ) → first_of 3 indexed q.conds ≡ o
        → IsGood (by_or Index o
        (by_or KeyRange (first_of 4 indexed q.conds)
        (by_or IndexRange (first_of 5 indexed q.conds) Scan)))
    by_index (Some n) e = record {
      applies = first_has q indexed 3 n e;
      least = record {
        rank = from_3 lacks_key no_of;
        number = index_first n (first_before q indexed 3 n e);
      };
    }
    by_index None e = by_range e (first_of 4 indexed q.conds) refl

    pub condition_good : IsGood (plan_by_condition indexed q.conds)
    condition_good = by_index (first_of 3 indexed q.conds) refl
