-- The plans of a `find`, and the least of them.
use Rattle.std.specs.Prelude.{◌≡◌, ℕ, ◌≤◌, List, Bool, false, Option, Some, None, ◌==◌, if◌then◌else◌, is_some, unwrap_or, IsSome}
use Rattle.std.specs.List.{position, slice_get}
use Rattle.std.specs.Option.{option_map}
use Rattle.gx_values.specs.declared.values.Op.{Op}
use Rattle.gx_values.specs.declared.values.Op.TheVariants as op
use Rattle.gx_commands.specs.declared.command.Cond.{Cond}
use Rattle.gx_commands.specs.declared.command.Find.{Find}
use Rattle.gx_planner.specs.declared.plans.Plan.{Plan}
use Rattle.gx_planner.specs.declared.plans.Plan.TheVariants.{Key, Link, Index, KeyRange, IndexRange, Scan}

-- ---- ranks

-- equality, or a range; `<>` is neither
abbrev pub rank_by : ℕ → ℕ → Op → ℕ
rank_by equal range op.Equal = equal
rank_by equal range op.Unequal = 6
rank_by equal range op.Less = range
rank_by equal range op.AtMost = range
rank_by equal range op.Greater = range
rank_by equal range op.AtLeast = range

abbrev pub is_indexed : List Bool → ℕ → Bool
is_indexed indexed field = unwrap_or (slice_get indexed field) false

-- the rank of the plan by a condition, where these fields are indexed; field 0 is the key
abbrev pub condition_rank : List Bool → Cond → ℕ
condition_rank indexed c =
    if c.field == 0 then rank_by 1 4 c.op
    else if is_indexed indexed c.field then rank_by 3 5 c.op
    else 6

-- ---- the least plan

-- the number of the first condition of this rank
abbrev pub first_of : ℕ → List Bool → List Cond → Option ℕ
first_of rank indexed conds = position (λ c. condition_rank indexed c == rank) conds

-- the plan by this condition, or else another one
abbrev pub by_or : (ℕ → Plan) → Option ℕ → Plan → Plan
by_or by (Some number) other = by number
by_or by None other = other

abbrev pub plan_by_condition : List Bool → List Cond → Plan
plan_by_condition indexed conds =
    by_or Index (first_of 3 indexed conds)
    (by_or KeyRange (first_of 4 indexed conds)
    (by_or IndexRange (first_of 5 indexed conds) Scan))

abbrev pub least_plan : Find → List Bool → Plan
least_plan q indexed =
    by_or Key (first_of 1 indexed q.conds)
    (if is_some q.of then Link else plan_by_condition indexed q.conds)

-- ---- in other words

abbrev pub plan_rank : Plan → ℕ
plan_rank (Key number) = 1
plan_rank Link = 2
plan_rank (Index number) = 3
plan_rank (KeyRange number) = 4
plan_rank (IndexRange number) = 5
plan_rank Scan = 6

-- the number of the condition that a plan is by
abbrev pub number_of : Plan → ℕ
number_of (Key number) = number
number_of (Index number) = number
number_of (KeyRange number) = number
number_of (IndexRange number) = number
number_of _ = 0

-- the condition of this number has this rank
abbrev pub HasRank : Find → List Bool → ℕ → ℕ → Type 0
HasRank q indexed rank number =
    option_map (condition_rank indexed) (slice_get q.conds number) ≡ Some rank

-- the plan can be followed
abbrev pub Applies : Find → List Bool → Plan → Type 0
Applies q indexed (Key number) = HasRank q indexed 1 number
Applies q indexed Link = IsSome q.of
Applies q indexed (Index number) = HasRank q indexed 3 number
Applies q indexed (KeyRange number) = HasRank q indexed 4 number
Applies q indexed (IndexRange number) = HasRank q indexed 5 number
Applies q indexed Scan = Unit {0}

-- each plan that applies has no lower rank, and where it has the same, its condition isn't an
-- earlier one
pub record IsLeast (q : Find) (indexed : List Bool) (plan : Plan) : Type 0 where
  pub rank : (other : Plan) → Applies q indexed other → plan_rank plan ≤ plan_rank other
  pub number : (other : Plan) → Applies q indexed other → plan_rank other ≡ plan_rank plan
      → number_of plan ≤ number_of other
