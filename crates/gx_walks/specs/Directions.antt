-- What a direction of a path is chosen by.
use Rattle.std.specs.Prelude.{◌≡◌, ◌↔◌, ℕ, ◌^◌, ◌<◌, List, length, Bool}
use Rattle.gx_schema.specs.declared.schema.Schema.{Schema}
use Rattle.gx_commands.specs.declared.command.Find.{Find}
use Rattle.gx_commands.specs.declared.path.PathQuery.{PathQuery}
use Rattle.gx_commands.specs.Paths.{IsPathOf}
use Rattle.gx_planner.specs.Plans.{least_plan, plan_rank}
use Rattle.gx_model.specs.Paths.{last_find}
use Rattle.gx_walks.specs.declared.directions.Direction.{Direction}
use Rattle.gx_walks.specs.declared.directions.Direction.TheVariants.{Backward}

-- the rank of the plan of a `find` on a file of which these fields are indexed
abbrev pub find_rank : Find → List Bool → ℕ
find_rank q indexed = plan_rank (least_plan q indexed)

-- whether the direction is backward follows from the ranks at both ends
abbrev pub IsDirectionOf : PathQuery → List Bool → List Bool → Direction → Type 0
IsDirectionOf q first last direction = (direction ≡ Backward)
    ↔ (find_rank (last_find q.first q.legs) last < find_rank q.first first)

-- both ends have conditions that a plan can number
pub record HasFewConds (q : PathQuery) : Type 0 where
  pub first : length q.first.conds < 2 ^ 16
  pub last : length (last_find q.first q.legs).conds < 2 ^ 16

-- the path is of the schema, and a plan can be made at either end
pub record IsDuePath (schema : Schema) (q : PathQuery) : Type 0 where
  pub of_schema : IsPathOf schema q
  pub few : HasFewConds q
