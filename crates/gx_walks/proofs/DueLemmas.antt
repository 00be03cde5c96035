-- Which paths that were read are due.
use Rattle.std.proofs.Common.{ℕ, ◌≤◌, ◌<◌, ◌^◌, List, [], ◌∷◌, length, arith}
use Rattle.std.specs.List.{AllByRecursion}
use Rattle.gx_schema.specs.declared.schema.Schema.{Schema}
use Rattle.gx_commands.specs.declared.command.Find.{Find}
use Rattle.gx_commands.specs.declared.path.Leg.{Leg}
use Rattle.gx_commands.specs.declared.path.PathQuery.{PathQuery}
use Rattle.gx_commands.specs.Paths.{IsPathOf}
use Rattle.gx_model.specs.Paths.{last_find}
use Rattle.gx_paths.specs.Few.{HasAtMost}
use Rattle.gx_walks.specs.Directions.{IsDuePath}

last_few : (most : ℕ) (first : Find) (legs : List Leg) → length first.conds ≤ most
    → AllByRecursion (λ (leg : Leg). length leg.find.conds ≤ most) legs
    → length (last_find first legs).conds ≤ most
last_few most first [] few each = few
last_few most first (leg ∷ legs) few each = last_few most leg.find legs each.0 each.1

-- a path of a short line is due
pub due_path : (schema : Schema) (q : PathQuery) (most : ℕ) → IsPathOf schema q → HasAtMost most q
    → most < 2 ^ 16 → IsDuePath schema q
due_path schema q most of_schema has few = record {
  of_schema = of_schema;
  few = record {
    first = omega (arith, has.first, few);
    last = omega (arith, last_few most q.first q.legs has.first has.legs, few);
  };
}
