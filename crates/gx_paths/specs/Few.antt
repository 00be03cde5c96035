-- How many conditions a path has.
use Rattle.std.specs.Prelude.{ℕ, ◌≤◌, length}
use Rattle.std.specs.List.{AllByRecursion}
use Rattle.gx_commands.specs.declared.path.Leg.{Leg}
use Rattle.gx_commands.specs.declared.path.PathQuery.{PathQuery}

-- none of its `find`s has more than so many conditions
pub record HasAtMost (most : ℕ) (q : PathQuery) : Type 0 where
  pub first : length q.first.conds ≤ most
  pub legs : AllByRecursion (λ (leg : Leg). length leg.find.conds ≤ most) q.legs
