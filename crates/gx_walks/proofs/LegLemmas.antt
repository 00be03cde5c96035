-- The legs of a path, and the legs back.
use Rattle.std.proofs.Common.{◌≡◌, ◌<◌, ◌∙◌, ℕ, Bool, List, [], ◌∷◌, ◌++◌, length, refl, sym, ap, subst}
use Rattle.std.specs.List.{AllByRecursion}
use Rattle.gx_schema.specs.declared.schema.Schema.{Schema}
use Rattle.gx_commands.specs.declared.command.Find.{Find}
use Rattle.gx_commands.specs.declared.path.Leg.{Leg}
use Rattle.gx_commands.specs.declared.path.Way.{Way}
use Rattle.gx_commands.specs.declared.path.Way.TheVariants.{Down, Up}
use Rattle.gx_commands.specs.declared.path.PathQuery.{PathQuery}
use Rattle.gx_commands.specs.Paths.{link_of, file_before, file_behind, IsLegFrom, AreLegsFrom, IsByKey}
use Rattle.gx_model.specs.Paths.{last_find}
use Rattle.gx_walks.specs.Walks.{way_back, back_legs}
use Rattle.gx_walks.specs.Readers.{IsLegOf}
use Rattle.gx_walks.specs.Directions.{IsDirectionOf}
use Rattle.gx_walks.specs.declared.directions.Direction.{Direction}
use Rattle.gx_walks.specs.declared.directions.Direction.TheVariants.{Forward, Backward}

-- each leg of a path is one of the schema
pub legs_of_path : (schema : Schema) (file : ℕ) (legs : List Leg) → AreLegsFrom schema file legs
    → AllByRecursion (IsLegOf schema) legs
legs_of_path schema file [] h = tt
legs_of_path schema file (leg ∷ legs) h = (
  record { link = h.0.link; behind = h.0.behind },
  legs_of_path schema leg.find.file legs h.1,
)

pub before_last : (schema : Schema) (file : ℕ) (legs : List Leg) (leg : Leg)
    → AreLegsFrom schema file (legs ++ leg ∷ []) → AreLegsFrom schema file legs
before_last schema file [] leg h = tt
before_last schema file (l ∷ legs) leg h = (h.0, before_last schema l.find.file legs leg h.1)

pub from_last : (schema : Schema) (first : Find) (legs : List Leg) (leg : Leg)
    → AreLegsFrom schema first.file (legs ++ leg ∷ [])
    → IsLegFrom schema (last_find first legs).file leg
from_last schema first [] leg h = h.0
from_last schema first (l ∷ legs) leg h = from_last schema l.find legs leg h.1

-- the last `find` of a path is one by key
pub last_by_key : (schema : Schema) (first : Find) (legs : List Leg) → IsByKey schema first
    → AreLegsFrom schema first.file legs → IsByKey schema (last_find first legs)
last_by_key schema first [] k h = k
last_by_key schema first (leg ∷ legs) k h = last_by_key schema leg.find legs h.0.find h.1

-- the leg back over the last one is the first of the legs back
pub back_last : (first : Find) (legs : List Leg) (leg : Leg)
    → back_legs first (legs ++ leg ∷ [])
    ≡ record { way = way_back leg.way; find = last_find first legs } ∷ back_legs first legs
back_last first [] leg = refl
back_last first (l ∷ legs) leg =
    ap (λ (ls : List Leg). ls ++ record { way = way_back l.way; find = first } ∷ [])
    (back_last l.find legs leg)

pub back_link : (way : Way) → link_of (way_back way) ≡ link_of way
back_link (Down link) = refl
back_link (Up link) = refl

pub behind_back : (schema : Schema) (way : Way)
    → file_behind schema (way_back way) ≡ file_before schema way
behind_back schema (Down link) = refl
behind_back schema (Up link) = refl

-- the leg back over the last one is one of the schema
pub leg_back : (schema : Schema) (first : Find) (legs : List Leg) (leg : Leg)
    → AreLegsFrom schema first.file (legs ++ leg ∷ [])
    → IsLegOf schema (record { way = way_back leg.way; find = last_find first legs })
leg_back schema first legs leg h =
    let last = from_last schema first legs leg h in record {
      link = subst (λ (n : ℕ). n < length schema.links) (sym (back_link leg.way)) last.link;
      behind = behind_back schema leg.way ∙ last.before;
    }

-- a path has one direction
pub one_direction : (q : PathQuery) (first last : List Bool) (d e : Direction)
    → IsDirectionOf q first last d → IsDirectionOf q first last e → d ≡ e
one_direction q first last Forward Forward h k = refl
one_direction q first last Backward Backward h k = refl
one_direction q first last Forward Backward h k = h.1 (k.0 refl)
one_direction q first last Backward Forward h k = sym (k.1 (h.0 refl))
