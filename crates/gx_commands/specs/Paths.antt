-- Which paths over links are of a schema.
use Rattle.std.specs.Prelude.{◌≡◌, ℕ, ◌<◌, ◌≤◌, List, [], ◌∷◌, length, false, None}
use Rattle.gx_schema.specs.declared.schema.Schema.{Schema}
use Rattle.gx_schema.specs.Lookups.{link_at}
use Rattle.gx_commands.specs.declared.command.Cond.{Cond}
use Rattle.gx_commands.specs.declared.command.Find.{Find}
use Rattle.gx_commands.specs.declared.path.Way.{Way}
use Rattle.gx_commands.specs.declared.path.Way.TheVariants.{Down, Up}
use Rattle.gx_commands.specs.declared.path.Leg.{Leg}
use Rattle.gx_commands.specs.declared.path.PathQuery.{PathQuery}
use Rattle.gx_commands.specs.declared.path.TheConstants.{MOST_LEGS}
use Rattle.gx_commands.specs.Commands.{IsFindOf}

-- how many legs a path has at most
unfoldable pub most_legs : ℕ
most_legs = MOST_LEGS

abbrev pub link_of : Way → ℕ
link_of (Down link) = link
link_of (Up link) = link

-- the file from which a way leads, and that to which it does
abbrev pub file_before : Schema → Way → ℕ
file_before schema (Down link) = (link_at schema link).owner
file_before schema (Up link) = (link_at schema link).member

abbrev pub file_behind : Schema → Way → ℕ
file_behind schema (Down link) = (link_at schema link).member
file_behind schema (Up link) = (link_at schema link).owner

-- the records of a file that meet conditions, by ascending key
abbrev pub by_key : ℕ → List Cond → Find
by_key file conds =
    record { file = file; conds = conds; of = None; order = record { field = 0; desc = false } }

-- the `find` is of the schema, and asks for no more than that
pub record IsByKey (schema : Schema) (q : Find) : Type 0 where
  pub of_schema : IsFindOf schema q
  pub plain : q ≡ by_key q.file q.conds

-- the leg leads from this file
pub record IsLegFrom (schema : Schema) (file : ℕ) (leg : Leg) : Type 0 where
  pub link : link_of leg.way < length schema.links
  pub before : file_before schema leg.way ≡ file
  pub behind : file_behind schema leg.way ≡ leg.find.file
  pub find : IsByKey schema leg.find

-- each leg leads from the file to which the one before leads
abbrev pub AreLegsFrom : Schema → ℕ → List Leg → Type 0
AreLegsFrom schema file [] = Unit {0}
AreLegsFrom schema file (leg ∷ legs) =
    IsLegFrom schema file leg × AreLegsFrom schema leg.find.file legs

pub record IsPathOf (schema : Schema) (q : PathQuery) : Type 0 where
  pub first : IsByKey schema q.first
  pub legs : AreLegsFrom schema q.first.file q.legs
  pub some : 0 < length q.legs
  pub few : length q.legs ≤ most_legs
