-- What contracts see of a reader of linked records.
use Rattle.std.specs.Prelude.{◌≡◌, ℕ, ◌<◌, Bool, List, length, Result, Ok, Err, IsTrue}
use Rattle.std.specs.List.{AllByRecursion}
use Rattle.gx_schema.specs.declared.schema.Schema.{Schema}
use Rattle.gx_commands.specs.declared.command.Find.{Find}
use Rattle.gx_commands.specs.declared.path.Way.{Way}
use Rattle.gx_commands.specs.declared.path.Way.TheVariants.{Down, Up}
use Rattle.gx_commands.specs.declared.path.Leg.{Leg}
use Rattle.gx_commands.specs.Paths.{link_of, file_behind}

-- the leg's link is one of the schema, and leads to its file
pub record IsLegOf (schema : Schema) (leg : Leg) : Type 0 where
  pub link : link_of leg.way < length schema.links
  pub behind : file_behind schema leg.way ≡ leg.find.file

-- how a call ended, whatever it gave
abbrev pub ended : {T E : Type 0} → Result T E → Result (Unit {0}) E
ended (Ok x) = Ok tt
ended (Err why) = Err why

-- what steps are counted by
pub record Costs : Type 0 where
  -- the steps of one look-up
  pub look_up : ℕ
  -- how many records the plan of a `find` looks at
  pub candidates : Find → ℕ
  -- whether the owner of a member of this link is found without reading all of the link
  pub finds : ℕ → Bool

-- what the way asks for is found by look-ups
abbrev pub IsFound : (ℕ → Bool) → Way → Type 0
IsFound finds (Down link) = Unit {0}
IsFound finds (Up link) = IsTrue (finds link)

abbrev pub AreFound : (ℕ → Bool) → List Leg → Type 0
AreFound finds legs = AllByRecursion (λ leg. IsFound finds leg.way) legs
