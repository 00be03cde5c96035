-- How the play of the workload's script ended.
use Rattle.std.specs.Prelude.{◌≡◌, ℕ, List, Option, Result, Ok, Err}
use Rattle.gx_ports.specs.LeafMaps.{Limits}
use Rattle.gx_types.specs.declared.built.Built.{Built}
use Rattle.gx_model.specs.States.{State}
use Rattle.gx_model.specs.Play.{Playing, good}
use Rattle.gx_work.specs.Schema.{work_schema}
use Rattle.gx_work.specs.Workload.{work_script}
use Rattle.gx_work.specs.Summary.{work_text}
use Rattle.gx_play.specs.declared.ending.Ending.{Ending}
use Rattle.gx_play.specs.declared.ending.Ending.TheVariants as ending
use Rattle.gx_play.specs.Played.{IsPlay, AreFirst, MayBeFullAt}

-- all of the script was played from a state, this line tells what came of it, and its last kept
-- state is held
pub record IsWorkedOut (start : State) (Holds : State → Type 0) (records : ℕ)
    (line : List ℕ) : Type 0 where
  pub answers : List ℕ
  pub final : Playing
  pub play : IsPlay work_schema start (work_script records) answers final good
  pub line_is : line ≡ work_text records final
  pub holds : Holds final.kept

-- its first lines were played, and the last state that these kept is held
pub record IsWorkedFirst (start : State) (Holds : State → Type 0) (records : ℕ) : Type 0 where
  pub answers : List ℕ
  pub first : AreFirst work_schema start (work_script records) answers
  pub holds : Holds first.final.kept

-- the same, where the pages may be too few for the command of the next line
pub record IsWorkedFull (built : Built) (limit : Option Limits) (start : State)
    (Holds : State → Type 0) (records : ℕ) : Type 0 where
  pub answers : List ℕ
  pub final : Playing
  pub full : MayBeFullAt work_schema built limit start (work_script records) answers final
  pub holds : Holds final.kept

-- how the play ended; it ends at no line, and finds no damage
abbrev pub IsWorkedAs : Built → Option Limits → State → (State → Type 0) → ℕ
    → Result (List ℕ) Ending → Type 0
IsWorkedAs built limit start Holds records (Ok line) = IsWorkedOut start Holds records line
IsWorkedAs built limit start Holds records (Err ending.NoMemory) = IsWorkedFirst start Holds records
IsWorkedAs built limit start Holds records (Err ending.Full) =
    IsWorkedFull built limit start Holds records
IsWorkedAs built limit start Holds records (Err ending.Fault) = Unit {0}
IsWorkedAs built limit start Holds records (Err _) = ⊥
