-- What the calls of an engine that read records do, besides the steps of a play.
use Rattle.std.specs.Prelude.{◌≡◌, ℕ, ◌+◌, ◌*◌, ◌≤◌, List, ◌++◌, length, map, Some, IsSome, Result, Ok, Err, OnOk}
use Rattle.gx_values.specs.declared.records.Rec.{Rec}
use Rattle.gx_ports.specs.declared.stop.Stop.{Stop}
use Rattle.gx_ports.specs.declared.stop.Stop.TheVariants as stop
use Rattle.gx_ports.specs.declared.view.View.{Ghosts}
use Rattle.gx_ports.specs.Calls.{Keeps, Reads}
use Rattle.gx_model.specs.States.{State, Row}
use Rattle.gx_model.specs.Play.{Playing, seen_state}
use Rattle.gx_scan.specs.Files.{rec_of}
use Rattle.gx_engine.specs.declared.engine.Engine.{Engine}
use Rattle.gx_engine.specs.declared.engine.StepStop.{StepStop}
use Rattle.gx_engine.specs.declared.engine.StepStop.TheVariants.{Now}
use Rattle.gx_engine.specs.Records.{most_in}
use Rattle.gx_engine.specs.Steps.{schema_of, built_of, leaves_of, is_open, commits_of, stop_of, IsReady, IsAt, HasStepCause, IsServed}

-- an Ok appends records that are as `Are` says of the state that is seen
abbrev pub Appends : {S : Type 0} → Ghosts S → Engine S → List Rec → List Rec
    → Result (Unit {0}) StepStop → (State → List Row → Type 0) → Type 0
Appends g old out now result Are =
    (p : Playing) → IsAt g p old
    → OnOk result
    ((rows : List Row) × Are (seen_state p) rows × (now ≡ out ++ map rec_of rows))

-- an Ok takes at most so many look-ups, each with a step for each leaf, and one for each leaf entry
-- of a record or of an owner
abbrev pub TakesLooks : {S : Type 0} → Ghosts S → Engine S → Engine S
    → Result (Unit {0}) StepStop → (State → ℕ) → Type 0
TakesLooks g old new result looks =
    (p : Playing) → IsAt g p old
    → OnOk result (g.work (leaves_of new)
    ≤ g.work (leaves_of old) + looks (seen_state p)
    * (most_in (built_of old) (seen_state p) + length (g.working (leaves_of old))))

-- What stays of an engine and of its leaves. An Ok changes no map.
pub record KeepsPlay {S : Type 0} (g : Ghosts S) (old new : Engine S)
    (result : Result (Unit {0}) StepStop) : Type 0 where
  pub schema : schema_of new ≡ schema_of old
  pub built : built_of new ≡ built_of old
  pub commits : commits_of new ≡ commits_of old
  pub inside : OnOk result (is_open new ≡ is_open old)
  pub keeps : Keeps g (leaves_of old) (leaves_of new)
  pub reads : OnOk result (Reads g (leaves_of old) (leaves_of new))
  pub whole : OnOk result (g.whole (leaves_of old) → g.whole (leaves_of new))

-- What a call that reads keeps and how it ends, whatever it answers: as a step does, but that it is
-- never `Full`.
pub record EndsReading {S : Type 0} (g : Ghosts S) (old new : Engine S)
    (result : Result (Unit {0}) StepStop) : Type 0 where
  pub served : IsServed (stop_of old) (stop_of new) result
  pub still : IsSome (stop_of old) → new ≡ old
  pub keeps : KeepsPlay g old new result
  pub cause : HasStepCause g old new result
  pub not_full : result ≡ Err (Now stop.Full) → ⊥
  pub ready : IsReady g new

-- ---- the stop of a call that is the first one

-- what is answered
abbrev pub first_answer : Result (Unit {0}) Stop → Result (Unit {0}) StepStop
first_answer (Ok x) = Ok x
first_answer (Err why) = Err (Now why)

-- it is kept
abbrev pub after_call : {S : Type 0} → Result (Unit {0}) Stop → Engine S → Engine S
after_call (Ok x) e = e
after_call (Err why) e = record e { stopped = Some why }
