-- What carrying out what a line asks for does to an engine.
use Rattle.std.specs.Prelude.{◌≡◌, ℕ, List, ◌++◌, Bool, false, None, Result, Ok, Err, OnOk, OnErr}
use Rattle.gx_device.specs.Content.{Content, Silent}
use Rattle.gx_device.specs.Crash.{LeavesOnly}
use Rattle.gx_device.specs.Quiet.{IsOldOrNew}
use Rattle.gx_ports.specs.Calls.{Keeps}
use Rattle.gx_ports.specs.Stops.{is_fault, HasStopCause}
use Rattle.gx_ports.specs.declared.stop.Stop.{Stop}
use Rattle.gx_ports.specs.declared.stop.Stop.TheVariants as stop
use Rattle.gx_ports.specs.declared.view.View.{Ghosts}
use Rattle.gx_model.specs.Play.{Playing}
use Rattle.gx_walks.specs.Directions.{IsDuePath}
use Rattle.gx_engine.specs.declared.engine.Engine.{Engine}
use Rattle.gx_engine.specs.declared.engine.StepStop.{StepStop}
use Rattle.gx_engine.specs.declared.engine.StepStop.TheVariants.{Now, Stopped}
use Rattle.gx_engine.specs.Crashes.{HoldsFor}
use Rattle.gx_engine.specs.Steps.{IsAt, IsDue, IsReady, IsSound, schema_of, built_of, is_open, stop_of, leaves_of}
use Rattle.gx_play.specs.declared.lines.Asked.{Asked}
use Rattle.gx_play.specs.declared.lines.Asked.TheVariants as asked
use Rattle.gx_play.specs.Asked.{IsAnsweredTo, after_asked, inside_behind, is_commit}
use Rattle.gx_play.specs.Plays.{IsAskedShort}

-- it may be carried out where the engine is
abbrev pub IsDueAsked : {S : Type 0} → Engine S → Asked → Type 0
IsDueAsked e (asked.Command c) = IsDue e c
IsDueAsked e (asked.Path q) = IsDuePath (schema_of e) q

-- the stop with which a step ended, the first one or a later one
abbrev pub without_first : Result (Unit {0}) StepStop → Result (Unit {0}) Stop
without_first (Ok x) = Ok x
without_first (Err (Now why)) = Err why
without_first (Err (Stopped why)) = Err why

-- it was carried out: its answer was appended, and the engine stands for what comes after it
pub record CarriesOutAsked {S : Type 0} (g : Ghosts S) (p : Playing) (a : Asked)
    (old new : Engine S) (out now : List ℕ) : Type 0 where
  pub answer : List ℕ
  pub said : now ≡ out ++ answer
  pub answered : IsAnsweredTo (schema_of old) p a answer
  pub at : IsAt g (after_asked (schema_of old) p a) new

-- What a crash within it leaves, where it was calm before: the state that was kept, or the one that
-- is kept after it. Unless a call below failed it is calm afterwards.
pub record LeavesAskedStates {S : Type 0} (g : Ghosts S) (p : Playing) (a : Asked)
    (old new : Engine S) (failed : Bool) : Type 0 where
  pub images : LeavesOnly (IsOldOrNew (HoldsFor g old p.kept)
      (HoldsFor g old (after_asked (schema_of old) p a).kept) (g.content (leaves_of old)).now)
      (g.content (leaves_of old)) (g.content (leaves_of new))
  pub calm : failed ≡ false → g.calm (leaves_of new) (g.content (leaves_of new))

-- what it keeps of the engine and of its leaves
pub record KeepsAsked {S E : Type 0} (g : Ghosts S) (old new : Engine S) (a : Asked)
    (result : Result (Unit {0}) E) : Type 0 where
  pub schema : schema_of new ≡ schema_of old
  pub built : built_of new ≡ built_of old
  pub inside : OnOk result (is_open new ≡ inside_behind (is_open old) a)
  pub limit : g.limit (leaves_of new) ≡ g.limit (leaves_of old)
  pub head : g.head (leaves_of new) ≡ g.head (leaves_of old)
  pub silent : Silent (g.content (leaves_of old)) (g.content (leaves_of new))
  pub keeps : is_commit a ≡ false → Keeps g (leaves_of old) (leaves_of new)
  pub ready : IsReady g new

-- What it does: on Ok it was carried out. A stop says nothing, and unless a call below failed, what
-- was last committed stays; `Full` comes only of a command for which the pages may be too few.
pub record IsAskedStep {S : Type 0} (g : Ghosts S) (old new : Engine S) (a : Asked)
    (out now : List ℕ) (result : Result (Unit {0}) Stop) : Type 0 where
  pub carried : (p : Playing) → IsAt g p old → OnOk result (CarriesOutAsked g p a old new out now)
  pub full : (p : Playing) → IsAt g p old → result ≡ Err stop.Full → IsAskedShort g old p a
  pub images : (p : Playing) → IsAt g p old → (start : Content) → g.calm (leaves_of old) start
      → LeavesAskedStates g p a old new (is_fault result)
  pub unsaid : OnErr result (now ≡ out)
  pub rest : KeepsAsked g old new a result
  pub kept : is_fault result ≡ false → OnErr result (Keeps g (leaves_of old) (leaves_of new))
  pub going : OnOk result (stop_of new ≡ None)
  pub cause : HasStopCause (g.faults (leaves_of old)) (g.faults (leaves_of new))
      (IsSound g old) result
