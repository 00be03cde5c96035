-- What one line of a script of turns does to the sessions, whatever it is.
use Rattle.std.specs.Prelude.{◌≡◌, ◌≢◌, ◌⊎◌, ℕ, List, [], ◌∷◌, ◌++◌, take, Bool, false, IsTrue, None, Result, Ok, Err, IfOk, OnOk, OnErr}
use Rattle.gx_device.specs.Content.{Moment, Content, Silent}
use Rattle.gx_device.specs.Crash.{Image, LeavesOnly}
use Rattle.gx_device.specs.Quiet.{IsPrefix}
use Rattle.gx_schema.specs.declared.schema.Schema.{Schema}
use Rattle.gx_commands.specs.declared.command.Command.{Command}
use Rattle.gx_commands.specs.Commands.{place_reason}
use Rattle.gx_script.specs.Grammar.{IsLineOf}
use Rattle.gx_ports.specs.Calls.{Keeps}
use Rattle.gx_ports.specs.Stops.{HasStopCause, is_fault}
use Rattle.gx_ports.specs.declared.stop.Stop.{Stop}
use Rattle.gx_ports.specs.declared.stop.Stop.TheVariants as stop
use Rattle.gx_ports.specs.declared.view.View.{Ghosts}
use Rattle.gx_engine.specs.declared.engine.StepStop.{StepStop}
use Rattle.gx_engine.specs.declared.engine.StepStop.TheVariants.{Now, Stopped}
use Rattle.gx_engine.specs.Crashes.{HoldsFor}
use Rattle.gx_engine.specs.Steps.{built_of as engine_built, is_commit}
use Rattle.gx_model.specs.States.{State}
use Rattle.gx_sharing.specs.Sharing.{Sharing, answered, is_in, outcome_of, after_turn, IsSaid}
use Rattle.gx_sharing.specs.Turns.{Turn}
use Rattle.gx_sessions.specs.declared.sessions.Sessions.{Sessions}
use Rattle.gx_sessions.specs.declared.sessions.Turn.{Turn as TheTurn}
use Rattle.gx_sessions.specs.Standings.{commands_of}
use Rattle.gx_sessions.specs.Shared.{IsShortFor, LeavesTurn}
use Rattle.gx_sessions.specs.Turns.{engine_of, schema_of, leaves_of, stop_of, AreShared, IsReady, IsSound, IsTurned}
use Rattle.gx_shares.specs.Player.{texts_of}

-- the stop with which a turn ended, the first one or a later one
abbrev pub without_first : Result TheTurn StepStop → Result TheTurn Stop
without_first (Ok t) = Ok t
without_first (Err (Now why)) = Err why
without_first (Err (Stopped why)) = Err why

-- What the turn of a session does, before it is said: how it comes out, and what it keeps. Given up
-- it says nothing, and unless a call below failed, what was last committed stays.
pub record IsTurnStep {S : Type 0} (g : Ghosts S) (old new : Sessions S) (n : ℕ) (c : Command)
    (out now : List ℕ) (result : Result TheTurn Stop) : Type 0 where
  pub turned : (p : Sharing) → AreShared g p old
      → IfOk result (λ t. IsTurned g p n c t old new out now)
  pub full : (p : Sharing) → AreShared g p old → result ≡ Err stop.Full
      → IsShortFor (schema_of old) (engine_built (engine_of old)) (g.limit (leaves_of old)) p n c
  pub images : (p : Sharing) → AreShared g p old → (start : Content) → g.calm (leaves_of old) start
      → LeavesTurn g p (after_turn (schema_of old) p n c (outcome_of (schema_of old) p n c))
      (engine_of old) (engine_of new) (is_fault result)
  pub schema : schema_of new ≡ schema_of old
  pub built : engine_built (engine_of new) ≡ engine_built (engine_of old)
  pub limit : g.limit (leaves_of new) ≡ g.limit (leaves_of old)
  pub head : g.head (leaves_of new) ≡ g.head (leaves_of old)
  pub silent : Silent (g.content (leaves_of old)) (g.content (leaves_of new))
  pub quiet : is_commit c ≡ false → Keeps g (leaves_of old) (leaves_of new)
  pub kept : is_fault result ≡ false → OnErr result (Keeps g (leaves_of old) (leaves_of new))
  pub cause : HasStopCause (g.faults (leaves_of old)) (g.faults (leaves_of new)) (IsSound g old)
      result
  pub ready : IsReady g new
  pub going : OnOk result (stop_of new ≡ None)

-- ---- what a step may do: which turns, and where the sessions stand behind them

-- a turn of this session, from this line with this command
abbrev pub IsTurnOf : Schema → Sharing → ℕ → List ℕ → Command → List Turn → Sharing → Type 0
IsTurnOf schema p n line c ts next =
    let outcome = outcome_of schema p n c in
    (text : List ℕ) × IsSaid schema p n c outcome text
    × (ts ≡ record { session = n; line = line; command = c; outcome = outcome; said = text } ∷ [])
    × (next ≡ after_turn schema p n c outcome)

-- the same of the line of a session, with a command that may stand where this one is
abbrev pub IsTurnLine : Schema → Sharing → ℕ → List ℕ → List Turn → Sharing → Type 0
IsTurnLine schema p n line ts next =
    (c : Command) × IsLineOf schema line c × (place_reason (is_in (p.session n)) c ≡ None)
    × IsTurnOf schema p n line c ts next

-- The turn is answered, and the pages may be too few for one of the commands of the session's
-- transaction, the one of this line with them.
abbrev pub IsShortTurn : Schema → (Sharing → List Command → Type 0) → Sharing → ℕ → List ℕ → Type 0
IsShortTurn schema Short p n line =
    (c : Command) × IsLineOf schema line c × (place_reason (is_in (p.session n)) c ≡ None)
    × (outcome_of schema p n c ≡ answered) × Short p (commands_of (p.session n) ++ c ∷ [])

-- the step was carried out and what it says was said, and the sessions stand for what comes after
-- it
pub record IsStepped {S : Type 0} (g : Ghosts S) (Goes : List Turn → Sharing → Type 0)
    (old new : Sessions S) : Type 0 where
  pub ts : List Turn
  pub next : Sharing
  pub goes : Goes ts next
  pub at : AreShared g next new
  pub said : IsTrue g.tells
      → (g.content (leaves_of new)).now.said ≡ (g.content (leaves_of old)).now.said ++ texts_of ts

-- It was given up. Unless a call below failed, nothing was said of it, and what was last committed
-- stays. After a failed call the same, unless it is a commit; or it was carried out, and a front of
-- what it says was said. `Full` comes only where the pages may be too few for it, and damage isn't
-- found.
pub record IsStepCut {S : Type 0} (g : Ghosts S) (Goes : List Turn → Sharing → Type 0)
    (Commit Short : Type 0) (old new : Sessions S) (why : Stop) : Type 0 where
  pub unsaid : why ≢ stop.Fault
      → (g.content (leaves_of new)).now.said ≡ (g.content (leaves_of old)).now.said
  pub kept : why ≢ stop.Fault → Keeps g (leaves_of old) (leaves_of new)
  pub cut : (((g.content (leaves_of new)).now.said ≡ (g.content (leaves_of old)).now.said)
      × (Keeps g (leaves_of old) (leaves_of new) ⊎ Commit))
      ⊎ ((ts : List Turn) × (next : Sharing) × Goes ts next × AreShared g next new
      × ((count : ℕ) × ((g.content (leaves_of new)).now.said
      ≡ (g.content (leaves_of old)).now.said ++ take count (texts_of ts))))
  pub short : why ≡ stop.Full → Short
  pub sound : (block : ℕ) → why ≢ stop.Damaged block

-- While it is carried out and said: the blocks hold the state that was kept before it, and nothing
-- was said; or the one that is kept after it, and a front of what it says was said.
pub record IsStepImage (Holds : State → List (List ℕ) → Type 0)
    (Goes : List Turn → Sharing → Type 0) (kept : State) (start : Moment)
    (image : Image) : Type 0 where
  pub is : (Holds kept image.blocks × (image.said ≡ start.said))
      ⊎ ((ts : List Turn) × (next : Sharing) × Goes ts next × Holds next.kept image.blocks
      × ((count : ℕ) × (image.said ≡ start.said ++ take count (texts_of ts))))
  pub shelf : image.shelf ≡ start.shelf

-- What a crash leaves from before it until after it. Unless a call below failed it is calm
-- afterwards.
pub record LeavesStep {S : Type 0} (g : Ghosts S) (Goes : List Turn → Sharing → Type 0)
    (kept : State) (failed : Bool) (old new : Sessions S) : Type 0 where
  pub images : LeavesOnly (IsStepImage (HoldsFor g (engine_of old)) Goes kept
      (g.content (leaves_of old)).now) (g.content (leaves_of old)) (g.content (leaves_of new))
  pub calm : failed ≡ false → g.calm (leaves_of new) (g.content (leaves_of new))

-- ---- what stays of the sessions

-- whatever they stood for; what was said before stays, in front
pub record KeepsSessions {S : Type 0} (g : Ghosts S) (old new : Sessions S) : Type 0 where
  pub schema : schema_of new ≡ schema_of old
  pub built : engine_built (engine_of new) ≡ engine_built (engine_of old)
  pub ready : IsReady g new
  pub limit : g.limit (leaves_of new) ≡ g.limit (leaves_of old)
  pub head : g.head (leaves_of new) ≡ g.head (leaves_of old)
  pub shelf : (g.content (leaves_of new)).now.shelf ≡ (g.content (leaves_of old)).now.shelf
  pub script : (g.content (leaves_of new)).script ≡ (g.content (leaves_of old)).script
  pub aside : (g.content (leaves_of new)).aside ≡ (g.content (leaves_of old)).aside
  pub begins : IsTrue g.tells
      → IsPrefix (g.content (leaves_of old)).now.said (g.content (leaves_of new)).now.said
