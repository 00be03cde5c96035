-- What contracts see of sessions that take turns, and what a turn does.
use Rattle.std.specs.Prelude.{◌≡◌, ℕ, ◌+◌, ◌-◌, ◌^◌, ◌<◌, ◌≤◌, List, [], ◌++◌, map, length, slice_index_or, ◌==◌, if◌then◌else◌, ◌⊎◌, Bool, true, false, Option, Some, None, IsSome, is_some, codes, Result, Ok, Err, OnOk, OnErr}
use Rattle.gx_device.specs.Content.{Silent}
use Rattle.gx_device.specs.Faults.{Rose}
use Rattle.gx_schema.specs.declared.schema.Schema.{Schema}
use Rattle.gx_commands.specs.declared.command.Command.{Command}
use Rattle.gx_commands.specs.declared.command.Command.TheVariants as command
use Rattle.gx_commands.specs.Commands.{IsOfSchema, conds_of, place_reason}
use Rattle.gx_ports.specs.Calls.{Keeps}
use Rattle.gx_ports.specs.declared.stop.Stop.{Stop}
use Rattle.gx_ports.specs.declared.stop.Stop.TheVariants as stop
use Rattle.gx_ports.specs.declared.view.View.{Ghosts}
use Rattle.gx_model.specs.Play.{IsAnswered}
use Rattle.gx_engine.specs.declared.engine.Engine.{Engine}
use Rattle.gx_engine.specs.declared.engine.StepStop.{StepStop}
use Rattle.gx_engine.specs.declared.engine.StepStop.TheVariants.{Now}
use Rattle.gx_engine.specs.Steps.{schema_of as engine_schema, built_of as engine_built, leaves_of as engine_leaves, stop_of as engine_stop, is_open, is_commit, is_fault_now, IsServed, IsReady as IsEngineReady, IsSame as IsEngineSame}
use Rattle.gx_sharing.specs.Sharing.{Sharing, Session, Outcome, ended, answered, skipped, ended_by, play_of, outcome_of, after_turn}
use Rattle.gx_sessions.specs.declared.session.SessionState.{SessionState}
use Rattle.gx_sessions.specs.declared.session.Standing.{Standing}
use Rattle.gx_sessions.specs.declared.session.Standing.TheVariants.{Outside}
use Rattle.gx_sessions.specs.declared.sessions.Sessions.{Sessions}
use Rattle.gx_sessions.specs.declared.sessions.Turn.{Turn}
use Rattle.gx_sessions.specs.declared.sessions.Turn.TheVariants as turn
use Rattle.gx_sessions.specs.Standings.{stands_in, is_within, AreSessions, AreWhole}
use Rattle.gx_sessions.specs.Shared.{IsShared, EndsCarry}

-- ---- what contracts see of sessions

abbrev pub engine_of : {S : Type 0} → Sessions S → Engine S
engine_of s = s.shared.engine

abbrev pub schema_of : {S : Type 0} → Sessions S → Schema
schema_of s = engine_schema (engine_of s)

abbrev pub leaves_of : {S : Type 0} → Sessions S → S
leaves_of s = engine_leaves (engine_of s)

-- the first stop, which is kept
abbrev pub stop_of : {S : Type 0} → Sessions S → Option Stop
stop_of s = s.stopped

-- where a session stands
abbrev pub standing_at : {S : Type 0} → Sessions S → ℕ → Standing
standing_at s n = slice_index_or (map (λ state. state.standing) s.states.items) (n - 1) Outside

-- whether it is in a transaction, also in one that was ended
abbrev pub is_in_at : {S : Type 0} → Sessions S → ℕ → Bool
is_in_at s n = is_within (standing_at s n)

-- the number of a session
abbrev pub IsNumber : ℕ → Type 0
IsNumber n = (1 ≤ n) × (n ≤ 8)

-- one session is in a transaction afterwards or not, and the others are where they were
pub record MovesTo {S : Type 0} (old new : Sessions S) (session : ℕ) (within : Bool) : Type 0 where
  pub at : (n : ℕ) → IsNumber n
      → is_in_at new n ≡ (if n == session then within else is_in_at old n)

-- the engine gave nothing up, and where it stands for a session it is inside where that one is
pub record GoesOn {S : Type 0} (s : Sessions S) : Type 0 where
  pub going : engine_stop (engine_of s) ≡ None
  pub own : (k : ℕ) (other : SessionState) → k < 8 → s.shared.carried ≡ Some (k + 1)
      → is_open (engine_of s) ≡ stands_in (slice_index_or s.states.items k other).standing

-- there are eight sessions over an engine that is ready
pub record IsReady {S : Type 0} (g : Ghosts S) (s : Sessions S) : Type 0 where
  pub engine : IsEngineReady g (engine_of s)
  pub states : AreWhole (schema_of s) s.states.items
  pub goes_on : stop_of s ≡ None → GoesOn s

-- the command is of the schema, may stand where the session is, and has conditions that a plan can
-- number
pub record IsDue {S : Type 0} (s : Sessions S) (n : ℕ) (c : Command) : Type 0 where
  pub of_schema : IsOfSchema (schema_of s) c
  pub few : length (conds_of c) < 2 ^ 16
  pub allowed : place_reason (is_in_at s n) c ≡ None

-- the engine and the sessions stand for a moment of shared turns
pub record AreShared {S : Type 0} (g : Ghosts S) (p : Sharing) (s : Sessions S) : Type 0 where
  pub engine : IsShared g p s.shared.carried (engine_of s)
  pub sessions : AreSessions (schema_of s) p.session s.states.items

-- they stand for some moment
abbrev pub IsSound : {S : Type 0} → Ghosts S → Sessions S → Type 0
IsSound g s = (p : Sharing) × AreShared g p s

-- ---- one turn

abbrev pub turn_of : Outcome → Turn
turn_of answered = turn.Answer
turn_of skipped = turn.Skipped
turn_of (ended_by m) = turn.Ended m

-- of a turn that is answered the text is the answer of its command; of another there is none
abbrev pub IsTextOf : Schema → Sharing → ℕ → Command → Outcome → List ℕ → Type 0
IsTextOf schema p n c answered text = IsAnswered schema (play_of schema p n) c text
IsTextOf schema p n c skipped text = text ≡ []
IsTextOf schema p n c (ended_by m) text = text ≡ []

-- a turn came out so: its answer was appended, and the sessions stand for what comes after it
pub record ComesOut {S : Type 0} (g : Ghosts S) (p : Sharing) (n : ℕ) (c : Command) (o : Outcome)
    (old new : Sessions S) (out now : List ℕ) : Type 0 where
  pub text : List ℕ
  pub said : now ≡ out ++ text
  pub text_is : IsTextOf (schema_of old) p n c o text
  pub after : AreShared g (after_turn (schema_of old) p n c o) new

-- the turn comes out as shared turns say
pub record IsTurned {S : Type 0} (g : Ghosts S) (p : Sharing) (n : ℕ) (c : Command) (t : Turn)
    (old new : Sessions S) (out now : List ℕ) : Type 0 where
  pub turn_is : t ≡ turn_of (outcome_of (schema_of old) p n c)
  pub comes : ComesOut g p n c (outcome_of (schema_of old) p n c) old new out now

-- the answer of a command that reaches no leaf
abbrev pub answer_at_once : Command → Option (List ℕ)
answer_at_once command.Begin = Some (codes "begun\n")
answer_at_once command.Abort = Some (codes "dropped\n")
answer_at_once command.Nothing = Some []
answer_at_once c = None

-- whether the turn reaches no leaf: it is skipped, or ends the transaction, or its command has such
-- an answer
abbrev pub rests : Command → Turn → Bool
rests c turn.Skipped = true
rests c (turn.Ended m) = true
rests c turn.Answer = is_some (answer_at_once c)

abbrev pub rests_in : {E : Type 0} → Command → Result Turn E → Bool
rests_in c (Ok t) = rests c t
rests_in c (Err e) = is_some (answer_at_once c)

-- the command changes nothing that the session sees: it begins or ends a transaction, or there is
-- none, or the session's transaction was ended
abbrev pub IsIdle : Session → Command → Type 0
IsIdle s c = (is_some (answer_at_once c) ≡ true) ⊎ (s ≡ ended)

-- what a turn keeps of the leaves and how it ends, by how it is carried out
pub record EndsTaken {S : Type 0} (g : Ghosts S) (c : Command) (old new : Sessions S)
    (out now : List ℕ) (result : Result (Unit {0}) Stop) : Type 0 where
  pub engine : EndsCarry g c (engine_of old) (engine_of new) out now result
  pub states : AreWhole (schema_of old) new.states.items
  pub stopped : stop_of new ≡ stop_of old
  pub goes_on : OnOk result (GoesOn new)

-- no leaf was reached: the engine is the same, and there are eight whole sessions
pub record RestsOn {S : Type 0} (g : Ghosts S) (old new : Sessions S) : Type 0 where
  pub engine : engine_of new ≡ engine_of old
  pub states : AreWhole (schema_of old) new.states.items
  pub stopped : stop_of new ≡ stop_of old
  pub goes_on : GoesOn old → GoesOn new

-- the same without the turn
abbrev pub without_turn : {E : Type 0} → Result Turn E → Result (Unit {0}) E
without_turn (Ok t) = Ok tt
without_turn (Err e) = Err e

-- How a turn ends: the count of faults never falls, `Now(Fault)` comes only where it rose, and with
-- any other answer it stays. Damage is found only where the sessions stood for no moment, of block
-- 0 where each leaf is whole.
pub record HasTurnCause {S : Type 0} (g : Ghosts S) (old new : Sessions S)
    (result : Result Turn StepStop) : Type 0 where
  pub later : g.faults (leaves_of old) ≤ g.faults (leaves_of new)
  pub fault : result ≡ Err (Now stop.Fault)
      → Rose (g.faults (leaves_of old)) (g.faults (leaves_of new))
  pub counted : is_fault_now (without_turn result) ≡ false
      → g.faults (leaves_of new) ≡ g.faults (leaves_of old)
  pub damaged : (block : ℕ) → result ≡ Err (Now (stop.Damaged block)) → ¬ IsSound g old
  pub block : (n : ℕ) → result ≡ Err (Now (stop.Damaged n)) → g.whole (leaves_of old)
      → g.kept_whole (leaves_of old) → n ≡ 0

-- What a turn keeps and how it ends, whatever it answers. Given up it says nothing, and unless the
-- outside failed in it, or where its command is no commit, what was last committed stays; a turn
-- that reaches no leaf leaves all of them as they are. The first stop is kept, and sessions that
-- have one stay as they are. They are ready for the next turn.
pub record EndsTurn {S : Type 0} (g : Ghosts S) (c : Command) (old new : Sessions S)
    (out now : List ℕ) (result : Result Turn StepStop) : Type 0 where
  pub unsaid : OnErr result (now ≡ out)
  pub served : IsServed (stop_of old) (stop_of new) (without_turn result)
  pub still : IsSome (stop_of old) → new ≡ old
  pub schema : schema_of new ≡ schema_of old
  pub built : engine_built (engine_of new) ≡ engine_built (engine_of old)
  pub limit : g.limit (leaves_of new) ≡ g.limit (leaves_of old)
  pub head : g.head (leaves_of new) ≡ g.head (leaves_of old)
  pub silent : Silent (g.content (leaves_of old)) (g.content (leaves_of new))
  pub rests_so : rests_in c result ≡ true → leaves_of new ≡ leaves_of old
  pub quiet : is_commit c ≡ false → Keeps g (leaves_of old) (leaves_of new)
  pub kept : is_fault_now (without_turn result) ≡ false
      → OnErr result (Keeps g (leaves_of old) (leaves_of new))
  pub cause : HasTurnCause g old new result
  pub ready : IsReady g new

-- what `hear` and `say` keep: the sessions are the same, on an engine that has the same state
pub record IsSame {S : Type 0} (g : Ghosts S) (old new : Sessions S) : Type 0 where
  pub engine : IsEngineSame g (engine_of old) (engine_of new)
  pub carried : new.shared.carried ≡ old.shared.carried
  pub states : new.states ≡ old.states
  pub stopped : new.stopped ≡ old.stopped
