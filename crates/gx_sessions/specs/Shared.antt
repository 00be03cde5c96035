-- What an engine stands for between the turns of sessions.
use Rattle.std.specs.Prelude.{◌≡◌, ℕ, ◌+◌, List, [], ◌∷◌, ◌++◌, length, Bool, true, false, Option, Some, None, Result, Err, OnOk, OnErr}
use Rattle.gx_device.specs.Content.{Silent}
use Rattle.gx_device.specs.Crash.{LeavesOnly}
use Rattle.gx_device.specs.Quiet.{IsOldOrNew}
use Rattle.gx_schema.specs.declared.schema.Schema.{Schema}
use Rattle.gx_commands.specs.declared.command.Command.{Command}
use Rattle.gx_commands.specs.declared.command.Command.TheVariants as command
use Rattle.gx_ports.specs.Calls.{Keeps}
use Rattle.gx_ports.specs.LeafMaps.{LeafMap, Limits, IsCrowdedBy, entry_count}
use Rattle.gx_ports.specs.Stops.{HasStopCause, is_fault}
use Rattle.gx_ports.specs.declared.stop.Stop.{Stop}
use Rattle.gx_ports.specs.declared.stop.Stop.TheVariants as stop
use Rattle.gx_ports.specs.declared.view.View.{Ghosts}
use Rattle.gx_types.specs.declared.built.Built.{Built}
use Rattle.gx_model.specs.States.{State}
use Rattle.gx_model.specs.Commands.{next_state}
use Rattle.gx_model.specs.Play.{Playing, IsAnswered}
use Rattle.gx_engine.specs.declared.engine.Engine.{Engine}
use Rattle.gx_engine.specs.Moments.{AreInternal, MayWantRoom}
use Rattle.gx_states.specs.Internal.{state_entries}
use Rattle.gx_engine.specs.Steps.{schema_of, built_of, leaves_of, stop_of, IsReady, IsAt, IsSound, is_commit}
use Rattle.gx_engine.specs.Crashes.{HoldsFor}
use Rattle.gx_sharing.specs.Kept.{IsClearOf}
use Rattle.gx_sharing.specs.Sharing.{Sharing, answered, view_in, holds, outcome_of, played, play_of, session_after, after_turn}
use Rattle.gx_sessions.specs.declared.session.SessionState.{SessionState}
use Rattle.gx_sessions.specs.Standings.{IsSession, commands_of}

-- the play of all sessions, with this working state
abbrev pub seeing : Sharing → Option State → Playing
seeing p working =
    record { earlier = p.earlier; kept = p.kept; working = working; commits = p.commits }

-- The engine is at the last kept state, with some working state. Where it stands for a session, it
-- is what this one sees.
pub record IsShared {S : Type 0} (g : Ghosts S) (p : Sharing) (carried : Option ℕ)
    (e : Engine S) : Type 0 where
  pub working : Option State
  pub at : IsAt g (seeing p working) e
  pub own : (n : ℕ) → carried ≡ Some n → working ≡ view_in (schema_of e) p.kept (p.session n)

-- what the session sees for which the engine stands; where it stands for none, nothing is open
abbrev pub view_for : Schema → Sharing → Option ℕ → Option State
view_for schema p None = None
view_for schema p (Some n) = view_in schema p.kept (p.session n)

-- the command only reads
abbrev pub is_read : Command → Bool
is_read (command.Get file key) = true
is_read (command.Members link owner order) = true
is_read (command.Owner link member) = true
is_read (command.Find q) = true
is_read _ = false

-- neither the session nor the one for which the engine stands has locked exclusively what the
-- command locks
pub record AreClear (schema : Schema) (p : Sharing) (n : ℕ) (carried : Option ℕ)
    (c : Command) : Type 0 where
  pub own : IsClearOf schema c (holds schema (p.session n))
  pub other : (m : ℕ) → carried ≡ Some m → IsClearOf schema c (holds schema (p.session m))

-- One of these commands, carried out in order on the last kept state, may want room, isn't refused,
-- and the pages may be too few for the entries of the leaves that stand for the state before it
-- and those of the state after it.
pub record IsShortAmong (schema : Schema) (built : Built) (limit : Option Limits) (p : Sharing)
    (cs : List Command) : Type 0 where
  pub before : List Command
  pub command : Command
  pub later : List Command
  pub parts : cs ≡ before ++ command ∷ later
  pub wants : MayWantRoom schema (seeing p (Some (played schema p.kept before))) command
  pub maps : List LeafMap
  pub many : length maps ≡ length built.owners
  pub stands : AreInternal schema built maps (played schema p.kept before)
  pub short : IsCrowdedBy limit (entry_count maps
      + state_entries built (next_state schema (played schema p.kept before) command))

-- The turn of a session with this command is answered, and the pages may be too few for one of the
-- commands of its transaction, this one with them.
abbrev pub IsShortFor : Schema → Built → Option Limits → Sharing → ℕ → Command → Type 0
IsShortFor schema built limit p n c =
    (outcome_of schema p n c ≡ answered)
    × IsShortAmong schema built limit p (commands_of (p.session n) ++ c ∷ [])

-- What steps leave that commit nothing, one after another, and how they end: what was last
-- committed stays, and the engine stands for a moment where it did.
pub record Carries {S : Type 0} (g : Ghosts S) (old new : Engine S)
    (result : Result (Unit {0}) Stop) : Type 0 where
  pub schema : schema_of new ≡ schema_of old
  pub built : built_of new ≡ built_of old
  pub keeps : Keeps g (leaves_of old) (leaves_of new)
  pub whole : OnOk result (g.whole (leaves_of old) → g.kept_whole (leaves_of old)
      → g.whole (leaves_of new))
  pub cause : HasStopCause (g.faults (leaves_of old)) (g.faults (leaves_of new)) (IsSound g old)
      result
  pub block : (n : ℕ) → result ≡ Err (stop.Damaged n) → g.whole (leaves_of old)
      → g.kept_whole (leaves_of old) → n ≡ 0
  pub ready : IsReady g new
  pub going : OnOk result (stop_of new ≡ None)
  pub sound : OnOk result (IsSound g old → IsSound g new)

-- What a turn that reaches the leaves keeps, and how it ends: given up it says nothing, and where
-- that isn't for a fault, or its command is no commit, what was last committed stays. Damage is
-- found only where the leaves stood for no moment, of block 0 where each is whole.
pub record EndsCarry {S T : Type 0} (g : Ghosts S) (c : Command) (old new : Engine S)
    (out now : List ℕ) (result : Result T Stop) : Type 0 where
  pub unsaid : OnErr result (now ≡ out)
  pub schema : schema_of new ≡ schema_of old
  pub built : built_of new ≡ built_of old
  pub leaves : length (g.working (leaves_of new)) ≡ length (g.working (leaves_of old))
  pub limit : g.limit (leaves_of new) ≡ g.limit (leaves_of old)
  pub head : g.head (leaves_of new) ≡ g.head (leaves_of old)
  pub silent : Silent (g.content (leaves_of old)) (g.content (leaves_of new))
  pub quiet : is_commit c ≡ false → Keeps g (leaves_of old) (leaves_of new)
  pub kept : is_fault result ≡ false → OnErr result (Keeps g (leaves_of old) (leaves_of new))
  pub cause : HasStopCause (g.faults (leaves_of old)) (g.faults (leaves_of new)) (IsSound g old)
      result
  pub block : (n : ℕ) → result ≡ Err (stop.Damaged n) → g.whole (leaves_of old)
      → g.kept_whole (leaves_of old) → n ≡ 0
  pub ready : IsReady g new
  pub going : OnOk result (stop_of new ≡ None)

-- What a crash within a turn leaves, where it was calm before: the state that was kept, or the one
-- that is kept after it, which differ for a commit alone; nothing is said in a turn. Unless a call
-- below failed it is calm afterwards.
pub record LeavesTurn {S : Type 0} (g : Ghosts S) (p next : Sharing) (old new : Engine S)
    (failed : Bool) : Type 0 where
  pub images : LeavesOnly (IsOldOrNew (HoldsFor g old p.kept) (HoldsFor g old next.kept)
      (g.content (leaves_of old)).now) (g.content (leaves_of old)) (g.content (leaves_of new))
  pub calm : failed ≡ false → g.calm (leaves_of new) (g.content (leaves_of new))

-- The command of a session was carried out: its answer was appended, and the engine and the session
-- stand for what comes after it.
pub record IsCarriedFor {S : Type 0} (g : Ghosts S) (p : Sharing) (n : ℕ) (c : Command)
    (schema : Schema) (carried : Option ℕ) (e : Engine S) (state : SessionState)
    (out now : List ℕ) : Type 0 where
  pub answer : List ℕ
  pub said : now ≡ out ++ answer
  pub answered_is : IsAnswered schema (play_of schema p n) c answer
  pub shared : IsShared g (after_turn schema p n c answered) carried e
  pub session : IsSession schema (session_after (p.session n) c) state
