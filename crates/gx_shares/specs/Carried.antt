-- What one line of a script of turns does, in one record, and where the lines stand behind it.
use Rattle.std.specs.Prelude.{◌≡◌, ℕ, List, ◌∷◌, [], ◌++◌, Bool, true, IsTrue, None, Result, Ok, Err, OnOk}
use Rattle.gx_device.specs.Content.{Content}
use Rattle.gx_commands.specs.declared.command.Command.{Command}
use Rattle.gx_commands.specs.declared.command.Command.TheVariants as command
use Rattle.gx_commands.specs.Commands.{place_reason, inside_after}
use Rattle.gx_script.specs.Grammar.{IsLineOf}
use Rattle.gx_ports.specs.declared.stop.Stop.{Stop}
use Rattle.gx_ports.specs.declared.view.View.{Ghosts}
use Rattle.gx_model.specs.Runs.{IsBadLine}
use Rattle.gx_engine.specs.Steps.{built_of as engine_built, is_commit}
use Rattle.gx_sharing.specs.Sharing.{Sharing, answered, outcome_of}
use Rattle.gx_sharing.specs.Turns.{Turn}
use Rattle.gx_sharing.specs.Texts.{IsLinePlayed}
use Rattle.gx_sessions.specs.declared.sessions.Sessions.{Sessions}
use Rattle.gx_sessions.specs.Standings.{commands_of}
use Rattle.gx_sessions.specs.Shared.{IsShortAmong}
use Rattle.gx_sessions.specs.Turns.{engine_of, schema_of, leaves_of, stop_of, AreShared, IsNumber, MovesTo, is_in_at}
use Rattle.gx_play.specs.declared.carry.LineEnd.{LineEnd}
use Rattle.gx_play.specs.declared.carry.LineEnd.TheVariants as line_end
use Rattle.gx_play.specs.declared.play.PlayEnd.{PlayEnd}
use Rattle.gx_play.specs.declared.play.PlayEnd.TheVariants as play_end
use Rattle.gx_play.specs.Plays.{CountsFailed, is_line_fault}
use Rattle.gx_shares.specs.Player.{IsCommitOf, IsShortLine}
use Rattle.gx_shares.specs.Ends.{IsLineRead, IsLineBad}
use Rattle.gx_shares.specs.Steps.{IsTurnOf, IsTurnLine, IsShortTurn, IsStepped, IsStepCut, LeavesStep, KeepsSessions}

-- how a line ended, where a stop is all that can end it
abbrev pub as_line : Result (Unit {0}) Stop → Result (Unit {0}) LineEnd
as_line (Ok x) = Ok x
as_line (Err why) = Err (line_end.Stop why)

-- how the play ends where the line of this number ended so
abbrev pub as_play : ℕ → Result (Unit {0}) LineEnd → Result (Unit {0}) PlayEnd
as_play number (Ok x) = Ok x
as_play number (Err (line_end.Bad why)) = Err (play_end.Line number why)
as_play number (Err (line_end.Stop why)) = Err (play_end.Stop why)

-- ---- a step

-- it was carried out, or given up, or it was bad, and then nothing happened
abbrev pub IsStepEnd : {S : Type 0} → Ghosts S → (List Turn → Sharing → Type 0) → Type 0 → Type 0
    → Sessions S → Sessions S → Result (Unit {0}) LineEnd → Type 0
IsStepEnd g Goes Commit Short old new (Ok x) = IsStepped g Goes old new
IsStepEnd g Goes Commit Short old new (Err (line_end.Stop why)) =
    IsStepCut g Goes Commit Short old new why
IsStepEnd g Goes Commit Short old new (Err (line_end.Bad why)) = new ≡ old

-- What a step does, from each moment that the sessions stand for: how it ends, and what a crash
-- leaves. What it keeps, and how it counts failures, whatever they stand for.
pub record IsStep {S : Type 0} (g : Ghosts S) (Goes : Sharing → List Turn → Sharing → Type 0)
    (Commit : Type 0) (Short : Sharing → Type 0) (old new : Sessions S)
    (result : Result (Unit {0}) LineEnd) : Type 0 where
  pub ends : IsTrue g.tells → (p : Sharing) → AreShared g p old
      → IsStepEnd g (Goes p) Commit (Short p) old new result
  pub images : IsTrue g.tells → (p : Sharing) → AreShared g p old → (start : Content)
      → g.calm (leaves_of old) start
      → LeavesStep g (Goes p) p.kept (is_line_fault result) old new
  pub keeps : KeepsSessions g old new
  pub counts : CountsFailed (g.faults (leaves_of old)) (g.faults (leaves_of new))
      (is_line_fault result)
  pub going : OnOk result (stop_of new ≡ None)

-- the pages may be too few for one of these commands, on the leaves of the sessions
abbrev pub IsShortOn : {S : Type 0} → Ghosts S → Sessions S → Sharing → List Command → Type 0
IsShortOn g s = IsShortAmong (schema_of s) (engine_built (engine_of s)) (g.limit (leaves_of s))

-- the step is the turn of a session with this command, from this line
abbrev pub IsCommandStep : {S : Type 0} → Ghosts S → Sessions S → Sessions S → ℕ → Command → List ℕ
    → Result (Unit {0}) LineEnd → Type 0
IsCommandStep g old new n c line =
    IsStep g (λ p. IsTurnOf (schema_of old) p n line c) (is_commit c ≡ true)
    (λ p. (outcome_of (schema_of old) p n c ≡ answered)
    × IsShortOn g old p (commands_of (p.session n) ++ c ∷ [])) old new

-- the same with the command of this line
abbrev pub IsTurnLineStep : {S : Type 0} → Ghosts S → Sessions S → Sessions S → ℕ → List ℕ
    → Result (Unit {0}) LineEnd → Type 0
IsTurnLineStep g old new n line =
    IsStep g (λ p. IsTurnLine (schema_of old) p n line) (IsLineOf (schema_of old) line command.Commit)
    (λ p. IsShortTurn (schema_of old) (IsShortOn g old) p n line) old new

-- a line of the script
abbrev pub IsLineStep : {S : Type 0} → Ghosts S → Sessions S → Sessions S → List ℕ
    → Result (Unit {0}) LineEnd → Type 0
IsLineStep g old new line =
    IsStep g (λ p. IsLinePlayed (schema_of old) p line) (IsCommitOf (schema_of old) line)
    (λ p. IsShortLine (schema_of old) (IsShortOn g old) p line) old new

-- ---- the lines alone

-- the line of a session has a command that may stand where this one is, and behind it the session is
-- where the command leads; or the line is bad there
abbrev pub IsReadTurn : {S : Type 0} → Sessions S → Sessions S → ℕ → List ℕ
    → Result (Unit {0}) LineEnd → Type 0
IsReadTurn old new n line (Ok x) =
    (c : Command) × IsLineOf (schema_of old) line c × (place_reason (is_in_at old n) c ≡ None)
    × MovesTo old new n (inside_after (is_in_at old n) c)
IsReadTurn old new n line (Err (line_end.Bad why)) =
    IsBadLine (schema_of old) (is_in_at old n) line why
IsReadTurn old new n line (Err (line_end.Stop why)) = Unit {0}

-- the same of a line of the script
abbrev pub IsReadLine : {S : Type 0} → Sessions S → Sessions S → List ℕ
    → Result (Unit {0}) LineEnd → Type 0
IsReadLine old new line (Ok x) =
    (behind : ℕ → Bool) × IsLineRead (schema_of old) (is_in_at old) line behind
    × ((n : ℕ) → IsNumber n → is_in_at new n ≡ behind n)
IsReadLine old new line (Err (line_end.Bad why)) =
    IsLineBad (schema_of old) (is_in_at old) line why
IsReadLine old new line (Err (line_end.Stop why)) = Unit {0}
