-- The play of a script of turns, as requests see it.
use Rattle.std.specs.Prelude.{◌≡◌, ℕ, ◌+◌, ◌≤◌, List, [], ◌∷◌, ◌++◌, length, take, Ok, Some, None, Option}
use Rattle.std.specs.List.{flat_map}
use Rattle.gx_ports.specs.LeafMaps.{Limits, IsCrowdedBy}
use Rattle.gx_schema.specs.declared.schema.Schema.{Schema}
use Rattle.gx_commands.specs.declared.command.Command.{Command}
use Rattle.gx_commands.specs.declared.command.Command.TheVariants as command
use Rattle.gx_commands.specs.Commands.{place_reason}
use Rattle.gx_commands.specs.Lines.{script_lines}
use Rattle.gx_commands.specs.Turns.{IsTurn}
use Rattle.gx_script.specs.Grammar.{IsLineOf}
use Rattle.gx_equation.specs.Trees.{DefinitionTree}
use Rattle.gx_types.specs.declared.built.Built.{Built}
use Rattle.gx_states.specs.Terms.{state_size}
use Rattle.gx_model.specs.States.{State}
use Rattle.gx_model.specs.Commands.{next_state}
use Rattle.gx_model.specs.Languages.{RunsIn, IsPlayIn}
use Rattle.gx_engine.specs.Moments.{MayWantRoom}
use Rattle.gx_sharing.specs.Sharing.{Sharing, answered, share_start, played, is_in, outcome_of}
use Rattle.gx_sharing.specs.Turns.{Turn}
use Rattle.gx_sharing.specs.Texts.{turns, turn_text}
use Rattle.gx_sessions.specs.Standings.{commands_of}
use Rattle.gx_sessions.specs.Shared.{seeing, IsShortAmong}
use Rattle.gx_play.specs.Player.{Play}

-- what turns say, one after the other
abbrev pub texts_of : List Turn → List ℕ
texts_of ts = flat_map turn_text ts

-- ---- first turns

-- the first lines of a script from a state on: their turns, and where the sessions stand behind
-- them
pub record AreFirstTurns (schema : Schema) (start : State) (script : List ℕ) (ts : List Turn)
    (m : Sharing) : Type 0 where
  pub ran : List (List ℕ)
  pub later : List (List ℕ)
  pub parts : (script_lines script).lines ≡ ran ++ later
  pub runs : RunsIn (turns schema) (share_start start) ran ts m

-- what was said of turns: all that they say, but perhaps an end of what the last one says
pub record AreToldOf (ts : List Turn) (told : List ℕ) : Type 0 where
  pub first : List Turn
  pub last : List Turn
  pub one : length last ≤ 1
  pub turns_are : ts ≡ first ++ last
  pub count : ℕ
  pub told_is : told ≡ texts_of first ++ take count (texts_of last)

-- ---- the next turn

-- the line is a commit of a session
abbrev pub IsCommitOf : Schema → List ℕ → Type 0
IsCommitOf schema line =
    (session : ℕ) × (rest : List ℕ) × IsTurn line (Ok (Some (session, rest)))
    × IsLineOf schema rest command.Commit

-- the first of these lines is
abbrev pub IsCommitNext : Schema → List (List ℕ) → Type 0
IsCommitNext schema lines =
    (line : List ℕ) × (later : List (List ℕ)) × (lines ≡ line ∷ later) × IsCommitOf schema line

-- The line is a turn with a command that may stand where its session is, and it is answered. The
-- pages may be too few for one of the commands of the session's transaction, this one with them.
pub record IsShortLine (schema : Schema) (Short : Sharing → List Command → Type 0) (p : Sharing)
    (line : List ℕ) : Type 0 where
  pub session : ℕ
  pub rest : List ℕ
  pub is_turn : IsTurn line (Ok (Some (session, rest)))
  pub command : Command
  pub means : IsLineOf schema rest command
  pub placed : place_reason (is_in (p.session session)) command ≡ None
  pub is_answered : outcome_of schema p session command ≡ answered
  pub short : Short p (commands_of (p.session session) ++ command ∷ [])

-- the first of these lines is so
abbrev pub IsShortNext : Schema → (Sharing → List Command → Type 0) → Sharing → List (List ℕ)
    → Type 0
IsShortNext schema Short p lines =
    (line : List ℕ) × (later : List (List ℕ)) × (lines ≡ line ∷ later)
    × IsShortLine schema Short p line

-- One of these commands, carried out in order on the last kept state, may want room, isn't refused,
-- and the pages may be too few for the entries of the state before it and those of the state after
-- it, in the leaves of the definitions.
pub record IsShortIn (schema : Schema) (ds : List DefinitionTree) (limit : Option Limits)
    (p : Sharing) (cs : List Command) : Type 0 where
  pub before : List Command
  pub command : Command
  pub later : List Command
  pub parts : cs ≡ before ++ command ∷ later
  pub wants : MayWantRoom schema (seeing p (Some (played schema p.kept before))) command
  pub short : IsCrowdedBy limit (state_size schema ds (played schema p.kept before)
      + state_size schema ds (next_state schema (played schema p.kept before) command))

-- ---- the play

-- what is said of first turns, and where the sessions stand behind them
pub record IsToldFront (schema : Schema) (start : State) (script told : List ℕ)
    (m : Sharing) : Type 0 where
  pub ts : List Turn
  pub first : AreFirstTurns schema start script ts m
  pub told_of : AreToldOf ts told

-- whole, where what is left of the script is so
pub record IsSaidBefore (schema : Schema) (start : State) (script : List ℕ)
    (Next : Sharing → List (List ℕ) → Type 0) (answers : List ℕ) (m : Sharing) : Type 0 where
  pub ts : List Turn
  pub first : AreFirstTurns schema start script ts m
  pub answers_are : answers ≡ texts_of ts
  pub next : Next m first.later

-- the play of a script of turns, where the pages may be too few as is told
abbrev pub turn_play : Schema → (Sharing → List Command → Type 0) → State → List ℕ → Play Sharing
turn_play schema Short start script = record {
  kept = λ m. m.kept;
  Ends = λ end answers m. (ts : List Turn)
      × IsPlayIn (turns schema) (share_start start) (script_lines script) ts m end
      × (answers ≡ texts_of ts);
  First = λ answers m. IsSaidBefore schema start script (λ p lines. Unit {0}) answers m;
  Full = λ answers m. IsSaidBefore schema start script (IsShortNext schema Short) answers m;
  Commits = λ answers m.
      IsSaidBefore schema start script (λ p lines. IsCommitNext schema lines) answers m;
  Front = λ told m. IsToldFront schema start script told m;
}

-- the same by the entries of the states alone
abbrev pub share_play : Schema → List DefinitionTree → Option Limits → State → List ℕ
    → Play Sharing
share_play schema ds limit = turn_play schema (IsShortIn schema ds limit)

-- and by those of leaves that stand for them
abbrev pub share_over_play : Schema → Built → Option Limits → State → List ℕ → Play Sharing
share_over_play schema built limit = turn_play schema (IsShortAmong schema built limit)
