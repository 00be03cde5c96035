-- Where a script of turns ends by its lines alone, whatever state it is played from.
use Rattle.std.specs.Prelude.{◌≡◌, ◌⊎◌, ℕ, ◌==◌, List, [], Bool, false, Some, None, Ok, Err, if◌then◌else◌}
use Rattle.std.specs.List.{list_any}
use Rattle.gx_schema.specs.declared.schema.Schema.{Schema}
use Rattle.gx_commands.specs.declared.command.Command.{Command}
use Rattle.gx_commands.specs.declared.command.LineWhy.{LineWhy}
use Rattle.gx_commands.specs.Commands.{inside_after, place_reason}
use Rattle.gx_commands.specs.Lines.{script_lines}
use Rattle.gx_commands.specs.Turns.{IsTurn}
use Rattle.gx_script.specs.Grammar.{IsLineOf}
use Rattle.gx_model.specs.Play.{End}
use Rattle.gx_model.specs.Languages.{Language, IsPlayIn}
use Rattle.gx_model.specs.Runs.{IsBadLine}
use Rattle.gx_sharing.specs.Sharing.{sessions}

-- which sessions are in a transaction, behind the command of one
abbrev pub within_after : (ℕ → Bool) → ℕ → Command → ℕ → Bool
within_after within n c m = if m == n then inside_after (within n) c else within m

-- a line that is no turn, or the turn of a session with a command that may stand there
pub record IsTurnRead (schema : Schema) (within : ℕ → Bool) (line : List ℕ)
    (behind : ℕ → Bool) : Type 0 where
  pub session : ℕ
  pub rest : List ℕ
  pub is_turn : IsTurn line (Ok (Some (session, rest)))
  pub command : Command
  pub means : IsLineOf schema rest command
  pub placed : place_reason (within session) command ≡ None
  pub behind_is : behind ≡ within_after within session command

abbrev pub IsLineRead : Schema → (ℕ → Bool) → List ℕ → (ℕ → Bool) → Type 0
IsLineRead schema within line behind =
    (IsTurn line (Ok None) × (behind ≡ within)) ⊎ IsTurnRead schema within line behind

-- it should be a turn, or the line of its session is bad there
abbrev pub IsLineBad : Schema → (ℕ → Bool) → List ℕ → LineWhy → Type 0
IsLineBad schema within line why =
    IsTurn line (Err why)
    ⊎ ((session : ℕ) × (rest : List ℕ) × IsTurn line (Ok (Some (session, rest)))
    × IsBadLine schema (within session) rest why)

-- lines of turns, by which sessions are in a transaction; none of them answers
abbrev pub turn_lines : Schema → Language (ℕ → Bool) ℕ
turn_lines schema = record {
  Goes = λ within line answers behind. (answers ≡ []) × IsLineRead schema within line behind;
  IsBad = λ within line why. IsLineBad schema within line why;
  is_open = λ within. list_any within sessions;
}

-- the end of a script: at its first bad line, or at its last one where all are good and a session is
-- in a transaction behind them; else it is good
abbrev pub IsShareEnd : Schema → List ℕ → End → Type 0
IsShareEnd schema script end =
    (answers : List ℕ) × (behind : ℕ → Bool)
    × IsPlayIn (turn_lines schema) (λ n. false) (script_lines script) answers behind end
