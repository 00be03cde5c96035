-- The language of commands, and the play of a script in it.
use Rattle.std.specs.Prelude.{◌≡◌, ◌⊎◌, ℕ, List, Bool, Option, Some, None, Result, Err}
use Rattle.gx_schema.specs.declared.schema.Schema.{Schema}
use Rattle.gx_commands.specs.declared.command.Command.{Command}
use Rattle.gx_commands.specs.declared.command.LineWhy.{LineWhy}
use Rattle.gx_commands.specs.Commands.{place_reason}
use Rattle.gx_commands.specs.Lines.{Lines}
use Rattle.gx_script.specs.Grammar.{IsLineOf}
use Rattle.gx_script.specs.Reading.{IsReading}
use Rattle.gx_model.specs.Play.{Playing, End, is_inside, after_command, IsAnswered}
pub use Rattle.gx_model.specs.Languages.{AreFirstLines}
use Rattle.gx_model.specs.Languages.{Language, RunsIn, IsEndIn, IsPlayIn, IsPlayTextIn, AreFirstAnswersIn}

-- a good line that may stand where the play is: the command that it means, its answer, and the play
-- after it
pub record Step (schema : Schema) (p : Playing) (line answer : List ℕ)
    (next : Playing) : Type 0 where
  pub command : Command
  pub means : IsLineOf schema line command
  pub allowed : place_reason (is_inside p) command ≡ None
  pub answered : IsAnswered schema p command answer
  pub next_is : next ≡ after_command schema p command

-- the line means no command, or one that may not stand there
abbrev pub IsBadLine : Schema → Bool → List ℕ → LineWhy → Type 0
IsBadLine schema inside line why =
    IsReading schema line (Err why)
    ⊎ ((command : Command) × IsLineOf schema line command
    × (place_reason inside command ≡ Some why))

-- each line means a command
abbrev pub commands : Schema → Language Playing ℕ
commands schema = record {
  Goes = λ p line answer next. Step schema p line answer next;
  IsBad = λ p line why. IsBadLine schema (is_inside p) line why;
  is_open = λ p. is_inside p;
}

-- ---- the play of commands

abbrev pub Runs : Schema → Playing → List (List ℕ) → List ℕ → Playing → Type 0
Runs schema = RunsIn (commands schema)

abbrev pub IsEnd : Schema → Playing → ℕ → Result (Option (List ℕ)) LineWhy → End → Type 0
IsEnd schema = IsEndIn (commands schema)

abbrev pub IsPlayFrom : Schema → Playing → Lines → List ℕ → Playing → End → Type 0
IsPlayFrom schema = IsPlayIn (commands schema)

abbrev pub IsPlayTextFrom : Schema → Playing → List ℕ → List ℕ → Type 0
IsPlayTextFrom schema = IsPlayTextIn (commands schema)

abbrev pub AreFirstAnswersFrom : Schema → Playing → List ℕ → List ℕ → Type 0
AreFirstAnswersFrom schema = AreFirstAnswersIn (commands schema)
