-- What a line of a script asks for, a command or a path, and the play of such lines.
use Rattle.std.specs.Prelude.{◌≡◌, ℕ, ◌^◌, ◌<◌, List, length, Bool, true, false, Option, None, Result, Err}
use Rattle.gx_schema.specs.declared.schema.Schema.{Schema}
use Rattle.gx_commands.specs.declared.command.LineWhy.{LineWhy}
use Rattle.gx_commands.specs.Commands.{IsOfSchema, conds_of, place_reason, inside_after}
use Rattle.gx_commands.specs.Lines.{Lines}
use Rattle.gx_script.specs.Grammar.{IsLineOf}
use Rattle.gx_script.specs.Paths.{is_path, IsPathLine, IsPathReading}
use Rattle.gx_model.specs.Play.{Playing, End, seen_state, after_command, IsAnswered}
use Rattle.gx_model.specs.Languages.{RunsIn, IsEndIn, IsPlayIn, AreFirstAnswersIn}
use Rattle.gx_model.specs.Runs.{IsBadLine as IsBadCommandLine}
use Rattle.gx_model.specs.Paths.{PathOr, path_text, with_paths}
use Rattle.gx_walks.specs.Directions.{IsDuePath}
use Rattle.gx_engine.specs.Steps.{is_commit as is_commit_command}
use Rattle.gx_play.specs.declared.lines.Asked.{Asked}
use Rattle.gx_play.specs.declared.lines.Asked.TheVariants as asked

-- ---- a line

-- a line whose first word is `path` asks for a path, and each other for a command, which may stand
-- there
abbrev pub IsAsked : Schema → Bool → List ℕ → Asked → Type 0
IsAsked schema inside line (asked.Command c) =
    (is_path line ≡ false) × IsLineOf schema line c × (place_reason inside c ≡ None)
IsAsked schema inside line (asked.Path q) = (is_path line ≡ true) × IsPathLine schema line q

-- it is of the schema, and a plan can number its conditions
abbrev pub IsAskedOf : Schema → Asked → Type 0
IsAskedOf schema (asked.Command c) = IsOfSchema schema c × (length (conds_of c) < 2 ^ 16)
IsAskedOf schema (asked.Path q) = IsDuePath schema q

-- the text is what is answered
abbrev pub IsAnsweredTo : Schema → Playing → Asked → List ℕ → Type 0
IsAnsweredTo schema p (asked.Command c) text = IsAnswered schema p c text
IsAnsweredTo schema p (asked.Path q) text = text ≡ path_text schema (seen_state p) q

-- what comes after it: a path changes nothing
abbrev pub after_asked : Schema → Playing → Asked → Playing
after_asked schema p (asked.Command c) = after_command schema p c
after_asked schema p (asked.Path q) = p

-- whether a transaction is open behind it
abbrev pub inside_behind : Bool → Asked → Bool
inside_behind inside (asked.Command c) = inside_after inside c
inside_behind inside (asked.Path q) = inside

abbrev pub is_commit : Asked → Bool
is_commit (asked.Command c) = is_commit_command c
is_commit (asked.Path q) = false

-- ---- the play of lines

-- a good line, its answer, and the play behind it
abbrev pub Step : Schema → Playing → List ℕ → List ℕ → Playing → Type 0
Step schema p line answer next = (with_paths schema).Goes p line answer next

-- the line means neither a path nor a command that may stand there
abbrev pub IsBadLine : Schema → Bool → List ℕ → LineWhy → Type 0
IsBadLine schema inside line why =
    PathOr (is_path line) (IsPathReading schema line (Err why))
    (IsBadCommandLine schema inside line why)

abbrev pub Runs : Schema → Playing → List (List ℕ) → List ℕ → Playing → Type 0
Runs schema = RunsIn (with_paths schema)

abbrev pub IsEnd : Schema → Playing → ℕ → Result (Option (List ℕ)) LineWhy → End → Type 0
IsEnd schema = IsEndIn (with_paths schema)

abbrev pub IsPlayFrom : Schema → Playing → Lines → List ℕ → Playing → End → Type 0
IsPlayFrom schema = IsPlayIn (with_paths schema)

abbrev pub AreFirstAnswersFrom : Schema → Playing → List ℕ → List ℕ → Type 0
AreFirstAnswersFrom schema = AreFirstAnswersIn (with_paths schema)
