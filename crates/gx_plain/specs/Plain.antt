-- What contracts say of the plain program.
use Rattle.std.specs.Prelude.{◌≡◌, ℕ, ◌<◌, List, ◌++◌, length, Bool, Option, None, Some, Err}
use Rattle.std.specs.Option.{option_map}
use Rattle.gx_schema.specs.declared.schema.Schema.{Schema}
use Rattle.gx_commands.specs.declared.command.Command.{Command}
use Rattle.gx_commands.specs.declared.command.LineWhy.{LineWhy}
use Rattle.gx_commands.specs.declared.command.Of.{Of}
use Rattle.gx_commands.specs.declared.path.Leg.{Leg}
use Rattle.gx_commands.specs.Paths.{link_of}
use Rattle.gx_commands.specs.Lines.{Lines, script_lines}
use Rattle.gx_script.specs.Paths.{is_path, IsPathReading}
use Rattle.gx_model.specs.States.{State, empty_state}
use Rattle.gx_model.specs.Commands.{refusal_of, refusal_text}
use Rattle.gx_model.specs.Play.{Playing, End, good, stopped, start_at}
use Rattle.gx_model.specs.Languages.{RunsIn, IsPlayIn}
use Rattle.gx_model.specs.Paths.{PathOr, with_paths}
use Rattle.gx_model.specs.Runs.{IsBadLine as IsBadCommandLine}
use Rattle.gx_plain.specs.declared.plain.Moment.{Moment}
use Rattle.gx_plain.specs.declared.plain.PlayEnd.{PlayEnd}
use Rattle.gx_plain.specs.declared.plain.PlayEnd.TheVariants as play_end

-- ---- commands

-- a file for each of the schema, and a link for each
pub record HasParts (schema : Schema) (s : State) : Type 0 where
  pub files : length s.files ≡ length schema.files
  pub links : length s.links ≡ length schema.links

-- the line that says why a command is refused, where it is
abbrev pub refusal_line : Schema → State → Command → Option (List ℕ)
refusal_line schema s c = option_map refusal_text (refusal_of schema s c)

-- the link that is named, if one is, is there
abbrev pub IsOfLink : State → Option Of → Type 0
IsOfLink s None = Unit {0}
IsOfLink s (Some of) = of.link < length s.links

-- ---- paths

-- the link and the file of the leg are there
pub record IsLegIn (s : State) (leg : Leg) : Type 0 where
  pub link : link_of leg.way < length s.links
  pub file : leg.find.file < length s.files

-- ---- lines

-- the moment is one of the play
pub record IsMoment (m : Moment) (p : Playing) : Type 0 where
  pub kept : m.kept ≡ p.kept
  pub working : m.working ≡ p.working
  pub commits : m.commits ≡ p.commits

abbrev pub IfParts : Schema → Option State → Type 0
IfParts schema None = Unit {0}
IfParts schema (Some s) = HasParts schema s

-- the states have a file for each of the schema, and a link for each
pub record IsOf (schema : Schema) (m : Moment) : Type 0 where
  pub kept : HasParts schema m.kept
  pub working : IfParts schema m.working

-- the line means neither a path nor a command that may stand there
abbrev pub IsBadLine : Schema → Bool → List ℕ → LineWhy → Type 0
IsBadLine schema inside line why =
    PathOr (is_path line) (IsPathReading schema line (Err why))
    (IsBadCommandLine schema inside line why)

-- the line is a step of the play, the text is its answer, and the moment is that after it
pub record IsLineDone (schema : Schema) (p : Playing) (line text : List ℕ)
    (m : Moment) : Type 0 where
  pub next : Playing
  pub step : (with_paths schema).Goes p line text next
  pub at : IsMoment m next

-- ---- scripts

abbrev pub end_of : PlayEnd → End
end_of play_end.Good = good
end_of (play_end.Stopped number why) = stopped number why

-- the answers of the script's play on the empty state and its end, whatever its last states are
abbrev pub IsPlayedOut : Schema → List ℕ → List ℕ × PlayEnd → Type 0
IsPlayedOut schema script x =
    (final : Playing)
    × IsPlayIn (with_paths schema) (start_at (empty_state schema)) (script_lines script) x.0 final
    (end_of x.1)

-- so many first lines of the script ran, and these are left
pub record IsSoFar (schema : Schema) (script said : List ℕ) (m : Moment) (left : Lines)
    (number : ℕ) : Type 0 where
  pub ran : List (List ℕ)
  pub many : length ran ≡ number
  pub lines_are : (script_lines script).lines ≡ ran ++ left.lines
  pub stop_is : (script_lines script).stop ≡ left.stop
  pub now : Playing
  pub runs : RunsIn (with_paths schema) (start_at (empty_state schema)) ran said now
  pub at : IsMoment m now
