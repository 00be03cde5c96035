-- Which lines a play reads, whatever it is played on: good ones, and where they end.
use Rattle.std.specs.Prelude.{◌≡◌, ℕ, List, [], ◌++◌, length, Bool, Result, Ok, Err}
use Rattle.gx_schema.specs.declared.schema.Schema.{Schema}
use Rattle.gx_commands.specs.Lines.{Lines, no_lines}
use Rattle.gx_reader.specs.declared.reader.LineReader.{LineReader}
use Rattle.gx_reader.specs.Reader.{meant, number_of}
use Rattle.gx_model.specs.Play.{End, good, stopped}
use Rattle.gx_play.specs.declared.ending.Ending.{Ending}
use Rattle.gx_play.specs.declared.ending.Ending.TheVariants as ending
use Rattle.gx_play.specs.declared.lines.Asked.{Asked}
use Rattle.gx_play.specs.Asked.{IsAsked, inside_behind}
use Rattle.gx_play.specs.ScriptEnds.{AreGood, IsLinesEnd}
use Rattle.gx_play.specs.declared.play.PlayEnd.{PlayEnd}
use Rattle.gx_play.specs.declared.play.PlayEnd.TheVariants as play_end

-- a good line, and whether a transaction is open before it and behind it
pub record IsReadLine (schema : Schema) (line : List ℕ) (inside behind : Bool) : Type 0 where
  pub asked : Asked
  pub means : IsAsked schema inside line asked
  pub behind_is : behind ≡ inside_behind inside asked

-- so many good lines were read, and these are left
pub record IsReadTo (schema : Schema) (begun : Bool) (all left : Lines) (number : ℕ)
    (inside : Bool) : Type 0 where
  pub ran : List (List ℕ)
  pub many : length ran ≡ number
  pub lines_are : all.lines ≡ ran ++ left.lines
  pub stop_is : all.stop ≡ left.stop
  pub good : AreGood schema begun ran inside

-- the lines end where their play does, unless it is given up
abbrev pub IsReadOut : Schema → Bool → Lines → Result (Unit {0}) PlayEnd → Type 0
IsReadOut schema begun all (Ok x) = IsLinesEnd schema begun all good
IsReadOut schema begun all (Err (play_end.Line number why)) =
    IsLinesEnd schema begun all (stopped number why)
IsReadOut schema begun all (Err (play_end.Stop stop)) = Unit {0}

-- the same, or the lines are read on
abbrev pub IsReadOn : Schema → Bool → Lines → Lines → ℕ → Bool → Result (Unit {0}) PlayEnd → Type 0
IsReadOn schema begun all left number inside (Ok x) = IsReadTo schema begun all left number inside
IsReadOn schema begun all left number inside (Err end) = IsReadOut schema begun all (Err end)

-- a piece is read on, whatever comes behind it
abbrev pub ReadsPiece : Schema → List ℕ → LineReader → LineReader → Bool → Bool
    → Result (Unit {0}) PlayEnd → Type 0
ReadsPiece schema piece reader then inside behind result =
    (begun : Bool) (all : Lines) (rest : List ℕ)
    → IsReadTo schema begun all (meant reader (piece ++ rest)) (number_of reader) inside
    → IsReadOn schema begun all (meant then rest) (number_of then) behind result

-- the same of the line behind the last LF, where nothing more comes
abbrev pub ReadsLast : Schema → LineReader → LineReader → Bool → Bool → Result (Unit {0}) PlayEnd
    → Type 0
ReadsLast schema reader then inside behind result =
    (begun : Bool) (all : Lines)
    → IsReadTo schema begun all (meant reader []) (number_of reader) inside
    → IsReadOn schema begun all no_lines (number_of then) behind result

-- and of all that is left
abbrev pub ReadsRest : Schema → LineReader → Bool → Result (Unit {0}) PlayEnd → Type 0
ReadsRest schema reader inside result =
    (begun : Bool) (all : Lines)
    → IsReadTo schema begun all (meant reader []) (number_of reader) inside
    → IsReadOut schema begun all result

-- what is said of the end of lines is so of the end of the request, unless the play is given up
abbrev pub EndsAs : (End → Type 0) → Result (Unit {0}) Ending → Type 0
EndsAs Ends (Ok x) = Ends good
EndsAs Ends (Err (ending.Line number why)) = Ends (stopped number why)
EndsAs Ends (Err other) = Unit {0}
