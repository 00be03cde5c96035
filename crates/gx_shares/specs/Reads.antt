-- Where the lines of a script of turns that comes in pieces stand, and how they end.
use Rattle.std.specs.Prelude.{◌≡◌, ℕ, ◌+◌, List, [], ◌++◌, false, Result}
use Rattle.gx_schema.specs.declared.schema.Schema.{Schema}
use Rattle.gx_commands.specs.Lines.{Lines, with_line, no_lines}
use Rattle.gx_reader.specs.declared.reader.LineReader.{LineReader}
use Rattle.gx_reader.specs.Reader.{meant, number_of}
use Rattle.gx_sessions.specs.declared.sessions.Sessions.{Sessions}
use Rattle.gx_sessions.specs.Turns.{IsNumber, is_in_at}
use Rattle.gx_play.specs.declared.ending.Ending.{Ending}
use Rattle.gx_play.specs.declared.play.PlayEnd.{PlayEnd}
use Rattle.gx_play.specs.Readings.{EndsAs}
use Rattle.gx_shares.specs.Ends.{IsShareEnd}
use Rattle.gx_shares.specs.Going.{ended_as, IsReadTo, IsReadOn}

-- A line is read on in every script that comes to it, as the one of this number.
abbrev pub ReadsLine : {S : Type 0} → ℕ → List ℕ → Sessions S → Sessions S
    → Result (Unit {0}) PlayEnd → Type 0
ReadsLine number line old new result =
    (schema : Schema) (script : List ℕ) (before left : Lines) (ran : ℕ)
    → before ≡ with_line line left → number ≡ ran + 1 → IsReadTo schema script before ran old
    → IsReadOn schema script left number new result

-- A piece is read on in every script that comes to it, whatever comes behind it.
abbrev pub ReadsPiece : {S : Type 0} → List ℕ → LineReader → LineReader → Sessions S → Sessions S
    → Result (Unit {0}) PlayEnd → Type 0
ReadsPiece piece reader then old new result =
    (schema : Schema) (script rest : List ℕ)
    → IsReadTo schema script (meant reader (piece ++ rest)) (number_of reader) old
    → IsReadOn schema script (meant then rest) (number_of then) new result

-- the same of the line behind the last LF, where nothing more comes
abbrev pub ReadsLast : {S : Type 0} → LineReader → LineReader → Sessions S → Sessions S
    → Result (Unit {0}) PlayEnd → Type 0
ReadsLast reader then old new result =
    (schema : Schema) (script : List ℕ)
    → IsReadTo schema script (meant reader []) (number_of reader) old
    → IsReadOn schema script no_lines (number_of then) new result

-- and of all that is left
abbrev pub ReadsRest : {S : Type 0} → LineReader → Sessions S → Result (Unit {0}) PlayEnd → Type 0
ReadsRest reader old result =
    (schema : Schema) (script : List ℕ)
    → IsReadTo schema script (meant reader []) (number_of reader) old
    → EndsAs (IsShareEnd schema script) (ended_as result)

-- and of a whole script, from sessions that are all outside, by how the request ends
abbrev pub ReadsOut : {S : Type 0} → Schema → List ℕ → Sessions S → Result (Unit {0}) Ending
    → Type 0
ReadsOut schema script old result =
    ((n : ℕ) → IsNumber n → is_in_at old n ≡ false) → EndsAs (IsShareEnd schema script) result

-- the same by how the play does
abbrev pub ReadsHeard : {S : Type 0} → Schema → List ℕ → Sessions S → Result (Unit {0}) PlayEnd
    → Type 0
ReadsHeard schema script old result = ReadsOut schema script old (ended_as result)
