-- The lines that end in a piece of a script.
use Rattle.std.specs.Prelude.{◌≡◌, ℕ, ◌+◌, List, [], ◌++◌, drop, Bool, true, false, Option, Some, None}
use Rattle.gx_commands.specs.Lines.{with_line, no_lines}
use Rattle.gx_reader.specs.declared.reader.LineReader.{LineReader}
use Rattle.gx_reader.specs.Reader.{meant, line_of, number_of, left_of, IsOpen}

-- how many bytes were taken of a piece that has so many, and how many lines ended
abbrev pub taken_of : Option ℕ → ℕ → ℕ
taken_of (Some count) all = count
taken_of None all = all

abbrev pub lines_of : Option ℕ → ℕ
lines_of (Some count) = 1
lines_of None = 0

-- the next line, which ends in a piece, or that none does, by what comes behind it
abbrev pub IsNextIn : Option ℕ → List ℕ → List ℕ → LineReader → LineReader → Type 0
IsNextIn (Some count) piece rest old new =
    meant old (piece ++ rest) ≡ with_line (line_of new) (meant new (drop count piece ++ rest))
IsNextIn None piece rest old new = meant old (piece ++ rest) ≡ meant new rest

-- so many bytes were taken, and so many lines ended
pub record Passes (old new : LineReader) (bytes lines : ℕ) : Type 0 where
  pub number : number_of new ≡ number_of old + lines
  pub left : left_of new + bytes ≡ left_of old
  pub stays_open : IsOpen new

-- a piece of so many bytes was taken
pub record IsTaken (bytes : ℕ) (old new : LineReader) : Type 0 where
  pub left : left_of new + bytes ≡ left_of old
  pub stays_open : IsOpen new

-- whether a line is behind the last LF of a script that ended
abbrev pub IsLastLine : Bool → LineReader → LineReader → Type 0
IsLastLine true old new =
    (meant old [] ≡ with_line (line_of new) no_lines) × (number_of new ≡ number_of old + 1)
IsLastLine false old new = (meant old [] ≡ no_lines) × (number_of new ≡ number_of old)
