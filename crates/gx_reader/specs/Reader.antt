-- What a reader of lines makes of what is still to come, however it is cut.
use Rattle.std.specs.Prelude.{◌≡◌, ◌≤◌, ◌+◌, ℕ, List, [], ◌++◌, length, take, ⊤}
use Rattle.gx_commands.specs.declared.lines.TheConstants.{LONGEST_LINE, LONGEST_SCRIPT}
use Rattle.gx_commands.specs.declared.command.LineWhy.TheVariants as why
use Rattle.gx_commands.specs.Lines.{Lines, lines_within, with_line, stopped, no_lines}
use Rattle.gx_reader.specs.Begun.{unended}
use Rattle.gx_reader.specs.declared.reader.LineReader.{LineReader}
use Rattle.gx_reader.specs.declared.reader.Fed.{Fed}
use Rattle.gx_reader.specs.declared.reader.Fed.TheVariants as fed

-- the lines of the bytes of an unended line and those behind them, of a script that may have so
-- many more
abbrev pub meant_of : ℕ → List ℕ → List ℕ → Lines
meant_of left begun rest = lines_within (length begun + left) (begun ++ rest)

-- the bytes of the line that hasn't ended
abbrev pub begun : LineReader → List ℕ
begun r = unended r.ended r.len r.line

-- the lines of what is still to come
abbrev pub meant : LineReader → List ℕ → Lines
meant r rest = meant_of r.left (begun r) rest

abbrev pub left_of : LineReader → ℕ
left_of r = r.left

abbrev pub bytes_of : LineReader → List ℕ
bytes_of r = r.line

-- the line that ended
abbrev pub line_of : LineReader → List ℕ
line_of r = take r.len r.line

-- of how many lines was told
abbrev pub number_of : LineReader → ℕ
number_of r = r.number

-- there were no more lines than bytes, and no more bytes than a script may have
abbrev pub IsOpen : LineReader → Type 0
IsOpen r = r.number + (length (begun r) + r.left) ≤ LONGEST_SCRIPT

-- of how many lines an answer tells
abbrev pub told_lines : Fed → ℕ
told_lines fed.More = 0
told_lines _ = 1

-- what one answer says of what was to come, before and behind some bytes
abbrev pub IsFed : Fed → LineReader → List ℕ → LineReader → List ℕ → Type 0
IsFed fed.More old before new behind = meant old before ≡ meant new behind
IsFed fed.Line old before new behind =
    meant old before ≡ with_line (line_of new) (meant new behind)
IsFed fed.TooLong old before new behind = meant old before ≡ stopped why.TooLong
IsFed fed.ScriptTooLong old before new behind = meant old before ≡ stopped why.ScriptTooLong

-- the last of so many bytes is the first above a limit
abbrev pub PassesLimit : Fed → LineReader → ℕ → Type 0
PassesLimit fed.TooLong old count = length (begun old) + count ≡ LONGEST_LINE + 1
PassesLimit fed.ScriptTooLong old count = count ≡ left_of old + 1
PassesLimit other old count = ⊤

-- what the end of the script says
abbrev pub IsFinished : Fed → LineReader → LineReader → Type 0
IsFinished fed.More old new = meant old [] ≡ no_lines
IsFinished fed.Line old new = meant old [] ≡ with_line (line_of new) no_lines
IsFinished other old new = ⊥
