-- The lines of a script, and its limits.
use Rattle.std.specs.Prelude.{◌≡◌, ◌≢◌, ℕ, Bool, true, false, List, [], ◌∷◌, ◌++◌, length, take, Option, Some, None, Result, Ok, Err, nat_lt, ◌==◌, if◌then◌else◌}
use Rattle.std.specs.List.{AllByRecursion, flat_map}
use Rattle.gx_commands.specs.declared.lines.TheConstants.{LONGEST_LINE, LONGEST_SCRIPT}
use Rattle.gx_commands.specs.declared.command.LineWhy.{LineWhy}
use Rattle.gx_commands.specs.declared.command.LineWhy.TheVariants as why

-- how many bytes a line may have, with a CR and without its LF, and a script
unfoldable pub longest_line : ℕ
longest_line = LONGEST_LINE

unfoldable pub longest_script : ℕ
longest_script = LONGEST_SCRIPT

-- the lines that an LF ends, each without it, and the bytes behind the last LF
pub record Parts : Type 0 where
  pub ended : List (List ℕ)
  pub rest : List ℕ

abbrev pub with_first_byte : ℕ → List (List ℕ) → List ℕ → Parts
with_first_byte b [] rest = record { ended = []; rest = b ∷ rest }
with_first_byte b (line ∷ lines) rest = record { ended = (b ∷ line) ∷ lines; rest = rest }

abbrev pub parts_of : List ℕ → Parts
parts_of [] = record { ended = []; rest = [] }
parts_of (b ∷ bs) =
    let parts = parts_of bs in
    if b == 10 then record { ended = [] ∷ parts.ended; rest = parts.rest }
    else with_first_byte b parts.ended parts.rest

-- the text of parts, and that they are the parts of a script: LF stands nowhere in them
abbrev pub text_of : Parts → List ℕ
text_of parts = flat_map (λ line. line ++ 10 ∷ []) parts.ended ++ parts.rest

pub record ArePartsOf (script : List ℕ) (parts : Parts) : Type 0 where
  pub joined : text_of parts ≡ script
  pub lines : AllByRecursion (AllByRecursion (λ b. b ≢ 10)) parts.ended
  pub behind : AllByRecursion (λ b. b ≢ 10) parts.rest

-- the line without a CR at its end, of which an LF takes one
abbrev pub without_cr : List ℕ → List ℕ
without_cr [] = []
without_cr (b ∷ []) = if b == 13 then [] else b ∷ []
without_cr (b ∷ c ∷ bs) = b ∷ without_cr (c ∷ bs)

-- The lines of a script, the first of which has the number 1, and what ends them early, if
-- anything: then that is said of the line behind them. The last of them is the script's last line.
pub record Lines : Type 0 where
  pub lines : List (List ℕ)
  pub stop : Option LineWhy

-- one more line before them
abbrev pub with_line : List ℕ → Lines → Lines
with_line line all = record { lines = line ∷ all.lines; stop = all.stop }

abbrev pub stopped : LineWhy → Lines
stopped reason = record { lines = []; stop = Some reason }

-- what is behind the last LF, where the script goes on past its limit or not: a line, unless it is
-- empty
abbrev pub last_line : List ℕ → Bool → Lines
last_line rest true = stopped why.ScriptTooLong
last_line [] false = record { lines = []; stop = None }
last_line (b ∷ bs) false = record { lines = (b ∷ bs) ∷ []; stop = None }

-- the lines up to the first that is too long
abbrev pub up_to_limit : List (List ℕ) → List ℕ → Bool → Lines
up_to_limit [] rest longer =
    if nat_lt longest_line (length rest) then stopped why.TooLong else last_line rest longer
up_to_limit (line ∷ lines) rest longer =
    if nat_lt longest_line (length line) then stopped why.TooLong
    else with_line (without_cr line) (up_to_limit lines rest longer)

-- the lines of a script that may have so many bytes: those of its first bytes, so many, and then it
-- is too long if it has more
unfoldable pub lines_within : ℕ → List ℕ → Lines
lines_within most script =
    let parts = parts_of (take most script) in
    up_to_limit parts.ended parts.rest (nat_lt most (length script))

-- the lines of a script
abbrev pub script_lines : List ℕ → Lines
script_lines script = lines_within longest_script script

-- ---- one line after another

abbrev pub no_lines : Lines
no_lines = record { lines = []; stop = None }

-- what is left, before and behind the first of the lines; after an error, and where there is none,
-- all of it
abbrev pub IsNext : Lines → Lines → Result (Option (List ℕ)) LineWhy → Type 0
IsNext old new (Ok (Some line)) = old ≡ with_line line new
IsNext old new (Ok None) = (old ≡ no_lines) × (new ≡ no_lines)
IsNext old new (Err reason) = (old ≡ stopped reason) × (new ≡ old)
