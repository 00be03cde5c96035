-- Lines of a text.
use Rattle.std.specs.Prelude.{ℕ, ◌+◌, ◌-◌, List, length, take, max, ◌==◌, count_by}

-- the line, counted from 1, of the byte with which `left` bytes are left: an LF belongs to the line
-- that it ends. Where none are left it is the line of the last byte, and 1 for the empty text.
abbrev pub line_of : List ℕ → ℕ → ℕ
line_of bytes left = 1 + count_by (λ b. b == 10) (take (length bytes - max left 1) bytes)
