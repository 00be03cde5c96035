-- Where a member stands, or is to stand, among ascending ones.
use Rattle.std.specs.Prelude.{ℕ, ◌-◌, List, length, take, drop, slice_get, Option}
use Rattle.std.specs.List.{position_or_len}
use Rattle.std.specs.Ordering.{is_ge}
use Rattle.gx_values.specs.declared.values.Value.{Value}
use Rattle.gx_values.specs.Values.{value_cmp}

-- how many come before it
abbrev pub place_of : List Value → Value → ℕ
place_of ms m = position_or_len (λ x. is_ge (value_cmp x m)) ms

abbrev pub last : List Value → Option Value
last ms = slice_get ms (length ms - 1)

-- the member next before it, and the one next behind it
abbrev pub before_in : List Value → Value → Option Value
before_in ms m = last (take (place_of ms m) ms)

abbrev pub next_in : List Value → Value → Option Value
next_in ms m = slice_get (drop (place_of ms m) ms) 0
