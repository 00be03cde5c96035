-- The number that the program ends with.
use Rattle.std.specs.Prelude.{ℕ}
use Rattle.gx_play.specs.declared.status.Status.{Status}
use Rattle.gx_play.specs.declared.status.Status.TheVariants as status

-- the number of each status
abbrev pub code : Status → ℕ
code status.Done = 0
code status.Refused = 1
code status.Script = 2
code status.Outside = 3
code status.Full = 4
code status.Memory = 5
code status.Device = 6
