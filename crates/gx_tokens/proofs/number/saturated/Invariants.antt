use Rattle.std.proofs.Common.{◌≡◌, ◌-◌, ◌^◌, min, take}
use Rattle.gx_tokens.specs.Numbers.{digits_value}
use Rattle.gx_tokens.proofs.number.saturated.Given as goal

abbrev pub invariant-loop-digit : goal.invariant-loop-digit
invariant-loop-digit l = l.value ≡ min (2 ^ 64 - 1) (digits_value (take l.digit-index l.digits))
