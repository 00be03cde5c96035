use Rattle.std.proofs.Common.{◌≡◌, ◌++◌, length, false}
use Rattle.gx_tokens.specs.Quotes.{unquoted}
use Rattle.gx_tokens.proofs.quoted.paired_value.Given as goal

abbrev pub invariant-loop-rest : goal.invariant-loop-rest
invariant-loop-rest l = l.value.items ++ unquoted l.second l.rest ≡ unquoted false l.text

abbrev pub decreases-loop-rest : goal.decreases-loop-rest
decreases-loop-rest l = length l.rest
