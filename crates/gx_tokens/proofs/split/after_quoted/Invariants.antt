use Rattle.std.proofs.Common.{◌≡◌, ◌≤◌, false, length}
use Rattle.gx_tokens.specs.Lexemes.{after_quoted}
use Rattle.gx_tokens.proofs.split.after_quoted.Given as goal

abbrev pub invariant-loop-after : goal.invariant-loop-after
invariant-loop-after l = (after_quoted false l.rest ≡ after_quoted false l.bytes)
    × (length l.rest ≤ length l.bytes)

abbrev pub decreases-loop-after : goal.decreases-loop-after
decreases-loop-after l = length l.rest
