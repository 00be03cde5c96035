use Rattle.std.proofs.Common.{◌≡◌, false, length}
use Rattle.gx_tokens.specs.Lexemes.{after_blanks}
use Rattle.gx_tokens.proofs.blanks.after_blanks.Given as goal

abbrev pub invariant-loop-rest : goal.invariant-loop-rest
invariant-loop-rest l = after_blanks l.in_comment l.rest ≡ after_blanks false l.bytes

abbrev pub decreases-loop-rest : goal.decreases-loop-rest
decreases-loop-rest l = length l.rest
