use Rattle.std.proofs.Common.{◌≡◌, length}
use Rattle.gx_commands.specs.Words.{past_blanks}
use Rattle.gx_commands.proofs.words.after_blanks.Given as goal

abbrev pub invariant-loop-rest : goal.invariant-loop-rest
invariant-loop-rest l = past_blanks l.rest ≡ past_blanks l.line

abbrev pub decreases-loop-rest : goal.decreases-loop-rest
decreases-loop-rest l = length l.rest
