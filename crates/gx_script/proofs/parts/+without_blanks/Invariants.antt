-- What a call of itself makes less.
use Rattle.std.proofs.Common.{length}
use Rattle.gx_script.proofs.parts.+without_blanks.Given as goal

abbrev pub decreases-without_blanks : goal.decreases-without_blanks
decreases-without_blanks l = length l.bytes.now
