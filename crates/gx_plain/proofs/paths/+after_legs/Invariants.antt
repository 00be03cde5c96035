use Rattle.std.proofs.Common.{length}
use Rattle.gx_plain.proofs.paths.+after_legs.Given as goal

abbrev pub decreases-after_legs : goal.decreases-after_legs
decreases-after_legs l = length l.legs.now
