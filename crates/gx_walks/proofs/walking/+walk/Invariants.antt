use Rattle.std.proofs.Common.{length}
use Rattle.gx_walks.proofs.walking.+walk.Given as goal

abbrev pub decreases-walk : goal.decreases-walk
decreases-walk g l = length l.legs.now
