use Rattle.std.proofs.Common.{length}
use Rattle.gx_walks.proofs.back.+walk_back.Given as goal

abbrev pub decreases-walk_back : goal.decreases-walk_back
decreases-walk_back g l = length l.legs.now
