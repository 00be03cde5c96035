use Rattle.std.proofs.Common.{length}
use Rattle.gx_plain.proofs.paths.+last_find.Given as goal

abbrev pub decreases-last_find : goal.decreases-last_find
decreases-last_find l = length l.legs.now
