use Rattle.std.proofs.Common.{length}
use Rattle.gx_audit.proofs.search.+contains.Given as goal

abbrev pub decreases-contains : goal.decreases-contains
decreases-contains l = length l.keys.now
