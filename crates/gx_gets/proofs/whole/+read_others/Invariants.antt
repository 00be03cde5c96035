use Rattle.std.proofs.Common.{length}
use Rattle.gx_gets.proofs.whole.+read_others.Given as goal

abbrev pub decreases-read_others : goal.decreases-read_others
decreases-read_others g l = length l.fragments.now
