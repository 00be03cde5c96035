use Rattle.gx_isam.proofs.RebuildLemmas.{IsFillingPage}
use Rattle.gx_isam.proofs.rebuild.fill_page.Given as goal

abbrev pub invariant-loop-start : goal.invariant-loop-start
invariant-loop-start l = IsFillingPage l.index l.entries l.start l.end l.bucket l.page

abbrev pub decreases-loop-start : goal.decreases-loop-start
decreases-loop-start l = l.start
