use Rattle.gx_isam_index.proofs.LayoutLemmas.{IsOrderedTo}
use Rattle.gx_isam_index.proofs.layout.are_ordered.Given as goal

abbrev pub invariant-loop-i : goal.invariant-loop-i
invariant-loop-i l = IsOrderedTo l.entries l.i
