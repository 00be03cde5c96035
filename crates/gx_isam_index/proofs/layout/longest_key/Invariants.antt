use Rattle.gx_isam_index.proofs.LayoutLemmas.{IsLongestTo}
use Rattle.gx_isam_index.specs.Layout.{keys_of}
use Rattle.gx_isam_index.proofs.layout.longest_key.Given as goal

abbrev pub invariant-loop-i : goal.invariant-loop-i
invariant-loop-i l = IsLongestTo (keys_of l.entries) l.i l.longest
