use Rattle.gx_isam_index.proofs.LayoutLemmas.{IsBlanking}
use Rattle.gx_isam_index.specs.Layout.{keys_of}
use Rattle.gx_isam_index.proofs.layout.write_index.Given as goal

abbrev pub invariant-loop-bucket : goal.invariant-loop-bucket
invariant-loop-bucket l = IsBlanking (keys_of l.entries) l.count l.page l.bucket
