use Rattle.gx_isam_index.proofs.LayoutLemmas.{IsWriting}
use Rattle.gx_isam_index.specs.Layout.{keys_of}
use Rattle.gx_isam_index.proofs.layout.write_separators.Given as goal

abbrev pub invariant-loop-bucket : goal.invariant-loop-bucket
invariant-loop-bucket l = IsWriting l.fn.page l.page (keys_of l.entries) l.count l.bucket l.at
