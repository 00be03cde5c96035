use Rattle.std.proofs.Common.{arith}
use Rattle.gx_isam_index.proofs.LayoutLemmas.{begin_parts}
use Rattle.gx_isam_index.proofs.layout.begin_of.Goals as goal

pub returns : goal.returns
returns c = let some = c.requires.bucket in
    begin_parts c.args.bucket c.args.count c.args.entries (omega (arith, some))
