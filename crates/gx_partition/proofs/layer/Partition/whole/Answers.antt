use Rattle.std.proofs.Common.{refl}
use Rattle.gx_partition.proofs.GatherLemmas.{whole_there}
use Rattle.gx_partition.proofs.layer.Partition.whole.Goals as goal

pub returns-then-child_for-part : goal.returns-then-child_for-part
returns-then-child_for-part c =
    let m = c.args.self.now in
    whole_there m.at m.bounds c.args.part c.child_for.result c.args.part.rec c.child_for.ensures
    c.if-child_for-part.true refl
