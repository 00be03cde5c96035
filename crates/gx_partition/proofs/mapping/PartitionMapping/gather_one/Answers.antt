use Rattle.std.proofs.Common.{inl, refl}
use Rattle.gx_partition.proofs.GatherLemmas.{gathered_one}
use Rattle.gx_partition.proofs.mapping.PartitionMapping.gather_one.Goals as goal

pub whole-requires : goal.whole-requires
whole-requires c = (c.requires.each c.args.part (inl refl)).fits

pub returns : goal.returns
returns c =
    let m = c.args.self.now in
    let p = c.args.part in
    gathered_one m.form m.at m.bounds p.rec.key p _ c.whole.result c.requires refl c.whole.ensures
