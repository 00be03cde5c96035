use Rattle.gx_partition.proofs.PlaceLemmas.{in_record}
use Rattle.gx_partition.proofs.layer.Partition.child_for.Goals as goal

pub value_of-requires : goal.value_of-requires
value_of-requires c = in_record c.args.self.now.at c.args.self.now.form c.args.rec.now
    c.args.self.now.sound.place c.requires
