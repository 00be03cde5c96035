use Rattle.std.proofs.lemmas.List.{map-set, length-set}
use Rattle.gx_values.specs.Borrowed.{value_of}
use Rattle.gx_codec.proofs.placing.set_front.Goals as goal

pub returns : goal.returns
returns c = (
  map-set value_of c.args.out.now c.args.number c.args.front,
  length-set c.args.out.now c.args.number c.args.front,
)
