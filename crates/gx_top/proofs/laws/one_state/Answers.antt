use Rattle.gx_operations.proofs.GivenLemmas.{held_once}
use Rattle.gx_top.proofs.laws.one_state.Goals as goal

pub returns : goal.returns
returns c g content s t of one two =
    held_once g c.args.stored.now of c.requires c.args.device.now content s t one two
