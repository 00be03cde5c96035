use Rattle.gx_slots.proofs.SpotLemmas.{sought_none}
use Rattle.gx_slots.proofs.seeking.nothing.Goals as goal

pub returns : goal.returns
returns c key = sought_none key
