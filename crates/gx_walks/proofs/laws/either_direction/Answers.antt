use Rattle.gx_walks.proofs.WayBack.{either}
use Rattle.gx_walks.proofs.laws.either_direction.Goals as goal

pub returns : goal.returns
returns c = λ s first legs. either s first legs
