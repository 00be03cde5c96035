use Rattle.gx_store.proofs.AlikeLemmas.{reopens_alike}
use Rattle.gx_store.proofs.laws.reopens_alike.Goals as goal

pub returns : goal.returns
returns c schema equation specs maps old new same is =
    reopens_alike schema equation specs maps old new same is
