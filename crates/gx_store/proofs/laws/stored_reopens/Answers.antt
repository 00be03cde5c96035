use Rattle.gx_store.proofs.StoredLemmas.{stored_reopens}
use Rattle.gx_store.proofs.laws.stored_reopens.Goals as goal

pub returns : goal.returns
returns c schema equation specs maps head start blocks ground of size is laid =
    stored_reopens schema equation specs head start blocks maps (Unit {0}) ground tt
    (record { is = is; laid_is = λ w. laid }) of size
