use Rattle.gx_work.proofs.WorkLemmas.{script_plays, script_means}
use Rattle.gx_work.proofs.laws.script_plays.Goals as goal

pub returns-clause-plays : goal.returns-clause-plays
returns-clause-plays c n start few = script_plays n start few

pub returns-clause-means : goal.returns-clause-means
returns-clause-means c n few = script_means n few
