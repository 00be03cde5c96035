use Rattle.gx_model.proofs.RunLemmas.{run_on}
use Rattle.gx_model.proofs.laws.runs_go_on.Goals as goal

pub returns : goal.returns
returns c start middle final first later text more front behind =
    run_on c.args.schema.now start middle final first later text more front behind
