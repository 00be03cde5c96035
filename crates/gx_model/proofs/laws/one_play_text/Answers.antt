use Rattle.gx_model.proofs.RunLemmas.{one_text}
use Rattle.gx_model.proofs.laws.one_play_text.Goals as goal

pub returns : goal.returns
returns c start script text other is also =
    one_text c.args.schema.now start script text other is also
