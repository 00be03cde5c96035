use Rattle.gx_sharing.proofs.Once.{share_once}
use Rattle.gx_sharing.proofs.laws.one_share_text.Goals as goal

pub returns : goal.returns
returns c start script text other is also =
    share_once c.args.schema.now start script text other is also
