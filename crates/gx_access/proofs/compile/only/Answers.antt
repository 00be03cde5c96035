use Rattle.gx_access.proofs.CompileSteps.{seen_only}
use Rattle.gx_access.proofs.compile.only.Goals as goal

pub returns : goal.returns
returns c = seen_only c.args.fragments.items
