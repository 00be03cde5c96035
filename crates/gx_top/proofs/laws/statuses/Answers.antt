use Rattle.gx_top.proofs.TableLemmas.{are_ends}
use Rattle.gx_top.proofs.laws.statuses.Goals as goal

pub returns : goal.returns
returns c g old new = are_ends g c.args.device.now old new
