use Rattle.gx_top.proofs.CaseLemmas.{are_cases}
use Rattle.gx_top.proofs.laws.wrong_or_opened.Goals as goal

pub returns : goal.returns
returns c g content = are_cases g c.args.device.now content
