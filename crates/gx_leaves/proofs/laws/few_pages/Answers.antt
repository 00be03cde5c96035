use Rattle.gx_leaves.proofs.SpaceLemmas.{few_pages}
use Rattle.gx_leaves.proofs.laws.few_pages.Goals as goal

pub returns : goal.returns
returns c base sheets room many whole = few_pages base c.args.specs.now sheets room many whole
