use Rattle.gx_btree.proofs.BranchLemmas.{led_is}
use Rattle.gx_btree.proofs.reading.step_of.Goals as goal

pub returns-in-Some : goal.returns-in-Some
returns-in-Some c = (
  c.in-Some.ensures.0,
  led_is c.args.page.now c.args.key.now c.in-Some.fork c.in-Some.ensures.1,
)
