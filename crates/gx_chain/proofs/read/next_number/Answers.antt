use Rattle.std.proofs.Common.{◌∙◌}
use Rattle.gx_slots.proofs.PageLemmas.{next_is}
use Rattle.gx_chain.proofs.read.next_number.Goals as goal

pub returns : goal.returns
returns c = c.page_number.ensures ∙ next_is c.args.page.now
