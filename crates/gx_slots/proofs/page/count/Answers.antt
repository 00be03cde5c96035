use Rattle.std.proofs.Common.{◌∙◌}
use Rattle.gx_slots.proofs.PageLemmas.{count_is}
use Rattle.gx_slots.proofs.page.count.Goals as goal

pub returns : goal.returns
returns c = c.record_count.ensures ∙ count_is c.args.page.now c.requires
