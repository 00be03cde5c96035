use Rattle.std.proofs.Common.{◌∙◌}
use Rattle.gx_slots.proofs.PageLemmas.{body_count, body_entries}
use Rattle.gx_slots.proofs.page.entries.Goals as goal

pub new-requires : goal.new-requires
new-requires c =
    body_count c.args.page.now c.page_body.result.now c.count.result c.requires c.page_body.ensures
    c.count.ensures

pub returns : goal.returns
returns c =
    c.new.ensures
    ∙ body_entries c.args.page.now c.page_body.result.now c.count.result c.requires
    c.page_body.ensures c.count.ensures
