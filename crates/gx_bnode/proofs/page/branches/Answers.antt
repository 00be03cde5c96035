use Rattle.std.proofs.Common.{◌∙◌}
use Rattle.gx_bnode.specs.Page.{branches_of}
use Rattle.gx_bnode.proofs.PageLemmas.{body_count, body_branches, separators_count}
use Rattle.gx_bnode.proofs.page.branches.Goals as goal

pub new-requires : goal.new-requires
new-requires c =
    let page = c.args.page.now in
    body_count page c.page_body.result.now c.separators.result c.requires c.page_body.ensures
    (c.separators.ensures ∙ separators_count (branches_of page))

pub returns : goal.returns
returns c =
    let page = c.args.page.now in
    c.new.ensures
    ∙ body_branches page c.page_body.result.now c.separators.result c.requires c.page_body.ensures
    (c.separators.ensures ∙ separators_count (branches_of page))
