use Rattle.std.proofs.Common.{◌∙◌, arith}
use Rattle.std.proofs.lemmas.Bool.Decides.{nat_tests}
use Rattle.gx_bnode.specs.Page.{branches_of}
use Rattle.gx_bnode.proofs.PageLemmas.{body_count, body_len, separators_count, separators_len, used_most}
use Rattle.gx_bnode.proofs.page.has_room.Goals as goal

pub branches_len-requires : goal.branches_len-requires
branches_len-requires c =
    let page = c.args.page.now in
    body_count page c.page_body.result.now c.separators.result c.requires c.page_body.ensures
    (c.separators.ensures ∙ separators_count (branches_of page))

pub overflow_add-result : goal.overflow_add-result
overflow_add-result c =
    let page = c.args.page.now in
    let len = body_len page c.page_body.result.now c.separators.result c.branches_len.result
    c.requires c.page_body.ensures c.separators.ensures c.branches_len.ensures in
    omega (arith, len, separators_len (branches_of page), used_most page c.requires)

pub overflow_add-result-2 : goal.overflow_add-result-2
overflow_add-result-2 c =
    let page = c.args.page.now in
    let len = body_len page c.page_body.result.now c.separators.result c.branches_len.result
    c.requires c.page_body.ensures c.separators.ensures c.branches_len.ensures in
    omega (arith, len, separators_len (branches_of page), used_most page c.requires)

pub returns : goal.returns
returns c =
    let page = c.args.page.now in
    let len = body_len page c.page_body.result.now c.separators.result c.branches_len.result
    c.requires c.page_body.ensures c.separators.ensures c.branches_len.ensures in
    (λ fits. grind (arith, nat_tests), λ room. grind (arith, nat_tests))
