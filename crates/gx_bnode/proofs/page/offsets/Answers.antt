use Rattle.std.proofs.Common.{◌+◌, ap, ◌∙◌, arith}
use Rattle.gx_bytes.proofs.PageLemmas.{start_within, rest_count, parts_end}
use Rattle.gx_bytes.proofs.RecordLemmas.{count_take}
use Rattle.gx_bnode.specs.Page.{branches_of}
use Rattle.gx_bnode.proofs.BranchLemmas.{branch_format}
use Rattle.gx_bnode.proofs.PageLemmas.{body_holds, used_most, separators_count}
use Rattle.gx_bnode.proofs.page.offsets.Goals as goal

pub branches_len-start-requires : goal.branches_len-start-requires
branches_len-start-requires c =
    let page = c.args.page.now in
    let body = c.page_body-body.result.now in
    let held = body_holds page body c.requires.page c.page_body-body.ensures in
    count_take branch_format c.args.i (branches_of page) body held c.requires.place

pub split_at-requires : goal.split_at-requires
split_at-requires c =
    let page = c.args.page.now in
    let body = c.page_body-body.result.now in
    let held = body_holds page body c.requires.page c.page_body-body.ensures in
    start_within branch_format (branches_of page) body c.args.i c.branches_len-start.result held
    c.requires.place
    c.branches_len-start.ensures

pub branches_len-requires : goal.branches_len-requires
branches_len-requires c =
    let page = c.args.page.now in
    let body = c.page_body-body.result.now in
    let held = body_holds page body c.requires.page c.page_body-body.ensures in
    rest_count branch_format (branches_of page) body c.split_at.result.1.now c.args.i
    c.branches_len-start.result
    c.separators.result held c.requires.place c.branches_len-start.ensures c.split_at.ensures.back
    (c.separators.ensures ∙ separators_count (branches_of page))

pub overflow_add-end : goal.overflow_add-end
overflow_add-end c =
    let page = c.args.page.now in
    let body = c.page_body-body.result.now in
    let held = body_holds page body c.requires.page c.page_body-body.ensures in
    let ends = parts_end branch_format (branches_of page) body c.split_at.result.1.now c.args.i
    c.branches_len-start.result c.separators.result c.branches_len.result held c.requires.place
    c.branches_len-start.ensures c.split_at.ensures.back
    (c.separators.ensures ∙ separators_count (branches_of page))
    c.branches_len.ensures in
    omega (arith, ends.1, used_most page c.requires.page)

pub overflow_add-result-2 : goal.overflow_add-result-2
overflow_add-result-2 c =
    let page = c.args.page.now in
    let body = c.page_body-body.result.now in
    let held = body_holds page body c.requires.page c.page_body-body.ensures in
    let ends = parts_end branch_format (branches_of page) body c.split_at.result.1.now c.args.i
    c.branches_len-start.result c.separators.result c.branches_len.result held c.requires.place
    c.branches_len-start.ensures c.split_at.ensures.back
    (c.separators.ensures ∙ separators_count (branches_of page))
    c.branches_len.ensures in
    omega (arith, ends.1, used_most page c.requires.page)

pub returns : goal.returns
returns c =
    let page = c.args.page.now in
    let body = c.page_body-body.result.now in
    let held = body_holds page body c.requires.page c.page_body-body.ensures in
    let ends = parts_end branch_format (branches_of page) body c.split_at.result.1.now c.args.i
    c.branches_len-start.result c.separators.result c.branches_len.result held c.requires.place
    c.branches_len-start.ensures c.split_at.ensures.back
    (c.separators.ensures ∙ separators_count (branches_of page))
    c.branches_len.ensures in
    record { start = ap (λ n. 8 + n) ends.0; end = ap (λ n. 8 + n) ends.1 }
