use Rattle.std.proofs.Common.{◌+◌, ap, arith}
use Rattle.gx_bytes.proofs.PageLemmas.{start_within, rest_count, parts_end}
use Rattle.gx_bytes.proofs.RecordLemmas.{count_take}
use Rattle.gx_slots.specs.Page.{entries_of}
use Rattle.gx_slots.proofs.EntryLemmas.{entry_format}
use Rattle.gx_slots.proofs.PageLemmas.{body_holds, used_most}
use Rattle.gx_slots.proofs.page.offsets.Goals as goal

pub entries_len-start-requires : goal.entries_len-start-requires
entries_len-start-requires c =
    let page = c.args.page.now in
    let body = c.page_body-body.result.now in
    let held = body_holds page body c.requires.page c.page_body-body.ensures in
    count_take entry_format c.args.i (entries_of page) body held c.requires.place

pub split_at-requires : goal.split_at-requires
split_at-requires c =
    let page = c.args.page.now in
    let body = c.page_body-body.result.now in
    let held = body_holds page body c.requires.page c.page_body-body.ensures in
    start_within entry_format (entries_of page) body c.args.i c.entries_len-start.result held
    c.requires.place
    c.entries_len-start.ensures

pub entries_len-requires : goal.entries_len-requires
entries_len-requires c =
    let page = c.args.page.now in
    let body = c.page_body-body.result.now in
    let held = body_holds page body c.requires.page c.page_body-body.ensures in
    rest_count entry_format (entries_of page) body c.split_at.result.1.now c.args.i
    c.entries_len-start.result
    c.count.result held c.requires.place c.entries_len-start.ensures c.split_at.ensures.back
    c.count.ensures

pub overflow_add-end : goal.overflow_add-end
overflow_add-end c =
    let page = c.args.page.now in
    let body = c.page_body-body.result.now in
    let held = body_holds page body c.requires.page c.page_body-body.ensures in
    let ends = parts_end entry_format (entries_of page) body c.split_at.result.1.now c.args.i
    c.entries_len-start.result c.count.result c.entries_len.result held c.requires.place
    c.entries_len-start.ensures c.split_at.ensures.back c.count.ensures
    c.entries_len.ensures in
    omega (arith, ends.1, used_most page c.requires.page)

pub overflow_add-result-2 : goal.overflow_add-result-2
overflow_add-result-2 c =
    let page = c.args.page.now in
    let body = c.page_body-body.result.now in
    let held = body_holds page body c.requires.page c.page_body-body.ensures in
    let ends = parts_end entry_format (entries_of page) body c.split_at.result.1.now c.args.i
    c.entries_len-start.result c.count.result c.entries_len.result held c.requires.place
    c.entries_len-start.ensures c.split_at.ensures.back c.count.ensures
    c.entries_len.ensures in
    omega (arith, ends.1, used_most page c.requires.page)

pub returns : goal.returns
returns c =
    let page = c.args.page.now in
    let body = c.page_body-body.result.now in
    let held = body_holds page body c.requires.page c.page_body-body.ensures in
    let ends = parts_end entry_format (entries_of page) body c.split_at.result.1.now c.args.i
    c.entries_len-start.result c.count.result c.entries_len.result held c.requires.place
    c.entries_len-start.ensures c.split_at.ensures.back c.count.ensures
    c.entries_len.ensures in
    record { start = ap (λ n. 8 + n) ends.0; end = ap (λ n. 8 + n) ends.1 }
