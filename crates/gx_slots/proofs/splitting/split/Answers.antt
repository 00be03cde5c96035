use Rattle.std.proofs.Common.{◌-◌, length, take, drop, ap, ◌∙◌, arith, length-append}
use Rattle.std.specs.List.{flat_map}
use Rattle.gx_bytes.specs.Page.{header}
use Rattle.gx_bytes.specs.Parts.{overwritten}
use Rattle.gx_bytes.specs.declared.page.TheConstants.{NONE}
use Rattle.gx_bytes.proofs.RecordLemmas.{length-flat_map}
use Rattle.gx_slots.specs.Entries.{entry_bytes}
use Rattle.gx_slots.specs.Page.{entries_of, next_of}
use Rattle.gx_slots.proofs.EntryLemmas.{entry_format}
use Rattle.gx_slots.proofs.PageLemmas.{page_of, entries_of-page, next_of-page, used_most}
use Rattle.gx_slots.proofs.SplitLemmas.{back_holds, back_len, back_bytes, left_page, right_page}
use Rattle.gx_slots.proofs.splitting.split.Goals as goal

pub split_at-requires : goal.split_at-requires
split_at-requires c =
    let page = c.args.page.now in
    let len = back_len (entries_of page) c.args.i c.offsets-at.result.0 c.offsets-at.result.1
    c.offsets-at.ensures.start c.offsets-at.ensures.end in
    omega (
      arith,
      len.0,
      used_most page c.requires.page,
      c.offsets-at.ensures.end,
      (page_of page c.requires.page).page.size,
    )

pub split_at-requires-2 : goal.split_at-requires-2
split_at-requires-2 c =
    let page = c.args.page.now in
    let es = drop c.args.i (entries_of page) in
    let len = back_len (entries_of page) c.args.i c.offsets-at.result.0 c.offsets-at.result.1
    c.offsets-at.ensures.start c.offsets-at.ensures.end in
    let holds = back_holds page c.split_at.result.1.now c.args.i c.offsets-at.result.0
    c.requires.page c.offsets-at.ensures.start c.split_at.ensures.back in
    omega (
      arith,
      len.1,
      ap length holds.is,
      length-append (flat_map entry_bytes es) holds.rest,
      length-flat_map entry_format es,
    )

pub returns : goal.returns
returns c =
    let page = c.args.page.now in
    let i = c.args.i in
    let entries = entries_of page in
    let next = next_of page in
    let is = page_of page c.requires.page in
    let left = c.set_record_count.new.page in
    let right = c.overwrite.new.bytes in
    let len = back_len entries i c.offsets-at.result.0 c.offsets-at.result.1
    c.offsets-at.ensures.start c.offsets-at.ensures.end in
    let holds = back_holds page c.split_at.result.1.now i c.offsets-at.result.0 c.requires.page
    c.offsets-at.ensures.start c.split_at.ensures.back in
    let others = back_bytes (drop i entries) c.split_at.result.1.now c.split_at-2.result.0.now
    (c.offsets-at.result.1 - c.offsets-at.result.0) holds len.1 c.split_at-2.ensures.front in
    let on_left = left_page entries next page is i left c.requires.place c.set_record_count.ensures
    (c.set_record_count.auto.page ∙ is.page.size) in
    let on_right = right_page entries i next NONE page c.args.right.now c.write_header.new.page
    right c.split_at-2.result.0.now is
    (omega arith) c.requires.size
    (c.write_header.ensures
    ∙ ap (λ n. overwritten c.args.right.now 0 (header 0x44 (n - i) NONE)) c.count-count.ensures)
    others c.overwrite.ensures
    (c.overwrite.auto.bytes ∙ c.write_header.auto.page ∙ c.requires.size) in
    record {
      left = record { entries = take i entries; next = next; is = on_left };
      right = record { entries = drop i entries; next = NONE; is = on_right };
      front = entries_of-page (take i entries) next left on_left;
      back = entries_of-page (drop i entries) NONE right on_right;
      next = next_of-page (take i entries) next left on_left;
      no_next = next_of-page (drop i entries) NONE right on_right;
    }
