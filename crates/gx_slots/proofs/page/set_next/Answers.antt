use Rattle.std.proofs.Common.{◌∙◌, rules}
use Rattle.gx_bytes.proofs.PageLemmas.{page_numbered}
use Rattle.gx_slots.specs.Page.{IsPageOf, entries_of, next_of}
use Rattle.gx_slots.proofs.EntryLemmas.{entry_format}
use Rattle.gx_slots.proofs.PageLemmas.{entries_of-page, next_of-page, page_of}
use Rattle.gx_slots.proofs.page.set_next.Goals as goal

pub returns : goal.returns
returns c =
    let page = c.args.page.now in
    let new = c.set_page_number.new.page in
    let entries = entries_of page in
    let old = page_of page c.requires in
    let is : IsPageOf entries c.args.next new =
    record {
      page = page_numbered entry_format 0x44 entries (next_of page) page old.page c.args.next new
          (search rules) c.set_page_number.ensures
          (c.set_page_number.auto.page ∙ old.page.size);
      distinct = old.distinct;
    } in
    record {
      page = record { entries = entries; next = c.args.next; is = is };
      entries = entries_of-page entries c.args.next new is;
      next = next_of-page entries c.args.next new is;
    }
