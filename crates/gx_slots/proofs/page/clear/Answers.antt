use Rattle.std.proofs.Common.{ℕ, [], arith}
use Rattle.gx_bytes.proofs.PageLemmas.{page_empty}
use Rattle.gx_slots.specs.Page.{IsPageOf}
use Rattle.gx_slots.proofs.EntryLemmas.{entry_format}
use Rattle.gx_slots.proofs.PageLemmas.{entries_of-page, next_of-page}
use Rattle.gx_slots.proofs.page.clear.Goals as goal

pub returns : goal.returns
returns c =
    let new = c.write_header.new.page in
    let none : ℕ = 4294967295 in
    let is : IsPageOf [] none new =
    record {
      page = page_empty entry_format 0x44 none c.args.page.now new c.requires
          (omega arith) c.write_header.ensures
          c.write_header.auto.page;
      distinct = λ i j d lt below. absurd (omega arith);
    } in
    record {
      page = record { entries = []; next = none; is = is };
      entries = entries_of-page [] none new is;
      next = next_of-page [] none new is;
    }
