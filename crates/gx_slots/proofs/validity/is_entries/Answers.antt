use Rattle.std.proofs.Common.{arith}
use Rattle.gx_slots.proofs.ScanLemmas.{scanned_page, page_scanned}
use Rattle.gx_slots.proofs.validity.is_entries.Goals as goal

pub returns-then-has_kind : goal.returns-then-has_kind
returns-then-has_kind c =
    let page = c.args.page.now in
    let body = c.page_body.result.now in
    let count = c.record_count.result in
    let kind = c.has_kind.ensures.0 c.if-has_kind.true in (
      λ held. scanned_page page body count c.requires kind.0 kind.1
          (λ i. omega (arith, c.type_inv.page i)) c.page_body.ensures c.record_count.ensures
          (c.are_entries.ensures.0 held),
      λ is. c.are_entries.ensures.1
          (page_scanned page body count c.page_body.ensures c.record_count.ensures is),
    )
