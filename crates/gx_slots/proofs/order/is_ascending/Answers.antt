use Rattle.std.proofs.Common.{drop, eq-eqb, refl, sym, ◌∙◌, arith}
use Rattle.std.proofs.lemmas.Bool.{false≢true}
use Rattle.gx_slots.proofs.AscendingLemmas.{scanned_page, page_scanned, none_ascend}
use Rattle.gx_slots.proofs.ScanLemmas.{page_kind}
use Rattle.gx_slots.proofs.order.is_ascending.Goals as goal

pub returns-then-not-has_kind : goal.returns-then-not-has_kind
returns-then-not-has_kind c = (
  λ bad. absurd (false≢true bad),
  λ is. absurd
      (false≢true (sym c.if-not-has_kind.true
      ∙ c.has_kind.ensures.1 (page_kind c.args.page.now is.page))),
)

pub returns-then-count-eq0 : goal.returns-then-count-eq0
returns-then-count-eq0 c =
    let page = c.args.page.now in
    let count = c.record_count-count.result in
    let kind = c.has_kind.ensures.0 c.if-not-has_kind.false in (
      λ _. scanned_page page (drop 8 page) count c.requires kind.0 kind.1
          (λ i. omega (arith, c.type_inv.page i)) refl c.record_count-count.ensures
          (none_ascend (drop 8 page) count (omega (arith, c.if-count-eq0.true))),
      λ _. eq-eqb count 0 c.if-count-eq0.true,
    )

pub returns-else-count-eq0 : goal.returns-else-count-eq0
returns-else-count-eq0 c =
    let page = c.args.page.now in
    let body = c.page_body.result.now in
    let count = c.record_count-count.result in
    let kind = c.has_kind.ensures.0 c.if-not-has_kind.false in (
      λ held. scanned_page page body count c.requires kind.0 kind.1
          (λ i. omega (arith, c.type_inv.page i)) c.page_body.ensures c.record_count-count.ensures
          (c.do_ascend.ensures.0 held),
      λ is. c.do_ascend.ensures.1
          (page_scanned page body count c.page_body.ensures c.record_count-count.ensures is),
    )
