use Rattle.std.proofs.Common.{sym, ◌∙◌, arith}
use Rattle.std.proofs.lemmas.Bool.{false≢true}
use Rattle.gx_bnode.proofs.ScanLemmas.{scanned_page, page_scanned, page_kind, page_some}
use Rattle.gx_bnode.proofs.validity.is_inner.Goals as goal
use Rattle.gx_bnode.proofs.validity.is_inner.Goals.{then-count-eq0-via-then-count-eq0, then-count-eq0-via-else-count-eq0+then-not-has_kind}

pub returns-then-count-eq0 : goal.returns-then-count-eq0
returns-then-count-eq0 c = (
  λ bad. absurd (false≢true bad),
  λ is. elim c.then-count-eq0.branch [
    | then-count-eq0-via-then-count-eq0 w ↦
        absurd (let some = page_some c.args.page.now c.record_count-count.result is
        c.record_count-count.ensures in
        omega (arith, some, w.if-count-eq0.true))
    | then-count-eq0-via-else-count-eq0+then-not-has_kind w ↦
        absurd (false≢true (sym w.if-not-has_kind.true
        ∙ w.has_kind.ensures.1 (page_kind c.args.page.now is)))
  ],
)

pub returns : goal.returns
returns c =
    let page = c.args.page.now in
    let body = c.page_body.result.now in
    let count = c.record_count-count.result in
    let kind = c.has_kind.ensures.0 c.if-not-has_kind.false in (
      λ held. scanned_page page body count c.requires kind.0 kind.1
          (λ i. omega (arith, c.type_inv.page i)) c.page_body.ensures c.record_count-count.ensures
          (omega arith) (c.are_branches.ensures.0 held),
      λ is. c.are_branches.ensures.1
          (page_scanned page body count c.page_body.ensures c.record_count-count.ensures is),
    )
