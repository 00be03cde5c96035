use Rattle.std.proofs.Common.{sym, ◌∙◌, arith}
use Rattle.std.proofs.lemmas.Bool.{eq-eqb, eqb-true, false≢true}
use Rattle.std.proofs.lemmas.Bool.Decides.{nat_tests}
use Rattle.gx_bnode.proofs.ForkLemmas.{walked}
use Rattle.gx_bnode.proofs.ScanLemmas.{page_scanned, page_kind, page_some}
use Rattle.gx_bnode.proofs.leading.fork_for.Goals as goal
use Rattle.gx_bnode.proofs.leading.fork_for.Goals.{then-count-eq0-via-then-count-eq0, then-count-eq0-via-else-count-eq0+then-not-has_kind}

pub returns-then-count-eq0 : goal.returns-then-count-eq0
returns-then-count-eq0 c is = elim c.then-count-eq0.branch [
  | then-count-eq0-via-then-count-eq0 w ↦
      absurd (let some = page_some c.args.page.now c.record_count-count.result is
      c.record_count-count.ensures in
      omega (arith, some, w.if-count-eq0.true))
  | then-count-eq0-via-else-count-eq0+then-not-has_kind w ↦
      absurd (false≢true (sym w.if-not-has_kind.true
      ∙ w.has_kind.ensures.1 (page_kind c.args.page.now is)))
]

pub returns-in_err-way : goal.returns-in_err-way
returns-in_err-way c =
    rw c.from_residual.ensures (λ is. c.in_err-way.ensures (page_scanned c.args.page.now
    c.page_body.result.now c.record_count-count.result c.page_body.ensures
    c.record_count-count.ensures is))

pub overflow_add-result : goal.overflow_add-result
overflow_add-result c =
    let kind = c.has_kind.ensures.0 c.if-not-has_kind.false in
    let page = walked c.args.page.now c.page_body.result.now c.args.key.now
    c.record_count-count.result c.page_number.result c.in_ok-way.way.place c.in_ok-way.way.child
    c.in_ok-way.len c.requires kind.0 kind.1 (λ i. omega (arith, c.type_inv.page i))
    c.page_body.ensures c.record_count-count.ensures (omega arith) c.page_number.ensures
    c.in_ok-way.ensures.0 c.in_ok-way.ensures.1 c.in_ok-way.ensures.2 in
    omega (arith, page.most)

pub overflow_add-result-2 : goal.overflow_add-result-2
overflow_add-result-2 c =
    let kind = c.has_kind.ensures.0 c.if-not-has_kind.false in
    let page = walked c.args.page.now c.page_body.result.now c.args.key.now
    c.record_count-count.result c.page_number.result c.in_ok-way.way.place c.in_ok-way.way.child
    c.in_ok-way.len c.requires kind.0 kind.1 (λ i. omega (arith, c.type_inv.page i))
    c.page_body.ensures c.record_count-count.ensures (omega arith) c.page_number.ensures
    c.in_ok-way.ensures.0 c.in_ok-way.ensures.1 c.in_ok-way.ensures.2 in
    omega (arith, page.most)

pub returns : goal.returns
returns c =
    let kind = c.has_kind.ensures.0 c.if-not-has_kind.false in
    let page = walked c.args.page.now c.page_body.result.now c.args.key.now
    c.record_count-count.result c.page_number.result c.in_ok-way.way.place c.in_ok-way.way.child
    c.in_ok-way.len c.requires kind.0 kind.1 (λ i. omega (arith, c.type_inv.page i))
    c.page_body.ensures c.record_count-count.ensures (omega arith) c.page_number.ensures
    c.in_ok-way.ensures.0 c.in_ok-way.ensures.1 c.in_ok-way.ensures.2 in
    let len = page.len_is in (
      page.inner,
      record {
        way = page.way;
        last = (
          λ is. eqb-true c.in_ok-way.way.place c.record_count-count.result is ∙ page.counted,
          λ e. eq-eqb c.in_ok-way.way.place c.record_count-count.result (e ∙ sym page.counted),
        );
        room = (λ fits. grind (arith, nat_tests), λ room. grind (arith, nat_tests));
      },
    )
