use Rattle.std.proofs.Common.{sym, ◌∙◌, arith}
use Rattle.std.proofs.lemmas.Bool.{false≢true}
use Rattle.gx_btree.proofs.PageLemmas.{shows_header}
use Rattle.gx_btree.proofs.reading.kind_of.Goals as goal
use Rattle.gx_btree.proofs.reading.kind_of.Goals.{else-has_kind-2-via-then-has_kind-2+else-page_number-eq-NONE, else-has_kind-2-via-else-has_kind-2}

pub returns : goal.returns
returns c shape shows = absurd (shows_header c.args.page.now shape shows
    (λ k. false≢true (sym c.if-has_kind.false ∙ c.has_kind.ensures.1 k))
    (λ k none. elim c.else-has_kind-2.branch [
      | else-has_kind-2-via-then-has_kind-2+else-page_number-eq-NONE
          w ↦ (let f = w.if-page_number-eq-NONE.false in let e = w.page_number.ensures
          ∙ none in absurd (omega (arith, f, e)))
      | else-has_kind-2-via-else-has_kind-2 w ↦
          false≢true (sym w.if-has_kind-2.false ∙ c.has_kind-2.ensures.1 k)
    ]))
