use Rattle.std.proofs.Common.{ap, subst, ◌∙◌, arith, ℕ, List}
use Rattle.std.specs.Prelude.{slice_get}
use Rattle.gx_journal.specs.Journal.{content_of, working_of}
use Rattle.gx_pages.specs.Paged.{ground_of}
use Rattle.gx_pages.specs.Owners.{IsClear}
use Rattle.gx_pages.specs.Laws.{count_pages, numbers_enough}
use Rattle.gx_layout.proofs.BlockLemmas.{silent_twice}
use Rattle.gx_pages.proofs.CallLemmas.{keeps_joined}
use Rattle.gx_pages.proofs.OwnerLemmas.{page_other, clear_more, all_free}
use Rattle.gx_pages.proofs.owners.clear_owners.Goals as goal

pub loop-table-preserved : goal.loop-table-preserved
loop-table-preserved g c =
    let inv = c.loop-table.invariant in
    let e = c.in_ok-write_page.ensures in
    let mid = c.loop-table.journal in
    let new = c.write_page.new.self in
    let table = c.loop-table.table in
    record {
      keeps = keeps_joined inv.keeps e.keeps;
      silent = silent_twice (content_of c.args.journal.now) (content_of mid)
          (content_of new) inv.silent e.silent;
      faults = e.faults.same ∙ inv.faults;
      clear = λ told. clear_more (working_of mid) (working_of new)
          (ground_of c.args.journal.now).tables table c.clear_page.result
          (omega (
            arith,
            count_pages mid,
            inv.keeps.size,
            c.loop-table-test.true,
            c.min-table-end.ensures,
            c.pages.ensures,
          ))
          (e.page told)
          (subst (λ n. IsClear n table c.clear_page.result) c.tables-tables.ensures.count
          c.clear_page.ensures) (inv.clear told);
      bytes = λ told other past. ap (λ (ps : List (List ℕ)). slice_get ps other) (e.page told)
          ∙ page_other (working_of mid) table other c.clear_page.result
          (λ is. absurd (omega (
            arith,
            is,
            past,
            c.loop-table-test.true,
            c.min-table-end.ensures,
            c.tables-tables.ensures.count,
          )))
          ∙ inv.bytes told other past;
    }

pub returns-clause-free : goal.returns-clause-free
returns-clause-free g c told =
    let j = c.loop-table.journal in
    let inv = c.loop-table.invariant in
    all_free (ground_of c.args.journal.now) (working_of j) c.loop-table.table (count_pages j
    ∙ inv.keeps.size)
    (λ page below. omega (
      arith,
      below,
      count_pages j,
      numbers_enough c.args.journal.now,
      c.tables-tables.ensures.count,
      inv.keeps.size,
      c.loop-table-test.false,
      c.min-table-end.ensures,
      c.pages.ensures,
    )) (inv.clear told)
