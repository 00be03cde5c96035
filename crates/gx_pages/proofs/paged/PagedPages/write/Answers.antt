use Rattle.std.proofs.Common.{arith}
use Rattle.std.proofs.lemmas.Result.{on_ok_weaker}
use Rattle.gx_journal.specs.Journal.{working_of}
use Rattle.gx_pages.specs.Paged.{ground_of}
use Rattle.gx_pages.specs.Laws.{count_pages, numbers_enough}
use Rattle.gx_pages.proofs.OwnerLemmas.{sheets_written}
use Rattle.gx_pages.proofs.paged.PagedPages.write.Goals as goal

pub returns-clause-written : goal.returns-clause-written
returns-clause-written g c told =
    let j = c.args.self.now.journal in
    on_ok_weaker c.write_page.result
    (λ is. sheets_written (working_of j) (working_of c.write_page.new.self) (ground_of j).tables
    c.args.page c.args.from.now
    (omega (arith, count_pages j, numbers_enough j)) c.requires.page.past is)
    (c.write_page.ensures.page told)
