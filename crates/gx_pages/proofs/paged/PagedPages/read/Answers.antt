use Rattle.std.proofs.Common.{[], sym, ap, ◌∙◌, arith}
use Rattle.std.specs.Prelude.{Some}
use Rattle.std.proofs.lemmas.Option.{slice_get-get_or}
use Rattle.std.proofs.lemmas.Result.{on_ok_weaker}
use Rattle.gx_journal.specs.Journal.{working_of}
use Rattle.gx_pages.specs.Laws.{count_pages}
use Rattle.gx_pages.proofs.paged.PagedPages.read.Goals as goal

pub returns-clause-read : goal.returns-clause-read
returns-clause-read g c told =
    let j = c.args.self.now.journal in
    on_ok_weaker c.read_page.result
    (λ is. slice_get-get_or (working_of j) c.args.page []
    (omega (arith, count_pages j, c.requires.page))
    ∙ ap Some (sym is)) (c.read_page.ensures.page told)
