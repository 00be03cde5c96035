use Rattle.std.proofs.Common.{refl, sym, ◌∙◌, ◌+◌, ◌*◌, arith}
use Rattle.std.proofs.lemmas.Result.{on_ok_weaker}
use Rattle.gx_journal.specs.Journal.{working_of}
use Rattle.gx_pages.specs.Laws.{count_owners}
use Rattle.gx_pages.proofs.OwnerLemmas.{owner_listed}
use Rattle.gx_pages.proofs.paged.PagedPages.owners.Goals as goal

pub returns-clause-owners : goal.returns-clause-owners
returns-clause-owners g c told =
    let pages = working_of c.args.self.now.journal in
    on_ok_weaker c.owners_on.result (λ is i low below. is i low
    ∙ sym (owner_listed pages (2048 * c.args.table + i) _ (omega (arith, below, count_owners pages))
    refl))
    (c.owners_on.ensures.owners told)
