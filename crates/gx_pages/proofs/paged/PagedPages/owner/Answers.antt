use Rattle.std.proofs.Common.{ap, arith, rules}
use Rattle.std.proofs.lemmas.Result.{IfOk-weaker}
use Rattle.gx_journal.specs.Journal.{working_of}
use Rattle.gx_pages.specs.Owners.{sheets_of}
use Rattle.gx_pages.specs.Laws.{count_pages}
use Rattle.gx_pages.proofs.OwnerLemmas.{owner_listed}
use Rattle.gx_pages.proofs.paged.PagedPages.owner.Goals as goal

pub returns-clause-owner : goal.returns-clause-owner
returns-clause-owner g c told =
    let j = c.args.self.now.journal in
    IfOk-weaker c.owner.result _ _ (λ owner is. owner_listed (working_of j) c.args.page owner
    (omega (arith, count_pages j, c.requires.page)) is) (c.owner.ensures.owner told)

pub returns-clause-reads : goal.returns-clause-reads
returns-clause-reads g c = record {
  working = ap sheets_of c.owner.ensures.working;
  unchanged = c.owner.ensures.unchanged;
  keeps = search rules;
}
