use Rattle.std.proofs.Common.{ap, arith}
use Rattle.std.proofs.lemmas.Option.{MatchOption-at_some}
use Rattle.gx_layout.specs.Places.{table_pages}
use Rattle.gx_journal.specs.Journal.{working_of}
use Rattle.gx_pages.specs.Paged.{ground_of}
use Rattle.gx_pages.specs.Laws.{count_pages, numbers_enough}
use Rattle.gx_pages.proofs.OwnerLemmas.{none_free, claimed_since}
use Rattle.gx_pages.proofs.paged.PagedPages.claim.Goals as goal

pub returns-in_default-clause-full : goal.returns-in_default-clause-full
returns-in_default-clause-full g c told full =
    let j = c.args.self.now.journal in
    none_free (ground_of j) (working_of j) c.in_ok-page.field-0 (count_pages j)
    (omega (arith, count_pages j, numbers_enough j)) c.in_default.is (c.in_ok-page.ensures.free told)

pub returns-clause-claimed : goal.returns-clause-claimed
returns-clause-claimed g c told =
    let j = c.args.self.now.journal in
    let between = c.find_free.new.journal in
    claimed_since (ground_of j) (ground_of between) (working_of j) (working_of between)
    (working_of c.set_owner.new.journal) c.in-Some.page c.args.owner
    (count_pages j) (ap table_pages c.find_free.ensures.keeps.keeps.blocks)
    c.find_free.ensures.working
    (MatchOption-at_some _ _ c.in-Some.page c.in-Some.is c.in_ok-page.ensures.past)
    (MatchOption-at_some _ _ c.in-Some.page c.in-Some.is (c.in_ok-page.ensures.free told))
    (c.in_ok-set_owner.ensures.owned told)
