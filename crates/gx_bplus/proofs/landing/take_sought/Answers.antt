use Rattle.std.proofs.Common.{sym, ◌∙◌, subst}
use Rattle.gx_slots.specs.Entries.{AreAscending}
use Rattle.gx_slots.specs.Page.{entries_of}
use Rattle.gx_slots.specs.Spots.{IsRankOf}
use Rattle.gx_slots.proofs.SpotLemmas.{rank_removed}
use Rattle.gx_btree.proofs.EntryLemmas.{entries_up, ascending_from}
use Rattle.gx_bplus.specs.Changes.{IsTakenFrom}
use Rattle.gx_bplus.proofs.TakenLemmas.{taken_at, none_taken}
use Rattle.gx_bplus.proofs.landing.take_sought.Goals as goal

pub returns-then-sought-clause-shown : goal.returns-then-sought-clause-shown
returns-then-sought-clause-shown c =
    let page = c.args.page.now in
    let found = c.requires.sought.found c.if-sought.true in
    let t = taken_at (entries_of page) c.args.sought.spot.place c.args.key.now
    (entries_up page c.requires.page) found.0 found.1 in (
      record {
        page = c.take_at.ensures.page;
        ascending = subst AreAscending
            (sym c.take_at.ensures.entries) (ascending_from _ t.1);
      },
      c.take_at.ensures.next ∙ c.requires.page.1,
    )

pub returns-then-sought-clause-taken : goal.returns-then-sought-clause-taken
returns-then-sought-clause-taken c =
    let page = c.args.page.now in
    let found = c.requires.sought.found c.if-sought.true in
    let t = taken_at (entries_of page) c.args.sought.spot.place c.args.key.now
    (entries_up page c.requires.page) found.0 found.1 in
    subst (IsTakenFrom c.args.key.now (entries_of page)) (sym c.take_at.ensures.entries) t.0

pub returns-then-sought-clause-rank : goal.returns-then-sought-clause-rank
returns-then-sought-clause-rank c =
    let entries = entries_of c.args.page.now in
    let key = c.args.key.now in
    let found = c.requires.sought.found c.if-sought.true in
    subst (IsRankOf key (entries_of c.take_at.new.page)) (sym c.take_at.ensures.place)
    (subst (λ es. IsRankOf key es c.args.sought.spot.place) (sym c.take_at.ensures.entries)
    (rank_removed key entries c.args.sought.spot.place c.requires.sought.rank found.0))

pub returns-clause-taken : goal.returns-clause-taken
returns-clause-taken c =
    none_taken (entries_of c.args.page.now) c.args.key.now
    (c.requires.sought.missing c.if-sought.false)
