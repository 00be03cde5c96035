use Rattle.std.proofs.Common.{sym, ◌∙◌, subst}
use Rattle.gx_slots.specs.Entries.{AreAscending}
use Rattle.gx_slots.specs.Page.{entries_of}
use Rattle.gx_btree.proofs.EntryLemmas.{entries_up, ascending_from}
use Rattle.gx_bplus.specs.Changes.{IsTakenFrom}
use Rattle.gx_bplus.proofs.TakenLemmas.{taken_at, none_taken}
use Rattle.gx_bplus.proofs.removal.take_key.Goals as goal

pub returns-in-Some-clause-shown : goal.returns-in-Some-clause-shown
returns-in-Some-clause-shown c =
    let page = c.args.page.now in
    let found = c.in-Some.ensures.found in
    let t = taken_at (entries_of page) c.in-Some.i c.args.key.now (entries_up page c.requires)
    found.0 found.1 in (
      record {
        page = c.take.ensures.page;
        ascending = subst AreAscending
            (sym c.take.ensures.entries) (ascending_from _ t.1);
      },
      c.take.ensures.next ∙ c.requires.1,
    )

pub returns-in-Some-clause-taken : goal.returns-in-Some-clause-taken
returns-in-Some-clause-taken c =
    let page = c.args.page.now in
    let found = c.in-Some.ensures.found in
    let t = taken_at (entries_of page) c.in-Some.i c.args.key.now (entries_up page c.requires)
    found.0 found.1 in
    subst (IsTakenFrom c.args.key.now (entries_of page)) (sym c.take.ensures.entries) t.0

pub returns-in-None-clause-taken : goal.returns-in-None-clause-taken
returns-in-None-clause-taken c =
    none_taken (entries_of c.args.page.now) c.args.key.now c.in-None.ensures.missing
