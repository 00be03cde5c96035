use Rattle.std.proofs.Common.{◌≢◌, subst, sym}
use Rattle.std.specs.List.{All}
use Rattle.gx_slots.specs.Entries.{Entry}
use Rattle.gx_slots.specs.Page.{entries_of}
use Rattle.gx_slots.proofs.PageLemmas.{page_of}
use Rattle.gx_chain.proofs.EntryLemmas.{less_other}
use Rattle.gx_chain.proofs.walk.try_entry.Goals as goal

pub add-requires-2-clause-other : goal.add-requires-2-clause-other
add-requires-2-clause-other c =
    let es = entries_of c.args.page.now in
    let found = c.in-Some.ensures.found in
    subst (All (λ (e : Entry). e.key ≢ c.args.key.now)) (sym c.take.ensures.entries)
    (less_other es c.in-Some.place c.args.key.now (page_of c.args.page.now c.requires.page).distinct
    found.0 found.1)
