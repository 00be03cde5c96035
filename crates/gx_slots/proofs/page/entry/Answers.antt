use Rattle.std.proofs.Common.{ap, ◌∙◌}
use Rattle.std.specs.List.{slice_get}
use Rattle.std.proofs.lemmas.Iterator.Consumers.{nth_from_yields_List, YieldsList-from_rest}
use Rattle.gx_bytes.proofs.RecordLemmas.{lent_is_some, lent_is_at}
use Rattle.gx_slots.specs.Entries.{lent}
use Rattle.gx_slots.specs.Page.{entries_of}
use Rattle.gx_slots.proofs.page.entry.Goals as goal

pub unwrap-requires : goal.unwrap-requires
unwrap-requires c =
    let entries = entries_of c.args.page.now in
    let got =
    nth_from_yields_List _ _ _ c.nth.ensures.ran (YieldsList-from_rest entries c.entries.ensures)
    ∙ ap (slice_get entries) c.from.ensures in
    lent_is_some lent c.nth.result entries c.args.i got c.requires.place

pub returns : goal.returns
returns c =
    let entries = entries_of c.args.page.now in
    let got =
    nth_from_yields_List _ _ _ c.nth.ensures.ran (YieldsList-from_rest entries c.entries.ensures)
    ∙ ap (slice_get entries) c.from.ensures in
    lent_is_at lent c.nth.result c.unwrap.result entries c.args.i got c.unwrap.ensures
