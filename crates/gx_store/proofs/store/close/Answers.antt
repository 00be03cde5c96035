use Rattle.std.proofs.Common.{◌∙◌, sym, ap, subst}
use Rattle.gx_journal.specs.Journal.{device_of}
use Rattle.gx_pages.specs.View.{journal_of}
use Rattle.gx_pages.specs.Paged.{ground_of, kept_sheets}
use Rattle.gx_leaves.specs.Paged.{pages_of, places_in, kept_of}
use Rattle.gx_leaves.specs.Places.{specs_of}
use Rattle.gx_store.specs.Device.{IsSettled}
use Rattle.gx_store.proofs.JournalLemmas.{journal_settled, maps_placed}
use Rattle.gx_store.proofs.store.close.Goals as goal

pub returns-clause-settled : goal.returns-clause-settled
returns-clause-settled g c = λ schema equation head whole.
    let s = c.args.store in
    let j = journal_of (pages_of s) in
    let out = c.into_device.ensures
    ∙ ap (λ x. device_of x) (c.into_journal.ensures
    ∙ ap (λ p. journal_of p) c.into_pages.ensures) in
    subst (λ d. IsSettled schema equation (specs_of (places_in s)) (kept_of s)
    (g.M.Device.content d).now.blocks) (sym out)
    (journal_settled j whole.told (g.met.M.Device.sized j.device whole.told) whole.settled schema
    equation (specs_of (places_in s))
    (kept_of s) head.magic head.texts
    s.laid_out.room.room
    (maps_placed (ground_of j) (places_in s) (kept_sheets j) s.laid_out.places_are whole.laid))
