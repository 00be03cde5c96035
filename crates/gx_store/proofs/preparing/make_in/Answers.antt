use Rattle.std.proofs.Common.{◌∙◌, not, sym, ap, subst}
use Rattle.gx_device.specs.Crash.{LeavesOnly}
use Rattle.gx_device.specs.Faults.{Counted}
use Rattle.gx_leaves.specs.Making.{IsAllFree}
use Rattle.gx_leaves.specs.Paged.{pages_of}
use Rattle.gx_leaves.specs.Places.{specs_of}
use Rattle.gx_leaves.proofs.PlaceLemmas.{specs_back}
use Rattle.gx_journal.specs.Journal.{content_of, device_of}
use Rattle.gx_pages.specs.View.{journal_of}
use Rattle.gx_pages.specs.Laws.{calm_later}
use Rattle.gx_pages.specs.Paged.{ground_of, working_sheets}
use Rattle.gx_store.specs.Making.{not_laid}
use Rattle.gx_store.specs.Crashes.{HasNoMagic}
use Rattle.gx_store.specs.Store.{is_fault}
use Rattle.gx_store.proofs.MakeLemmas.{counted_leaves}
use Rattle.gx_store.proofs.MadeLemmas.{kept_none}
use Rattle.gx_store.proofs.preparing.make_in.Goals as goal

pub returns-in-Ok-clause-made : goal.returns-in-Ok-clause-made
returns-in-Ok-clause-made g c = λ told steady free.
    let all : IsAllFree (ground_of (journal_of c.args.pages))
    (working_sheets (journal_of c.args.pages)) =
    record { own = free.own; free = free.free } in
    record {
      working = c.in-Ok.ensures.working told all;
      whole = c.in-Ok.ensures.whole told all steady;
    }

pub returns-in-Ok-clause-over : goal.returns-in-Ok-clause-over
returns-in-Ok-clause-over g c =
    let j = journal_of c.args.pages in
    let keeps = c.in-Ok.ensures.keeps in
    record {
      specs_are = ap specs_of c.in-Ok.ensures.places ∙ specs_back c.args.specs.now _ 1;
      ground = keeps.ground;
      calm = λ calm. calm_later (journal_of (pages_of c.in-Ok.leaves)) (content_of j)
          (keeps.calm (content_of j) calm);
    }

pub returns-in-Ok-clause-images : goal.returns-in-Ok-clause-images
returns-in-Ok-clause-images g c = λ told calm none.
    let j = journal_of c.args.pages in
    let keeps = c.in-Ok.ensures.keeps in
    kept_none j (journal_of (pages_of c.in-Ok.leaves)) told
    (g.met.M.Device.sized (device_of j) told)
    (g.met.M.Device.sized (device_of (journal_of (pages_of c.in-Ok.leaves))) told)
    keeps.ground (keeps.calm (content_of j) calm) keeps.silent none

pub returns-in-Err-clause-images : goal.returns-in-Err-clause-images
returns-in-Err-clause-images g c = λ told calm none.
    let j = journal_of c.args.pages in
    let keeps = c.in-Err.ensures.keeps in
    subst (λ d. LeavesOnly (HasNoMagic (content_of j).now) (content_of j) (g.M.Device.content d))
    (sym (c.into_device.ensures ∙ ap (λ x. device_of x) c.into_journal.ensures))
    (kept_none j (journal_of c.in-Err.pages) told
    (g.met.M.Device.sized (device_of j) told)
    (g.met.M.Device.sized (device_of (journal_of c.in-Err.pages)) told)
    keeps.ground (keeps.calm (content_of j) calm) keeps.silent none)

pub returns-in-Err-clause-faults : goal.returns-in-Err-clause-faults
returns-in-Err-clause-faults g c =
    let before = g.M.Device.faults (device_of (journal_of c.args.pages)) in
    let out = c.into_device.ensures ∙ ap (λ j. device_of j) c.into_journal.ensures in
    subst (λ w. Counted (not (is_fault w)) before (g.M.Device.faults c.into_device.result))
    (sym c.not_made.ensures)
    (subst (λ d. Counted (not (is_fault (not_laid c.in-Err.why))) before (g.M.Device.faults d))
    (sym out)
    (counted_leaves c.in-Err.why before _ c.in-Err.ensures.cause))
