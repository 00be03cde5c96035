use Rattle.std.proofs.Common.{◌∙◌, false, sym, ap, subst}
use Rattle.gx_device.specs.Content.{Silent}
use Rattle.gx_device.specs.Crash.{LeavesOnly}
use Rattle.gx_device.specs.Faults.{Counted}
use Rattle.gx_journal.specs.Journal.{content_of, device_of}
use Rattle.gx_leaves.specs.Paged.{pages_of, head_of, working_of, kept_of, IsWhole, WasWhole}
use Rattle.gx_pages.specs.View.{journal_of}
use Rattle.gx_store.specs.Crashes.{HasNoMagic}
use Rattle.gx_store.proofs.CauseLemmas.{counted_fault, counted_still}
use Rattle.gx_store.proofs.MadeLemmas.{stored_none}
use Rattle.gx_store.proofs.preparing.commit_made.Goals as goal

pub returns-in-Ok-clause-holds : goal.returns-in-Ok-clause-holds
returns-in-Ok-clause-holds g c = λ whole.
    let k = c.in-Ok.ensures.kept in
    record {
      working = k.working;
      kept = k.kept;
      whole = k.whole whole;
      was_whole = k.kept_whole.0 whole;
    }

pub returns-in-Ok-clause-calm : goal.returns-in-Ok-clause-calm
returns-in-Ok-clause-calm g c = λ calm.
    c.in-Ok.ensures.replaces.calm (content_of (journal_of (pages_of c.args.leaves))) calm

pub returns-in-Ok-clause-images : goal.returns-in-Ok-clause-images
returns-in-Ok-clause-images g c = λ told calm none.
    let j = journal_of (pages_of c.args.leaves) in
    stored_none (head_of c.args.leaves) (kept_of c.args.leaves) (working_of c.args.leaves)
    (WasWhole c.args.leaves) (IsWhole c.args.leaves) (content_of j).now (content_of j)
    (content_of (journal_of (pages_of c.commit.new.self)))
    (g.met.M.Device.sized (device_of j) told) none
    (c.commit.ensures.replaces.images (content_of j) calm)

pub returns-in-Err-clause-images : goal.returns-in-Err-clause-images
returns-in-Err-clause-images g c = λ told calm none.
    let j = journal_of (pages_of c.args.leaves) in
    subst (λ d. LeavesOnly (HasNoMagic (content_of j).now) (content_of j) (g.M.Device.content d))
    (sym (c.into_device.ensures ∙ ap (λ x. device_of x) (c.into_journal.ensures
    ∙ ap (λ p. journal_of p) c.into_pages.ensures)))
    (stored_none (head_of c.args.leaves) (kept_of c.args.leaves) (working_of c.args.leaves)
    (WasWhole c.args.leaves) (IsWhole c.args.leaves) (content_of j).now (content_of j)
    (content_of (journal_of (pages_of c.commit.new.self)))
    (g.met.M.Device.sized (device_of j) told) none
    (c.commit.ensures.replaces.images (content_of j) calm))

pub returns-in-Ok-clause-faults : goal.returns-in-Ok-clause-faults
returns-in-Ok-clause-faults g c = counted_still _ _ c.in-Ok.ensures.faults.counted

pub returns-in-Err-clause-faults : goal.returns-in-Err-clause-faults
returns-in-Err-clause-faults g c =
    subst (λ d. Counted false (g.M.Device.faults (device_of (journal_of (pages_of c.args.leaves))))
    (g.M.Device.faults d))
    (sym (c.into_device.ensures ∙ ap (λ x. device_of x) (c.into_journal.ensures
    ∙ ap (λ p. journal_of p) c.into_pages.ensures)))
    (counted_fault _ _ c.in-Err.ensures.faults.later c.in-Err.ensures.faults.failed)

pub returns-in-Err-clause-silent : goal.returns-in-Err-clause-silent
returns-in-Err-clause-silent g c =
    subst (λ d. Silent (content_of (journal_of (pages_of c.args.leaves))) (g.M.Device.content d))
    (sym (c.into_device.ensures ∙ ap (λ x. device_of x) (c.into_journal.ensures
    ∙ ap (λ p. journal_of p) c.into_pages.ensures)))
    c.commit.ensures.settles.silent
