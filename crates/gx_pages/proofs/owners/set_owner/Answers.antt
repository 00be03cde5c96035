use Rattle.std.proofs.Common.{◌/◌, ap, subst, ◌∙◌, arith, set, ℕ, List}
use Rattle.std.proofs.lemmas.Result.{on_ok_weaker}
use Rattle.gx_device.specs.Faults.{IsCounted}
use Rattle.gx_journal.specs.Journal.{working_of, device_of}
use Rattle.gx_pages.specs.Paged.{ground_of}
use Rattle.gx_pages.specs.Laws.{count_pages, numbers_enough}
use Rattle.gx_pages.proofs.CallLemmas.{keeps_joined}
use Rattle.gx_pages.proofs.OwnerLemmas.{owned_anew}
use Rattle.gx_pages.proofs.owners.set_owner.Goals as goal

pub returns-clause-owned : goal.returns-clause-owned
returns-clause-owned g c told =
    let old = c.args.journal.now in
    let page = c.args.page in
    let pages = working_of old in
    on_ok_weaker c.write_page.result (λ written. owned_anew (ground_of old) pages
    (working_of c.write_page.new.self) page c.args.owner c.read_page.new.into c.set_number.new.table
    (omega (arith, count_pages old, c.requires.below))
    (omega (arith, count_pages old, numbers_enough old)) c.ranges.owner.fits
    (omega (arith, c.read_page.auto.into))
    (c.in_ok-read_page.ensures.page told) c.set_number.ensures
    (written ∙ ap (λ (ps : List (List ℕ)). set ps (page / 2048) c.set_number.new.table)
    c.read_page.ensures.reads.working))
    (c.write_page.ensures.page told)

pub returns-clause-keeps : goal.returns-clause-keeps
returns-clause-keeps g c =
    let read = c.read_page.ensures.reads in
    let written = c.write_page.ensures in
    record {
      keeps = keeps_joined read.keeps written.keeps;
      silent = record {
        said = written.silent.said ∙ read.silent.said;
        shelf = written.silent.shelf ∙ read.silent.shelf;
        script = written.silent.script ∙ read.silent.script;
        aside = written.silent.aside ∙ read.silent.aside;
      };
      faults = subst (λ n. IsCounted n (g.D.Device.faults (device_of c.write_page.new.self))
          c.write_page.result)
          c.in_ok-read_page.ensures.reads.faults.same written.faults;
    }
