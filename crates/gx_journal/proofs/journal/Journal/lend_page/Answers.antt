use Rattle.std.proofs.Common.{◌∙◌, length, refl, sym, rules}
use Rattle.gx_frames.specs.Pool.{find_page}
use Rattle.gx_journal.specs.Sources.{stored}
use Rattle.gx_layout.proofs.CallLemmas.{failed_counted}
use Rattle.gx_journal.proofs.OpenLemmas.{places_of}
use Rattle.gx_journal.proofs.PageLemmas.{pages_at}
use Rattle.gx_journal.proofs.ReadLemmas.{reads_by, found_bytes}
use Rattle.gx_journal.proofs.journal.Journal.lend_page.Goals as goal

pub bring-requires-clause-backed : goal.bring-requires-clause-backed
bring-requires-clause-backed g c =
    record { places = places_of c.args.self.now; cached = c.args.self.now.cached }

pub returns-in_err-bring : goal.returns-in_err-bring
returns-in_err-bring g c =
    let failed = c.from_residual.ensures.0 in
    let keeps = c.in_err-bring.ensures.keeps in (
      (
        refl,
        λ _. tt,
        reads_by c.from_residual.result refl (g.met.D.Device.sized c.args.self.now.device) keeps
            c.bring.ensures.unchanged
            (failed_counted c.from_residual.result failed keeps.writes.faults),
      ),
      record { page = search rules; size = search rules; reads = tt },
    )

pub returns-in-Some : goal.returns-in-Some
returns-in-Some g c =
    let old = c.args.self.now in
    let N = g.D.Device.size old.device in
    let P = length old.working.spilled.items in
    let after = g.D.Device.content c.bring.new.device in
    let working = c.bring.new.working in
    let keeps = c.in_ok-bring.ensures.keeps in (
      (
        refl,
        λ _. tt,
        reads_by _ refl (g.met.D.Device.sized old.device) keeps c.bring.ensures.unchanged
            (record {
              later = keeps.writes.faults.later;
              failed = tt;
              same = keeps.writes.faults.same;
            }),
      ),
      record {
        page = λ told.
            found_bytes (find_page c.args.p working.frames.resident) c.in-Some.bytes.now
            (stored N P after.now.blocks working.spilled.items c.args.p) c.in-Some.ensures.value
            ∙ keeps.same told c.args.p
            ∙ sym (pages_at g.D.Device.tells N P (g.D.Device.content old.device)
            old.working.spilled.items old.working.frames.resident told c.args.p c.requires);
        size = c.in-Some.ensures.size;
        reads = tt;
      },
    )
