use Rattle.std.proofs.Common.{ℕ, List, subst, sym}
use Rattle.gx_laws.proofs.ResultLemmas.{on_ok_always}
use Rattle.gx_layout.specs.Layout.{NamesListed, has_bit_on, most_pages}
use Rattle.gx_layout.proofs.CallLemmas.{counted}
use Rattle.gx_journal.proofs.DeviceLemmas.{not_flushed, flushed}
use Rattle.gx_journal.proofs.publish.log.Goals as goal

pub returns-in_err-write_bitmap-clause-flushes : goal.returns-in_err-write_bitmap-clause-flushes
returns-in_err-write_bitmap-clause-flushes g c =
    not_flushed g.D.Device c.from_residual.result c.from_residual.ensures.0 (record {
      run = c.write_bitmap.ensures.run;
      touches = record {
        rest = c.write_bitmap.ensures.rest;
        size = c.write_bitmap.ensures.size;
        faults = c.in_err-write_bitmap.ensures.faults;
      };
    })

pub returns-clause-flushes : goal.returns-clause-flushes
returns-clause-flushes g c =
    let sync = c.sync.ensures in
    flushed g.D.Device (record {
      run = c.write_bitmap.ensures.run;
      touches = record {
        rest = c.write_bitmap.ensures.rest;
        size = c.write_bitmap.ensures.size;
        faults = c.in_ok-write_bitmap.ensures.faults;
      };
    }) sync.rest sync.size (counted sync.cause sync.counted) sync.none_pending

pub returns-clause-named : goal.returns-clause-named
returns-clause-named g c told =
    let n = most_pages (g.D.Device.size c.args.device.now) in
    on_ok_always c.sync.result
    (subst (λ (l : List (List ℕ)). NamesListed c.args.listed.now.items (has_bit_on l) n)
    (sym c.sync.ensures.rest.blocks)
    (subst (λ (xs : List ℕ).
    NamesListed xs (has_bit_on (g.D.Device.content c.write_bitmap.new.device).now.blocks) n)
    c.deref.ensures.value (c.in_ok-write_bitmap.ensures.written told)))
