use Rattle.std.proofs.Common.{◌∙◌, ℕ, length, refl, sym, ap, subst, arith}
use Rattle.gx_device.specs.Content.{Moment, block_of}
use Rattle.gx_layout.specs.Layout.{is_open, pages_of}
use Rattle.gx_layout.proofs.CalmLemmas.{calm_listens}
use Rattle.gx_journal.specs.Sources.{IsCached}
use Rattle.gx_journal.specs.State.{pages_told}
use Rattle.gx_layout.proofs.CallLemmas.{counted}
use Rattle.gx_journal.proofs.OpenLemmas.{room_at}
use Rattle.gx_journal.proofs.PageLemmas.{still_homes, still_head, still_pages, still_cached, still_calm}
use Rattle.gx_journal.proofs.journal.Journal.hear.Goals as goal

pub invariant_of-self : goal.invariant_of-self
invariant_of-self g c =
    let old = c.args.self.now in
    let size = c.hear.ensures.size in
    let P = length old.working.spilled.items in
    record {
      room = room_at (g.D.Device.size c.hear.new.self) (g.D.Device.size old.device) P P size refl
          old.room;
      limit = omega (arith, old.limit, size);
      count = old.count ∙ ap pages_of (sym size);
      closed = λ told steady. ap (λ (m : Moment). is_open (block_of m 1)) c.hear.ensures.rest.now ∙
          old.closed told steady;
      cached = λ told. subst (λ (N : ℕ). IsCached N P (g.D.Device.content
          c.hear.new.self).now.blocks
          old.working.spilled.items old.working.frames.resident) (sym size)
          (still_cached (g.D.Device.content old.device) (g.D.Device.content c.hear.new.self) (ap (λ
          (m : Moment). m.blocks) c.hear.ensures.rest.now)
          (g.D.Device.size old.device) P old.working.spilled.items old.working.frames.resident
          (old.cached told));
    }

pub returns-clause-hears : goal.returns-clause-hears
returns-clause-hears g c =
    let e = c.hear.ensures in
    record {
      bound = e.bound;
      heard = e.heard;
      not_heard = e.not_heard;
      rest = e.rest;
      time = e.time;
      faults = counted e.cause e.counted;
    }

pub returns-clause-keeps : goal.returns-clause-keeps
returns-clause-keeps g c =
    let old = c.args.self.now in
    let tells = g.D.Device.tells in
    let before = g.D.Device.content old.device in
    let after = g.D.Device.content c.hear.new.self in
    let blocks = (ap (λ (m : Moment). m.blocks) c.hear.ensures.rest.now) in
    let size = c.hear.ensures.size in
    let P = length old.working.spilled.items in
    let flags = old.working.spilled.items in
    let rs = old.working.frames.resident in
    record {
      working = ap (λ (n : ℕ). pages_told tells n P after flags rs) size
          ∙ still_pages before after blocks tells (g.D.Device.size old.device) P flags rs;
      unchanged = λ is. is;
      keeps = record {
        kept = still_homes before after blocks tells P;
        head = still_head before after blocks tells;
        size = refl;
        frames = refl;
        blocks = size;
        steady = refl;
        calm = λ start. still_calm before after blocks tells old.failed P start (ap (λ (m : Moment).
            m.shelf) c.hear.ensures.rest.now)
            (λ v. calm_listens start v before after c.hear.ensures.time c.hear.ensures.rest);
      };
    }
