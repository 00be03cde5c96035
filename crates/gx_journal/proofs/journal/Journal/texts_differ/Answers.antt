use Rattle.std.proofs.Common.{◌∙◌, ℕ, Bool, List, length, get_or, refl, sym, ap, subst, arith}
use Rattle.gx_device.specs.Content.{Moment, block_of}
use Rattle.gx_layout.specs.Layout.{is_open, pages_of}
use Rattle.std.specs.Prelude.{IfOk}
use Rattle.gx_layout.specs.Head.{DifferFirst, text_at, text_area}
use Rattle.gx_journal.specs.State.{head_told}
use Rattle.gx_journal.specs.Sources.{IsCached}
use Rattle.gx_journal.specs.State.{pages_told}
use Rattle.gx_journal.proofs.OpenLemmas.{room_at}
use Rattle.gx_journal.proofs.PageLemmas.{still_homes, still_head, still_pages, still_cached, still_calm}
use Rattle.gx_journal.proofs.journal.Journal.texts_differ.Goals as goal

pub invariant_of-self : goal.invariant_of-self
invariant_of-self g c =
    let old = c.args.self.now in
    let size = c.texts_differ.ensures.size in
    let P = length old.working.spilled.items in
    record {
      room = room_at (g.D.Device.size c.texts_differ.new.device) (g.D.Device.size old.device) P P
          size refl old.room;
      limit = omega (arith, old.limit, size);
      count = old.count ∙ ap pages_of (sym size);
      closed = λ told steady. ap (λ (m : Moment). is_open (block_of m 1))
          c.texts_differ.ensures.reads.now ∙ old.closed told steady;
      cached = λ told. subst (λ (N : ℕ). IsCached N P (g.D.Device.content
          c.texts_differ.new.device).now.blocks
          old.working.spilled.items old.working.frames.resident) (sym size)
          (still_cached (g.D.Device.content old.device) (g.D.Device.content
          c.texts_differ.new.device) (ap (λ (m : Moment). m.blocks)
          c.texts_differ.ensures.reads.now)
          (g.D.Device.size old.device) P old.working.spilled.items old.working.frames.resident
          (old.cached told));
    }

pub returns-clause-reads : goal.returns-clause-reads
returns-clause-reads g c =
    let old = c.args.self.now in
    let tells = g.D.Device.tells in
    let before = g.D.Device.content old.device in
    let after = g.D.Device.content c.texts_differ.new.device in
    let blocks = (ap (λ (m : Moment). m.blocks) c.texts_differ.ensures.reads.now) in
    let size = c.texts_differ.ensures.size in
    let P = length old.working.spilled.items in
    let flags = old.working.spilled.items in
    let rs = old.working.frames.resident in
    record {
      working = ap (λ (n : ℕ). pages_told tells n P after flags rs) size
          ∙ still_pages before after blocks tells (g.D.Device.size old.device) P flags rs;
      unchanged = λ is. is;
      keeps = record {
        kept = still_homes before after blocks tells P;
        head = still_head before after blocks tells;
        size = refl;
        frames = refl;
        blocks = size;
        steady = refl;
        calm = λ start. still_calm before after blocks tells old.failed P start (ap (λ (m : Moment).
            m.shelf) c.texts_differ.ensures.reads.now)
            (c.texts_differ.ensures.reads.calm start);
      };
      silent = record {
        said = ap (λ (m : Moment). m.said) c.texts_differ.ensures.reads.now;
        shelf = ap (λ (m : Moment). m.shelf) c.texts_differ.ensures.reads.now;
        script = c.texts_differ.ensures.reads.script;
        aside = c.texts_differ.ensures.reads.aside;
      };
      faults = c.texts_differ.ensures.faults;
    }

pub returns-clause-place : goal.returns-clause-place
returns-clause-place g c told =
    let before = g.D.Device.content c.args.self.now.device in
    subst (λ (head : List (List ℕ)). IfOk c.texts_differ.result
    (DifferFirst (text_at head)
    (λ q. get_or (text_area c.args.schema.now c.args.equation.now) q 0)))
    (sym (ap (λ (b : Bool). head_told b before) told)) (c.texts_differ.ensures.place told)

pub returns-clause-now : goal.returns-clause-now
returns-clause-now g c = c.texts_differ.ensures.reads.now
