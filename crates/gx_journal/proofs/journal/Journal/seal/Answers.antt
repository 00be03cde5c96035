use Rattle.std.proofs.Common.{◌≡◌, ℕ, length, ◌∙◌, refl, sym, ap, subst, arith}
use Rattle.gx_layout.specs.Layout.{is_open, pages_of}
use Rattle.std.proofs.lemmas.Result.{on_ok_weaker}
use Rattle.gx_layout.specs.Recovered.{view_now}
use Rattle.gx_journal.specs.Sources.{IsCached}
use Rattle.gx_journal.specs.State.{homes_told, pages_told}
use Rattle.gx_journal.proofs.OpenLemmas.{sealed_kept, sealed_texts, sealed_cached, sealed_pages, sealed_calm, calm_rest, head_first, room_at}
use Rattle.gx_journal.proofs.journal.Journal.seal.Goals as goal

pub invariant_of-self : goal.invariant_of-self
invariant_of-self g c =
    let old = c.args.self.now in
    let size = c.seal.ensures.size in
    let P = length old.working.spilled.items in
    record {
      room = room_at (g.D.Device.size c.seal.new.device) (g.D.Device.size old.device) P P size refl
          old.room;
      limit = omega (arith, old.limit, size);
      count = old.count ∙ ap pages_of (sym size);
      closed = λ told steady. ap is_open
          (c.seal.ensures.rest.blocks 1 (λ (e : 1 ≡ 0). absurd (omega (arith, e))))
          ∙ old.closed told steady;
      cached = λ told. subst (λ (N : ℕ). IsCached N P
          (g.D.Device.content c.seal.new.device).now.blocks old.working.spilled.items
          old.working.frames.resident) (sym size)
          (sealed_cached (g.D.Device.size old.device) P _ _ c.seal.ensures.rest
          old.working.spilled.items old.working.frames.resident (old.cached told));
    }

pub returns-clause-texts : goal.returns-clause-texts
returns-clause-texts g c =
    let old = c.args.self.now in
    sealed_texts (g.D.Device.size old.device) (length old.working.spilled.items) _ _
    c.seal.ensures.rest g.D.Device.tells

pub returns-clause-keeps : goal.returns-clause-keeps
returns-clause-keeps g c =
    let old = c.args.self.now in
    let tells = g.D.Device.tells in
    let N = g.D.Device.size old.device in
    let P = length old.working.spilled.items in
    let flags = old.working.spilled.items in
    let rs = old.working.frames.resident in
    let after = g.D.Device.content c.seal.new.device in
    record {
      working = ap (λ (n : ℕ). pages_told tells n P after flags rs) c.seal.ensures.size
          ∙ sealed_pages N P _ _ c.seal.ensures.rest tells flags rs;
      kept = sealed_kept N P _ _ c.seal.ensures.rest tells;
      size = refl;
      frames = refl;
      blocks = c.seal.ensures.size;
      steady = (λ is. is, λ is. is);
    }

pub returns-clause-seals : goal.returns-clause-seals
returns-clause-seals g c =
    let old = c.args.self.now in
    let tells = g.D.Device.tells in
    let N = g.D.Device.size old.device in
    let P = length old.working.spilled.items in
    let before = g.D.Device.content old.device in
    record {
      images = λ start is.
          c.seal.ensures.images (view_now (homes_told tells P before) before)
          (calm_rest tells old.failed P start before is);
      calm = λ start is.
          on_ok_weaker c.seal.result
          (λ none. sealed_calm N P _ _ c.seal.ensures.rest tells old.failed start is none)
          (c.seal.ensures.none_pending is.told);
      none_pending = c.seal.ensures.none_pending;
    }

pub returns-clause-magic : goal.returns-clause-magic
returns-clause-magic g c told =
    let after = g.D.Device.content c.seal.new.device in
    on_ok_weaker c.seal.result (λ is. (is.0, head_first g.D.Device.tells after told ∙ is.1))
    (c.seal.ensures.magic told)
