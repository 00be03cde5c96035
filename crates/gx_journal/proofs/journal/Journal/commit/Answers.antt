use Rattle.std.proofs.Common.{◌≡◌, ◌∙◌, ℕ, false, length, refl, sym, ap, arith}
use Rattle.std.proofs.lemmas.Result.{on_ok_weaker}
use Rattle.gx_layout.specs.Layout.{pages_of}
use Rattle.gx_layout.specs.Recovered.{view_now}
use Rattle.gx_journal.specs.State.{pages_told, homes_told}
use Rattle.gx_journal.proofs.OpenLemmas.{calm_count, calm_rest, opened_calm, places_of, room_at}
use Rattle.gx_journal.proofs.CommitLemmas.{either_images, pages_many, calm_committed, committed_still}
use Rattle.gx_journal.proofs.PageLemmas.{body_head, committed, committed_pages}
use Rattle.gx_journal.proofs.journal.Journal.commit.Goals as goal

pub commit-committed-requires : goal.commit-committed-requires
commit-committed-requires g c =
    record {
      backed = record { places = places_of c.args.self.now; cached = c.args.self.now.cached };
    }

pub returns-clause-settles : goal.returns-clause-settles
returns-clause-settles g c =
    let old = c.args.self.now in
    let keeps = c.commit-committed.ensures.keeps in
    record {
      head = body_head g.D.Device.tells (g.D.Device.size old.device) _ _
          (g.met.D.Device.sized old.device) keeps.touches.rest;
      size = keeps.size;
      frames = keeps.frames;
      blocks = keeps.touches.size;
      silent = keeps.touches.rest.silent;
    }

pub returns-clause-kept : goal.returns-clause-kept
returns-clause-kept g c =
    let old = c.args.self.now in
    let new = c.commit-committed.new in
    let keeps = c.commit-committed.ensures.keeps in
    committed c.commit-committed.result g.D.Device.tells (g.D.Device.size old.device)
    (length old.working.spilled.items)
    (length new.working.spilled.items) (g.D.Device.content old.device)
    (g.D.Device.content new.device) old.working.spilled.items new.working.spilled.items
    old.working.frames.resident new.working.frames.resident keeps.size old.room
    (λ told. g.met.D.Device.sized old.device told ∙ sym keeps.touches.rest.count)
    c.commit-committed.ensures.home c.commit-committed.ensures.same

pub returns-clause-working : goal.returns-clause-working
returns-clause-working g c =
    let old = c.args.self.now in
    let new = c.commit-committed.new in
    let keeps = c.commit-committed.ensures.keeps in
    let Q = length new.working.spilled.items in
    on_ok_weaker c.commit-committed.result
    (λ same. ap (λ (n : ℕ). pages_told g.D.Device.tells n Q (g.D.Device.content new.device)
    new.working.spilled.items new.working.frames.resident) keeps.touches.size ∙ same)
    (committed_pages c.commit-committed.result g.D.Device.tells (g.D.Device.size old.device)
    (length old.working.spilled.items)
    (length new.working.spilled.items) (g.D.Device.content old.device)
    (g.D.Device.content new.device) old.working.spilled.items new.working.spilled.items
    old.working.frames.resident new.working.frames.resident keeps.size
    c.commit-committed.ensures.same)

pub returns-clause-replaces : goal.returns-clause-replaces
returns-clause-replaces g c =
    let old = c.args.self.now in
    let new = c.commit-committed.new in
    let tells = g.D.Device.tells in
    let N = g.D.Device.size old.device in
    let P = length old.working.spilled.items in
    let Q = length new.working.spilled.items in
    let before = g.D.Device.content old.device in
    let after = g.D.Device.content new.device in
    let e = c.commit-committed.ensures in
    let kept = homes_told tells P before in
    let pages = pages_told tells N P before old.working.spilled.items old.working.frames.resident in
    record {
      images = λ start is.
          either_images tells is.told kept pages before _
          (e.replaces is.told (view_now kept before)
          (calm_count tells old.failed P start before is)
          (calm_rest tells old.failed P start before is)).images;
      calm = λ start is.
          let count : length pages ≡ Q = omega (
            arith,
            pages_many tells is.told N P before
                old.working.spilled.items old.working.frames.resident,
            e.keeps.size,
          ) in
          let size : length after.now.blocks ≡ N =
          e.keeps.touches.rest.count ∙ sym (g.met.D.Device.sized old.device is.told) in
          calm_committed c.commit-committed.result tells old.failed c.is_err.result Q after
          is.steady c.is_err.ensures.value
          (on_ok_weaker c.commit-committed.result
          (λ rest. opened_calm tells is.told Q after (view_now pages before) count
          (room_at (length after.now.blocks) N Q P size e.keeps.size old.room) rest false refl)
          (e.replaces is.told (view_now kept before)
          (calm_count tells old.failed P start before is)
          (calm_rest tells old.failed P start before is)).at_rest);
      none_pending = e.none_pending;
    }

pub invariant_of-self-clause-room : goal.invariant_of-self-clause-room
invariant_of-self-clause-room g c = c.commit-committed.ensures.keeps.backed.places.room

pub invariant_of-self-clause-limit : goal.invariant_of-self-clause-limit
invariant_of-self-clause-limit g c = c.commit-committed.ensures.keeps.backed.places.limit

pub invariant_of-self-clause-count : goal.invariant_of-self-clause-count
invariant_of-self-clause-count g c =
    c.commit-committed.ensures.keeps.size ∙ c.args.self.now.count
    ∙ ap pages_of (sym c.commit-committed.ensures.keeps.touches.size)

pub invariant_of-self-clause-closed : goal.invariant_of-self-clause-closed
invariant_of-self-clause-closed g c told steady =
    committed_still c.commit-committed.result c.args.self.now.failed c.is_err.result
    c.is_err.ensures.value steady
    (λ was. c.commit-committed.ensures.closed told (c.args.self.now.closed told was))

pub invariant_of-self-clause-cached : goal.invariant_of-self-clause-cached
invariant_of-self-clause-cached g c = c.commit-committed.ensures.keeps.backed.cached
