use Rattle.std.proofs.Common.{rules, Bool, ap, ◌≡◌, ◌∙◌, ℕ, false, true, [], length, get_or, vec_len, refl, sym, subst, arith}
use Rattle.std.specs.Prelude.{if◌then◌else◌}
use Rattle.gx_device.specs.Content.{block_of}
use Rattle.gx_layout.specs.Layout.{OnlyBlocks, slot, home}
use Rattle.gx_journal.specs.State.{pages_told}
use Rattle.gx_journal.proofs.CommitLemmas.{spilled_prepared, spilled_only, spilled_replaced, none_spilled}
use Rattle.gx_journal.proofs.CallLemmas.{writes_slots_failed, head_spilled, head_published}
use Rattle.gx_journal.proofs.DeviceLemmas.{no_ok, touches_failed}
use Rattle.gx_journal.specs.Sources.{IsCommitted}
use Rattle.gx_journal.proofs.PublishLemmas.{failed_stored, done_stored, moved_cached, moved_pages, stored_home}
use Rattle.gx_journal.proofs.SlotLemmas.{slots_gate}
use Rattle.gx_journal.proofs.SourceLemmas.{page_resident}
use Rattle.gx_journal.proofs.ForgetLemmas.{none_left}
use Rattle.gx_journal.proofs.UnchangedLemmas.{never_listed, still_unchanged}
use Rattle.gx_journal.specs.Working.{IsUnchangedIn}
use Rattle.gx_journal.proofs.commit.commit.Goals as goal

pub publish-requires-clause-places : goal.publish-requires-clause-places
publish-requires-clause-places g c = c.spill_all.ensures.keeps.writes.backed.places

pub publish-requires-clause-spilled : goal.publish-requires-clause-spilled
publish-requires-clause-spilled g c =
    let N = g.D.Device.size c.args.device.now in
    let P = length c.args.working.now.spilled.items in
    let working = c.spill_all.new.working in
    let blocks = (g.D.Device.content c.spill_all.new.device).now.blocks in
    record {
      count = working.pages;
      named = working.named;
      slots = λ p on told r is.
          sym (page_resident N P blocks working.spilled.items working.frames.resident p r is)
          ∙ c.in_ok-spill_all.ensures.stored told p
          ∙ ap (λ (b : Bool). if b then get_or blocks (slot N p) []
          else get_or blocks (home N P p) []) on
          ∙ ap (λ (n : ℕ). get_or blocks (slot n p) [])
          (sym c.spill_all.ensures.keeps.writes.blocks);
    }

pub returns-in_err-spill_all-clause-replaces : goal.returns-in_err-spill_all-clause-replaces
returns-in_err-spill_all-clause-replaces g c told kept count rest =
    let sized = g.met.D.Device.sized c.args.device.now told in
    let size = sym (sized ∙ rest.fits.size) in
    spilled_only _ _ kept _ _ size count rest c.spill_all.ensures.keeps.writes.slots _
    (no_ok _ c.from_residual.result c.from_residual.ensures.0)

pub returns-then-is_empty-clause-replaces : goal.returns-then-is_empty-clause-replaces
returns-then-is_empty-clause-replaces g c told kept count rest =
    let content = g.D.Device.content in
    let tells = g.D.Device.tells in
    let N = g.D.Device.size c.args.device.now in
    let flags = c.args.working.now.spilled.items in
    let rs = c.args.working.now.frames.resident in
    let P = length flags in
    let old = content c.args.device.now in
    let mid = content c.spill_all.new.device in
    let is = c.spill_all.new.working.spilled.items in
    let ss = c.spill_all.new.working.frames.resident in
    let e = c.spill_all.ensures.keeps in
    let pages = pages_told tells N P old flags rs in
    let sized = g.met.D.Device.sized c.args.device.now told in
    let size = sym (sized ∙ rest.fits.size) in
    let room = c.requires.backed.places.room in
    let at_slot = c.in_ok-spill_all.ensures.stored told in
    let none : length c.spill_all.new.working.listed.items ≡ 0 = search rules in
    spilled_only N P kept old mid size count rest e.writes.slots pages
    (none_spilled N P kept old mid size count rest e.writes.slots tells told room flags is rs ss
    e.writes.size (e.same told) at_slot c.spill_all.new.working.listed.items none
    c.spill_all.new.working.named)

pub returns-in_err-publish-clause-replaces : goal.returns-in_err-publish-clause-replaces
returns-in_err-publish-clause-replaces g c told kept count rest =
    let content = g.D.Device.content in
    let tells = g.D.Device.tells in
    let N = g.D.Device.size c.args.device.now in
    let flags = c.args.working.now.spilled.items in
    let rs = c.args.working.now.frames.resident in
    let P = length flags in
    let old = content c.args.device.now in
    let mid = content c.spill_all.new.device in
    let is = c.spill_all.new.working.spilled.items in
    let ss = c.spill_all.new.working.frames.resident in
    let e = c.spill_all.ensures.keeps in
    let pages = pages_told tells N P old flags rs in
    let sized = g.met.D.Device.sized c.args.device.now told in
    let size = sym (sized ∙ rest.fits.size) in
    let room = c.requires.backed.places.room in
    let at_slot = c.in_ok-spill_all.ensures.stored told in
    let prepared = spilled_prepared N P kept old mid size count rest e.writes.slots tells told room
    flags is rs ss e.writes.size (e.same told) at_slot in
    let published = c.publish.ensures.replaces told kept pages prepared in
    spilled_replaced N P kept old mid size count rest e.writes.slots pages
    (content c.publish.new.device)
    (record {
      images = published.images;
      at_rest =
          no_ok _ c.from_residual-in_err-publish.result c.from_residual-in_err-publish.ensures.0;
    })

pub returns-clause-replaces : goal.returns-clause-replaces
returns-clause-replaces g c told kept count rest =
    let content = g.D.Device.content in
    let tells = g.D.Device.tells in
    let N = g.D.Device.size c.args.device.now in
    let flags = c.args.working.now.spilled.items in
    let rs = c.args.working.now.frames.resident in
    let P = length flags in
    let old = content c.args.device.now in
    let mid = content c.spill_all.new.device in
    let is = c.spill_all.new.working.spilled.items in
    let ss = c.spill_all.new.working.frames.resident in
    let e = c.spill_all.ensures.keeps in
    let pages = pages_told tells N P old flags rs in
    let sized = g.met.D.Device.sized c.args.device.now told in
    let size = sym (sized ∙ rest.fits.size) in
    let room = c.requires.backed.places.room in
    let at_slot = c.in_ok-spill_all.ensures.stored told in
    let prepared = spilled_prepared N P kept old mid size count rest e.writes.slots tells told room
    flags is rs ss e.writes.size (e.same told) at_slot in
    spilled_replaced N P kept old mid size count rest e.writes.slots pages
    (content c.publish.new.device) (c.in_ok-publish.ensures.replaces told kept pages prepared)

pub returns-then-is_empty-clause-closed : goal.returns-then-is_empty-clause-closed
returns-then-is_empty-clause-closed g c told closed =
    slots_gate (g.D.Device.size c.args.device.now) (length c.args.working.now.spilled.items) _ _
    c.spill_all.ensures.keeps.writes.slots
    closed

pub returns-in_err-spill_all-clause-keeps : goal.returns-in_err-spill_all-clause-keeps
returns-in_err-spill_all-clause-keeps g c =
    head_spilled g.D.Device (writes_slots_failed g.D.Device c.from_residual.result
    c.from_residual.ensures.0 c.in_err-spill_all.ensures.keeps.writes)

pub returns-then-is_empty-clause-keeps : goal.returns-then-is_empty-clause-keeps
returns-then-is_empty-clause-keeps g c =
    head_spilled g.D.Device c.in_ok-spill_all.ensures.keeps.writes

pub returns-in_err-publish-clause-keeps : goal.returns-in_err-publish-clause-keeps
returns-in_err-publish-clause-keeps g c =
    let content = g.D.Device.content in
    let N = g.D.Device.size c.args.device.now in
    let P = length c.args.working.now.spilled.items in
    let e = c.spill_all.ensures.keeps in
    let is = c.spill_all.new.working.spilled.items in
    let rs = c.spill_all.new.working.frames.resident in
    let listed = c.spill_all.new.working.listed.items in
    let named = c.spill_all.new.working.named in
    let mid = content c.spill_all.new.device in
    let new = content c.publish.new.device in
    let at = e.writes.blocks in
    let rest = subst (λ (k : ℕ). OnlyBlocks (IsCommitted N k listed) mid new) e.writes.size
    (subst (λ (n : ℕ). OnlyBlocks (IsCommitted n (length is) listed) mid new) at
    c.publish.ensures.touches.rest) in
    head_published g.D.Device _ listed c.in_ok-spill_all.ensures.keeps.writes
    (touches_failed g.D.Device c.from_residual-in_err-publish.result
    c.from_residual-in_err-publish.ensures.0 c.in_err-publish.ensures.touches) refl
    c.publish.ensures.frames.frames (λ told cached.
    moved_cached N P mid.now.blocks new.now.blocks is is rs c.publish.new.frames.resident
    c.publish.ensures.frames.found (failed_stored N P is listed named e.writes.size mid new rest)
    cached)

pub returns-clause-keeps : goal.returns-clause-keeps
returns-clause-keeps g c =
    let content = g.D.Device.content in
    let N = g.D.Device.size c.args.device.now in
    let P = length c.args.working.now.spilled.items in
    let e = c.spill_all.ensures.keeps in
    let is = c.spill_all.new.working.spilled.items in
    let rs = c.spill_all.new.working.frames.resident in
    let listed = c.spill_all.new.working.listed.items in
    let named = c.spill_all.new.working.named in
    let mid = content c.spill_all.new.device in
    let new = content c.publish.new.device in
    let at = e.writes.blocks in
    let rest = subst (λ (k : ℕ). OnlyBlocks (IsCommitted N k listed) mid new) e.writes.size
    (subst (λ (n : ℕ). OnlyBlocks (IsCommitted n (length is) listed) mid new) at
    c.publish.ensures.touches.rest) in
    head_published g.D.Device _ listed c.in_ok-spill_all.ensures.keeps.writes
    c.in_ok-publish.ensures.touches c.clear.ensures.long
    c.publish.ensures.frames.frames (λ told cached.
    let flags = c.clear.new.spilled.items in
    let homes = subst (λ (k : ℕ). (p : ℕ) → get_or is p false ≡ true →
    block_of new.now (home N k p) ≡ block_of mid.now (slot N p)) e.writes.size
    (subst (λ (n : ℕ). (p : ℕ) → get_or is p false ≡ true →
    block_of new.now (home n (length is) p) ≡ block_of mid.now (slot n p)) at
    (c.in_ok-publish.ensures.homes told)) in
    let stored = done_stored N P is listed named e.writes.size mid new rest flags
    c.clear.ensures.none homes in
    moved_cached N P mid.now.blocks new.now.blocks is flags rs c.publish.new.frames.resident
    c.publish.ensures.frames.found stored cached)

pub returns-clause-same : goal.returns-clause-same
returns-clause-same g c told q =
    let content = g.D.Device.content in
    let N = g.D.Device.size c.args.device.now in
    let P = length c.args.working.now.spilled.items in
    let e = c.spill_all.ensures.keeps in
    let is = c.spill_all.new.working.spilled.items in
    let rs = c.spill_all.new.working.frames.resident in
    let listed = c.spill_all.new.working.listed.items in
    let named = c.spill_all.new.working.named in
    let mid = content c.spill_all.new.device in
    let new = content c.publish.new.device in
    let at = e.writes.blocks in
    let rest = subst (λ (k : ℕ). OnlyBlocks (IsCommitted N k listed) mid new) e.writes.size
    (subst (λ (n : ℕ). OnlyBlocks (IsCommitted n (length is) listed) mid new) at
    c.publish.ensures.touches.rest) in
    let flags = c.clear.new.spilled.items in
    let homes = subst (λ (k : ℕ). (p : ℕ) → get_or is p false ≡ true →
    block_of new.now (home N k p) ≡ block_of mid.now (slot N p)) e.writes.size
    (subst (λ (n : ℕ). (p : ℕ) → get_or is p false ≡ true →
    block_of new.now (home n (length is) p) ≡ block_of mid.now (slot n p)) at
    (c.in_ok-publish.ensures.homes told)) in
    let stored = done_stored N P is listed named e.writes.size mid new rest flags
    c.clear.ensures.none homes in
    moved_pages N P mid.now.blocks new.now.blocks is flags rs c.publish.new.frames.resident
    c.publish.ensures.frames.found stored q ∙ e.same told q

pub returns-clause-home : goal.returns-clause-home
returns-clause-home g c told q =
    let content = g.D.Device.content in
    let N = g.D.Device.size c.args.device.now in
    let P = length c.args.working.now.spilled.items in
    let e = c.spill_all.ensures.keeps in
    let is = c.spill_all.new.working.spilled.items in
    let rs = c.spill_all.new.working.frames.resident in
    let listed = c.spill_all.new.working.listed.items in
    let named = c.spill_all.new.working.named in
    let mid = content c.spill_all.new.device in
    let new = content c.publish.new.device in
    let at = e.writes.blocks in
    let rest = subst (λ (k : ℕ). OnlyBlocks (IsCommitted N k listed) mid new) e.writes.size
    (subst (λ (n : ℕ). OnlyBlocks (IsCommitted n (length is) listed) mid new) at
    c.publish.ensures.touches.rest) in
    let flags = c.clear.new.spilled.items in
    let homes = subst (λ (k : ℕ). (p : ℕ) → get_or is p false ≡ true →
    block_of new.now (home N k p) ≡ block_of mid.now (slot N p)) e.writes.size
    (subst (λ (n : ℕ). (p : ℕ) → get_or is p false ≡ true →
    block_of new.now (home n (length is) p) ≡ block_of mid.now (slot n p)) at
    (c.in_ok-publish.ensures.homes told)) in
    let stored = done_stored N P is listed named e.writes.size mid new rest flags
    c.clear.ensures.none homes in
    moved_pages N P mid.now.blocks new.now.blocks is flags rs c.publish.new.frames.resident
    c.publish.ensures.frames.found stored q
    ∙ c.in_ok-spill_all.ensures.stored told q ∙ sym (stored q)
    ∙ stored_home N P new.now.blocks flags c.clear.ensures.none q

-- ---- where no page has changed

pub returns-in_err-spill_all-clause-unchanged : goal.returns-in_err-spill_all-clause-unchanged
returns-in_err-spill_all-clause-unchanged g c is = (c.spill_all.ensures.unchanged is.clean).0

pub returns-then-is_empty-clause-unchanged : goal.returns-then-is_empty-clause-unchanged
returns-then-is_empty-clause-unchanged g c is = (c.spill_all.ensures.unchanged is.clean).0

pub returns-in_err-publish-clause-unchanged : goal.returns-in_err-publish-clause-unchanged
returns-in_err-publish-clause-unchanged g c is =
    absurd (never_listed c.args.working.now c.spill_all.new.working
    (vec_len c.spill_all.new.working.listed) is (c.spill_all.ensures.unchanged is.clean).1
    (search rules) (sym c.is_empty.ensures ∙ c.if-is_empty.false))

pub returns-clause-unchanged : goal.returns-clause-unchanged
returns-clause-unchanged g c is =
    absurd (never_listed c.args.working.now c.spill_all.new.working
    (vec_len c.spill_all.new.working.listed) is (c.spill_all.ensures.unchanged is.clean).1
    (search rules) (sym c.is_empty.ensures ∙ c.if-is_empty.false))

pub returns-then-is_empty-clause-none_pending : goal.returns-then-is_empty-clause-none_pending
returns-then-is_empty-clause-none_pending g c told changed =
    let working = c.spill_all.new.working in
    let none : length working.listed.items ≡ 0 = search rules in
    let unspilled = none_left 0 working.listed.items working.spilled.items (omega (arith, none))
    working.named.every in
    absurd (changed (subst IsUnchangedIn (c.in_ok-spill_all.ensures.untouched unspilled) (record {
      clean = c.in_ok-spill_all.ensures.none_changed;
      unspilled = unspilled;
    })))

pub returns-then-is_empty-clause-saved : goal.returns-then-is_empty-clause-saved
returns-then-is_empty-clause-saved g c =
    let working = c.spill_all.new.working in
    let none : length working.listed.items ≡ 0 = search rules in
    record {
      clean = c.in_ok-spill_all.ensures.none_changed;
      unspilled = none_left 0 working.listed.items working.spilled.items (omega (arith, none))
          working.named.every;
    }

pub returns-clause-saved : goal.returns-clause-saved
returns-clause-saved g c = record {
  clean = λ q. still_unchanged c.spill_all.new.working.frames.resident c.publish.new.frames.resident
      q
      (c.publish.ensures.frames.found q) (c.in_ok-spill_all.ensures.none_changed q);
  unspilled = c.clear.ensures.none;
}
