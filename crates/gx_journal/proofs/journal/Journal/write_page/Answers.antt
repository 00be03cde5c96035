use Rattle.std.proofs.Common.{◌∙◌, ℕ, length, refl, sym, ap}
use Rattle.std.proofs.lemmas.Result.{on_ok_weaker}
use Rattle.gx_layout.specs.Layout.{pages_of}
use Rattle.gx_journal.specs.State.{pages_told}
use Rattle.gx_journal.proofs.OpenLemmas.{places_of}
use Rattle.gx_journal.proofs.SlotLemmas.{slots_silent, slots_gate}
use Rattle.gx_journal.proofs.PageLemmas.{homes_same, head_same, calm_same, pages_same, pages_set, err_under}
use Rattle.gx_journal.proofs.journal.Journal.write_page.Goals as goal

pub write-requires-clause-backed : goal.write-requires-clause-backed
write-requires-clause-backed g c =
    record { places = places_of c.args.self.now; cached = c.args.self.now.cached }

pub returns-clause-keeps : goal.returns-clause-keeps
returns-clause-keeps g c =
    let old = c.args.self.now in
    let tells = g.D.Device.tells in
    let N = g.D.Device.size old.device in
    let P = length old.working.spilled.items in
    let Q = length c.write.new.working.spilled.items in
    let before = g.D.Device.content old.device in
    let after = g.D.Device.content c.write.new.device in
    let writes = c.write.ensures.writes in
    let sized = g.met.D.Device.sized old.device in
    record {
      kept = homes_same tells N P Q before after writes.size sized (λ told. writes.slots);
      head = head_same tells N P before after sized (λ told. writes.slots);
      size = writes.size;
      frames = writes.frames;
      blocks = writes.blocks;
      steady = refl;
      calm = λ start calm. calm_same tells old.failed old.failed N P Q start before after
          writes.size refl sized (λ told. writes.slots) calm;
    }

pub returns-clause-silent : goal.returns-clause-silent
returns-clause-silent g c =
    slots_silent (g.D.Device.size c.args.self.now.device)
    (length c.args.self.now.working.spilled.items) _ _ c.write.ensures.writes.slots

pub returns-clause-page : goal.returns-clause-page
returns-clause-page g c told =
    let old = c.args.self.now in
    let Q = length c.write.new.working.spilled.items in
    let after = g.D.Device.content c.write.new.device in
    on_ok_weaker c.write.result
    (λ is. ap (λ (n : ℕ). pages_told g.D.Device.tells n Q after c.write.new.working.spilled.items
    c.write.new.working.frames.resident) c.write.ensures.writes.blocks
    ∙ pages_set g.D.Device.tells (g.D.Device.size old.device)
    (length old.working.spilled.items) Q (g.D.Device.content old.device) after
    old.working.spilled.items c.write.new.working.spilled.items old.working.frames.resident
    c.write.new.working.frames.resident c.args.p c.args.from.now c.write.ensures.writes.size
    told c.requires.below is (c.write.ensures.others told)) (c.write.ensures.page told)

pub returns-clause-failed : goal.returns-clause-failed
returns-clause-failed g c =
    let old = c.args.self.now in
    let Q = length c.write.new.working.spilled.items in
    let after = g.D.Device.content c.write.new.device in
    err_under c.write.result c.write.ensures.failed (λ same.
    ap (λ (n : ℕ). pages_told g.D.Device.tells n Q after c.write.new.working.spilled.items
    c.write.new.working.frames.resident) c.write.ensures.writes.blocks
    ∙ pages_same g.D.Device.tells (g.D.Device.size old.device)
    (length old.working.spilled.items) Q
    (g.D.Device.content old.device) after
    old.working.spilled.items c.write.new.working.spilled.items old.working.frames.resident
    c.write.new.working.frames.resident c.write.ensures.writes.size same)

pub invariant_of-self-clause-room : goal.invariant_of-self-clause-room
invariant_of-self-clause-room g c = c.write.ensures.writes.backed.places.room

pub invariant_of-self-clause-limit : goal.invariant_of-self-clause-limit
invariant_of-self-clause-limit g c = c.write.ensures.writes.backed.places.limit

pub invariant_of-self-clause-count : goal.invariant_of-self-clause-count
invariant_of-self-clause-count g c =
    c.write.ensures.writes.size ∙ c.args.self.now.count
    ∙ ap pages_of (sym c.write.ensures.writes.blocks)

pub invariant_of-self-clause-closed : goal.invariant_of-self-clause-closed
invariant_of-self-clause-closed g c told steady =
    slots_gate (g.D.Device.size c.args.self.now.device)
    (length c.args.self.now.working.spilled.items) _ _ c.write.ensures.writes.slots
    (c.args.self.now.closed told steady)

pub invariant_of-self-clause-cached : goal.invariant_of-self-clause-cached
invariant_of-self-clause-cached g c = c.write.ensures.writes.backed.cached
