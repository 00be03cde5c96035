use Rattle.std.proofs.Common.{refl, arith, ap, ◌∙◌, List, Bool, length}
use Rattle.std.proofs.lemmas.List.{length-set}
use Rattle.gx_journal.proofs.CallLemmas.{keeps_failed, slot_written}
use Rattle.gx_journal.proofs.SlotLemmas.{flags_off, written_stored}
use Rattle.gx_journal.proofs.room.spill.Goals as goal

pub returns-in_err-write_slot-clause-keeps : goal.returns-in_err-write_slot-clause-keeps
returns-in_err-write_slot-clause-keeps g c =
    keeps_failed g.D.Device c.from_residual.result c.from_residual.ensures.0
    (slot_written g.D.Device c.args.p c.args.device.now c.write_slot.new.device c.args.working.now _
    c.requires.below c.requires.changed c.requires.backed c.in_err-write_slot.ensures.writes refl
    (λ q ne. refl) c.write_slot.ensures.frames)

pub returns-clause-stored : goal.returns-clause-stored
returns-clause-stored g c told r is =
    let room = c.requires.backed.places.room in
    written_stored _ _ c.args.p r.bytes (g.D.Device.content c.args.device.now)
    (g.D.Device.content c.write_slot.new.device) c.args.working.now.spilled.items
    c.note.new.spilled.items c.requires.below
    (omega (arith, room, c.requires.below, g.met.D.Device.sized c.args.device.now told))
    c.note.ensures.spilled (c.in_ok-write_slot.ensures.written told r is)

pub returns-clause-keeps : goal.returns-clause-keeps
returns-clause-keeps g c =
    let old = c.args.working.now.spilled.items in
    slot_written g.D.Device c.args.p c.args.device.now c.write_slot.new.device c.args.working.now _
    c.requires.below c.requires.changed c.requires.backed c.in_ok-write_slot.ensures.writes
    (ap (λ (l : List Bool). length l) c.note.ensures.spilled ∙ length-set old c.args.p _)
    (flags_off old c.note.new.spilled.items c.args.p c.note.ensures.spilled)
    c.write_slot.ensures.frames
