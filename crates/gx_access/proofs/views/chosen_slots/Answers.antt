use Rattle.std.proofs.Common.{◌∙◌, length, ap, arith}
use Rattle.gx_access.proofs.ViewSteps.{chosen_read, chosen_out}
use Rattle.gx_access.proofs.views.chosen_slots.Goals as goal

pub loop-i-preserved : goal.loop-i-preserved
loop-i-preserved c =
    chosen_read c.args.mask.now c.args.slots.now c.deref-slot-items.result.now c.loop-i.i _
    c.is_chosen.result c.loop-i.made.items c.push_slot.new.made.items _
    (c.deref-slot-items.ensures.value ∙ c.slots.view_is) c.loop-i-test.true c.is_chosen.ensures
    c.in_ok-push_slot.ensures c.loop-i.invariant

pub returns : goal.returns
returns c =
    let many = ap length (c.deref-slot-items.ensures.value ∙ c.slots.view_is) in
    chosen_out c.args.mask.now c.args.slots.now c.loop-i.i c.loop-i.made.items _
    (omega (arith, many, c.loop-i-test.false)) c.loop-i.invariant
