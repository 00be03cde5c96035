use Rattle.std.proofs.Common.{rules, ◌≡◌, List, ℕ, Err, true, inr, sym, subst}
use Rattle.std.specs.Prelude.{OnOk, IfErr}
use Rattle.gx_ports.specs.declared.kinds.LeafSpec.{LeafSpec}
use Rattle.gx_store.specs.Device.{IsMadeOn, IsNoneOrEmpty, IsSize}
use Rattle.gx_store.specs.Making.{IsUnmade, IsMadeBy, LeavesMaking}
use Rattle.gx_device.specs.Content.{device_at}
use Rattle.gx_store.specs.Opening.{is_untouched}
use Rattle.gx_store.specs.Store.{OfBlocks}
use Rattle.gx_operations.specs.Working.{IsWorking}
use Rattle.gx_operations.proofs.MakeLemmas.{told_texts}
use Rattle.gx_operations.proofs.LeavingLemmas.{through_made, through_unmade}
use Rattle.gx_operations.proofs.WorkingLemmas.{not_made, reopens, working_by, attached_still}
use Rattle.gx_operations.proofs.working.make_and_play.Goals as goal

pub returns-in-Ok-clause-worked : goal.returns-in-Ok-clause-worked
returns-in-Ok-clause-worked g c = λ can.
    let content = g.M.Device.content in
    let x = c.args.stored in
    let old = content c.args.machine in
    let mid = content c.make-made.result.1 in
    let new = content c.play_made.result.1 in
    let schema : c.as_slice.result.now ≡ c.args.stored.schema_text = first_of (search rules, cc) in
    let equation : c.as_slice-2.result.now ≡ c.args.stored.equation_text =
    first_of (search rules, cc) in
    let size = subst (λ (ks : List LeafSpec). IsSize ks c.args.blocks) (search rules)
    (subst (λ r. OnOk r (IsSize c.deref.result.now c.args.blocks)) c.in-Ok.is
    c.make-made.ensures.size) in
    let facts = subst (λ r. OnOk r (IsMadeBy c.args.device.now c.args.blocks c.as_slice.result.now
    c.as_slice-2.result.now c.deref.result.now old mid)) c.in-Ok.is (c.make-made.ensures.made can) in
    let free = facts.makes.free in
    let made = subst (λ (ks : List LeafSpec). OfBlocks c.args.device.now mid
    (IsMadeOn c.args.blocks x.schema_text x.equation_text ks)) (search rules)
    (subst (λ (e : List ℕ). OfBlocks c.args.device.now mid
    (IsMadeOn c.args.blocks x.schema_text e c.deref.result.now)) equation
    (subst (λ (s : List ℕ). OfBlocks c.args.device.now mid
    (IsMadeOn c.args.blocks s c.as_slice-2.result.now c.deref.result.now)) schema facts.is)) in
    let named = facts.makes.named in
    working_by x c.args.device.now c.args.blocks c.args.records old mid new size free made named
    c.play_made.ensures.silent c.play_made.result.0
    (c.play_made.ensures.count can.told)
    (c.play_made.ensures.worked can.told
    (reopens x c.args.device.now c.args.blocks c.args.records old mid new
    size free made named c.play_made.ensures.silent))

pub returns-clause-worked : goal.returns-clause-worked
returns-clause-worked g c = λ can.
    let content = g.M.Device.content in
    let x = c.args.stored in
    let old = content c.args.machine in
    let new = content c.make-made.result.1 in
    let schema : c.as_slice.result.now ≡ c.args.stored.schema_text = first_of (search rules, cc) in
    let equation : c.as_slice-2.result.now ≡ c.args.stored.equation_text =
    first_of (search rules, cc) in
    subst (λ w. IsWorking x c.args.device.now c.args.blocks c.args.records old new (Err w))
    (sym c.unopened_ending.ensures)
    (not_made x c.args.device.now c.args.blocks c.args.records old new c.in-Err.why
    (subst (λ (ks : List LeafSpec). IsUnmade c.args.device.now c.args.blocks ks old c.in-Err.why)
    (search rules)
    (subst (λ r. IfErr r (IsUnmade c.args.device.now c.args.blocks c.deref.result.now old))
    c.in-Err.is (c.make-made.ensures.unmade can)))
    (subst (λ r. IfErr r (λ why. is_untouched why ≡ true
    → device_at new.now c.args.device.now ≡ device_at old.now c.args.device.now)) c.in-Err.is
    (c.make-made.ensures.left can).untouched)
    (λ free blocks there. told_texts x c.as_slice.result.now c.as_slice-2.result.now
    c.deref.result.now (λ t e ks. IsNoneOrEmpty t e ks blocks) schema equation (search rules)
    ((c.make-made.ensures.left can).left free blocks there)))

pub returns-in-Ok-clause-attaches : goal.returns-in-Ok-clause-attaches
returns-in-Ok-clause-attaches g c = λ can.
    let content = g.M.Device.content in
    let facts = subst (λ r. OnOk r (IsMadeBy c.args.device.now c.args.blocks c.as_slice.result.now
    c.as_slice-2.result.now c.deref.result.now (content c.args.machine)
    (content c.make-made.result.1))) c.in-Ok.is (c.make-made.ensures.made can) in
    let named = facts.makes.named in
    attached_still c.args.device.now (content c.args.machine) (content c.make-made.result.1)
    (content c.play_made.result.1) (c.make-made.ensures.attaches can) named
    c.play_made.ensures.silent

-- ---- what a crash leaves

pub returns-in-Ok-clause-through : goal.returns-in-Ok-clause-through
returns-in-Ok-clause-through g c = λ can.
    let content = g.M.Device.content in
    let x = c.args.stored in
    let old = content c.args.machine in
    let mid = content c.make-made.result.1 in
    let schema : c.as_slice.result.now ≡ c.args.stored.schema_text = first_of (search rules, cc) in
    let equation : c.as_slice-2.result.now ≡ c.args.stored.equation_text =
    first_of (search rules, cc) in
    let made = told_texts x c.as_slice.result.now c.as_slice-2.result.now c.deref.result.now
    (λ t e ks. IsMadeBy c.args.device.now c.args.blocks t e ks old mid) schema equation
    (search rules)
    (subst (λ r. OnOk r (IsMadeBy c.args.device.now c.args.blocks c.as_slice.result.now
    c.as_slice-2.result.now c.deref.result.now old mid)) c.in-Ok.is (c.make-made.ensures.made can)) in
    inr (through_made x c.args.records c.args.device.now c.args.blocks old mid
    (content c.play_made.result.1) made c.play_made.ensures.silent
    (c.play_made.ensures.left can.told made.each).images)

pub returns-in-Ok-clause-each : goal.returns-in-Ok-clause-each
returns-in-Ok-clause-each g c = λ can.
    let content = g.M.Device.content in
    let x = c.args.stored in
    let old = content c.args.machine in
    let mid = content c.make-made.result.1 in
    let schema : c.as_slice.result.now ≡ c.args.stored.schema_text = first_of (search rules, cc) in
    let equation : c.as_slice-2.result.now ≡ c.args.stored.equation_text =
    first_of (search rules, cc) in
    let made = told_texts x c.as_slice.result.now c.as_slice-2.result.now c.deref.result.now
    (λ t e ks. IsMadeBy c.args.device.now c.args.blocks t e ks old mid) schema equation
    (search rules)
    (subst (λ r. OnOk r (IsMadeBy c.args.device.now c.args.blocks c.as_slice.result.now
    c.as_slice-2.result.now c.deref.result.now old mid)) c.in-Ok.is (c.make-made.ensures.made can)) in
    (c.play_made.ensures.left can.told made.each).each

pub returns-clause-through : goal.returns-clause-through
returns-clause-through g c = λ can.
    let content = g.M.Device.content in
    let x = c.args.stored in
    let old = content c.args.machine in
    let new = content c.make-made.result.1 in
    let schema : c.as_slice.result.now ≡ c.args.stored.schema_text = first_of (search rules, cc) in
    let equation : c.as_slice-2.result.now ≡ c.args.stored.equation_text =
    first_of (search rules, cc) in
    through_unmade x c.args.records c.args.device.now c.args.blocks old new c.make-made.result.0
    (told_texts x c.as_slice.result.now c.as_slice-2.result.now c.deref.result.now
    (λ t e ks. LeavesMaking c.args.device.now c.args.blocks t e ks old new c.make-made.result.0)
    schema equation (search rules) (c.make-made.ensures.left can))
