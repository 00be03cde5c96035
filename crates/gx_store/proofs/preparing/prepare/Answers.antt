use Rattle.std.proofs.Common.{◌≡◌, ◌∙◌, ℕ, List, length, refl, sym, ap, subst}
use Rattle.std.specs.Prelude.{Err}
use Rattle.std.proofs.lemmas.List.{length-replicate}
use Rattle.std.proofs.lemmas.Result.{IfErr-weaker}
use Rattle.gx_device.specs.Content.{Moment, device_at, zero_blocks}
use Rattle.gx_device.proofs.RunLemmas.{started}
use Rattle.gx_store.specs.Making.{IsUnmade, IsUnmadeOn}
use Rattle.gx_store.specs.declared.unopened.Unopened.TheVariants as unopened
use Rattle.gx_store.proofs.CrashLemmas.{unattached}
use Rattle.gx_store.proofs.PreparedLemmas.{none_new, prepared_by, left_preparing, unprepared_same}
use Rattle.gx_store.proofs.ShelfLemmas.{attached_rest, refused_rest}
use Rattle.gx_store.proofs.MakeLemmas.{unmade_by, unmade_on}
use Rattle.gx_store.proofs.preparing.prepare.Goals as goal

pub returns-in-Err-clause-unprepared : goal.returns-in-Err-clause-unprepared
returns-in-Err-clause-unprepared g c = λ can.
    subst (λ w. IsUnmade c.args.name.now c.args.blocks c.args.specs.now
    (g.M.Device.content c.args.machine) w) (sym c.into.ensures)
    (unmade_by c.in-Err.stop c.args.name.now c.args.blocks c.args.specs.now
    (g.M.Device.content c.args.machine)
    (c.is_size.ensures.0 c.if-not-is_size.false)
    (λ e. let none = c.attach.ensures.missing (c.in-Err.is ∙ ap (λ s. Err s) e) in cc)
    (λ e. c.attach.ensures.present can.told (c.in-Err.is ∙ ap (λ s. Err s) e)))

pub returns-in-Err-clause-attaches : goal.returns-in-Err-clause-attaches
returns-in-Err-clause-attaches g c =
    λ can. refused_rest c.args.name.now _ _ c.in-Err.ensures.refused

pub returns-in-Err-clause-left : goal.returns-in-Err-clause-left
returns-in-Err-clause-left g c = λ can.
    let old = g.M.Device.content c.args.machine in
    let new = g.M.Device.content c.attach.new.self in
    let name = c.args.name.now in
    unprepared_same name c.args.blocks c.args.specs.now old c.attach.new.self c.into.result
    (ap (λ (m : Moment). device_at m name) c.in-Err.ensures.refused.now)
    (unattached old new c.attach.ensures.time c.in-Err.ensures.refused)

pub returns-then-not-is_size-clause-left : goal.returns-then-not-is_size-clause-left
returns-then-not-is_size-clause-left g c = λ can.
    let old = g.M.Device.content c.args.machine in
    unprepared_same c.args.name.now c.args.blocks c.args.specs.now old c.args.machine unopened.Size
    refl (started (λ m. m ≡ old.now) old refl)

pub returns-clause-unprepared : goal.returns-clause-unprepared
returns-clause-unprepared g c = λ can.
    let m = c.in_default.ensures.made can.told can.may c.args.blocks refl in
    let count = g.met.M.Device.sized c.attach.new.self can.told
    ∙ ap (λ (bs : List (List ℕ)). length bs) m.attached.blocks_are
    ∙ length-replicate c.args.blocks _ in
    IfErr-weaker c.prepare_attached.result _ _
    (λ e are. unmade_on c.args.name.now c.args.blocks c.args.specs.now
    (g.M.Device.content c.args.machine) e.1
    (subst (λ (n : ℕ). IsUnmadeOn c.args.specs.now n e.1) count are))
    c.prepare_attached.ensures.unmade

pub returns-clause-attaches : goal.returns-clause-attaches
returns-clause-attaches g c = λ can.
    let m = c.in_default.ensures.made can.told can.may c.args.blocks refl in
    attached_rest c.args.name.now (zero_blocks c.args.blocks) (g.M.Device.content c.args.machine)
    (g.M.Device.content c.attach.new.self) _ m.attached c.prepare_attached.ensures.silent

pub returns-clause-prepared : goal.returns-clause-prepared
returns-clause-prepared g c = λ can.
    let m = c.in_default.ensures.made can.told can.may c.args.blocks refl in
    let old = g.M.Device.content c.args.machine in
    let mid = g.M.Device.content c.attach.new.self in
    let none = none_new c.args.name.now c.args.blocks old mid m (g.M.Device.size c.attach.new.self) in
    prepared_by c.args.name.now c.args.blocks c.args.specs.now old mid m
    (c.is_size.ensures.0 c.if-not-is_size.false) c.attach.ensures.time c.prepare_attached.result
    c.prepare_attached.ensures.silent
    (c.prepare_attached.ensures.images can.told m.none_pending none)
    c.args.schema.now c.args.equation.now
    (c.prepare_attached.ensures.prepared can.told none)

pub returns-clause-left : goal.returns-clause-left
returns-clause-left g c = λ can.
    let m = c.in_default.ensures.made can.told can.may c.args.blocks refl in
    let old = g.M.Device.content c.args.machine in
    let mid = g.M.Device.content c.attach.new.self in
    let count = g.met.M.Device.sized c.attach.new.self can.told
    ∙ ap (λ (bs : List (List ℕ)). length bs) m.attached.blocks_are
    ∙ length-replicate c.args.blocks _ in
    let none = none_new c.args.name.now c.args.blocks old mid m (g.M.Device.size c.attach.new.self) in
    left_preparing c.args.name.now c.args.blocks c.args.specs.now old mid m
    (c.is_size.ensures.0 c.if-not-is_size.false) c.attach.ensures.time c.prepare_attached.result
    c.prepare_attached.ensures.silent
    (c.prepare_attached.ensures.images can.told m.none_pending none)
    (IfErr-weaker c.prepare_attached.result _ _
    (λ e are. subst (λ (n : ℕ). IsUnmadeOn c.args.specs.now n e.1) count are)
    c.prepare_attached.ensures.unmade)
