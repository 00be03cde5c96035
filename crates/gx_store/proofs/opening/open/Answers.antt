use Rattle.std.proofs.Common.{◌≡◌, ◌∙◌, inl, ℕ, List, refl, sym, ap, subst}
use Rattle.std.specs.Prelude.{Err}
use Rattle.std.proofs.lemmas.Result.{IfErr-weaker}
use Rattle.gx_device.specs.Content.{Moment, device_at}
use Rattle.gx_store.specs.Device.{Reopens}
use Rattle.gx_store.specs.Opening.{AreUnopened, IsUnopened}
use Rattle.gx_store.specs.Crashes.{RefusesBy}
use Rattle.gx_store.proofs.ShelfLemmas.{attached_rest, refused_rest}
use Rattle.gx_store.proofs.AttachLemmas.{attached_blocks}
use Rattle.gx_store.proofs.CauseLemmas.{refused_by, unopened_on}
use Rattle.gx_store.proofs.AlikeLemmas.{alike_itself, recovery_itself}
use Rattle.gx_store.proofs.CrashLemmas.{unattached}
use Rattle.gx_store.proofs.NamedLemmas.{unattached_by, opened_by, left_named}
use Rattle.gx_store.proofs.opening.open.Goals as goal

pub returns-in-Err-clause-unopened : goal.returns-in-Err-clause-unopened
returns-in-Err-clause-unopened g c = λ can.
    subst (λ w. IsUnopened c.args.name.now c.args.schema.now c.args.equation.now c.args.specs.now
    (g.M.Device.content c.args.machine) w)
    (sym c.into.ensures)
    (refused_by c.in-Err.stop c.args.name.now c.args.schema.now c.args.equation.now c.args.specs.now
    (g.M.Device.content c.args.machine)
    (λ e. c.attach.ensures.absent can.told (c.in-Err.is ∙ ap (λ s. Err s) e))
    (λ e. let some = c.attach.ensures.exists (c.in-Err.is ∙ ap (λ s. Err s) e) in cc))

pub returns-in-Err-clause-attaches : goal.returns-in-Err-clause-attaches
returns-in-Err-clause-attaches g c =
    λ can. refused_rest c.args.name.now _ _ c.in-Err.ensures.refused

pub returns-clause-holds : goal.returns-clause-holds
returns-clause-holds g c = λ can blocks maps was is.
    let o = c.in_default.ensures.opened can.told can.may refl in
    c.open_attached.ensures.holds can.told maps
    (subst (λ (bs : List (List ℕ)). Reopens c.args.schema.now c.args.equation.now c.args.specs.now
    maps bs)
    (attached_blocks c.args.name.now blocks (g.M.Device.content c.args.machine)
    (g.M.Device.content c.attach.new.self) was o) is)

pub returns-clause-unopened : goal.returns-clause-unopened
returns-clause-unopened g c = λ can.
    let o = c.in_default.ensures.opened can.told can.may refl in
    IfErr-weaker c.open_attached.result _ _
    (λ e a. unopened_on c.args.schema.now c.args.equation.now c.args.specs.now o.blocks
    c.args.name.now
    (g.M.Device.content c.args.machine) e.1 o.was
    (subst (λ (bs : List (List ℕ)). AreUnopened c.args.schema.now c.args.equation.now
    c.args.specs.now bs e.1) o.attached.blocks_are a))
    (c.open_attached.ensures.unopened can.told)

pub returns-clause-attaches : goal.returns-clause-attaches
returns-clause-attaches g c = λ can.
    let o = c.in_default.ensures.opened can.told can.may refl in
    attached_rest c.args.name.now o.blocks (g.M.Device.content c.args.machine)
    (g.M.Device.content c.attach.new.self) _ o.attached c.open_attached.ensures.silent

pub returns-clause-opened : goal.returns-clause-opened
returns-clause-opened g c = λ can.
    let old = g.M.Device.content c.args.machine in
    let mid = g.M.Device.content c.attach.new.self in
    let o = c.in_default.ensures.opened can.told can.may refl in
    let left = c.open_attached.ensures.left can.told in
    opened_by c.args.name.now c.args.schema.now c.args.equation.now c.args.specs.now old
    c.open_attached.result mid o c.attach.ensures.time c.open_attached.ensures.silent left.reached
    left.images
    (c.open_attached.ensures.opened can.told)

pub returns-clause-left : goal.returns-clause-left
returns-clause-left g c = λ can.
    let old = g.M.Device.content c.args.machine in
    let mid = g.M.Device.content c.attach.new.self in
    let o = c.in_default.ensures.opened can.told can.may refl in
    left_named c.args.name.now c.args.schema.now c.args.equation.now c.args.specs.now old mid o
    c.open_attached.result c.attach.ensures.time c.open_attached.ensures.silent
    (c.open_attached.ensures.unopened can.told)
    (c.open_attached.ensures.left can.told)

pub returns-in-Err-clause-left : goal.returns-in-Err-clause-left
returns-in-Err-clause-left g c = λ can.
    let old = g.M.Device.content c.args.machine in
    let new = g.M.Device.content c.attach.new.self in
    let same : (n : List ℕ) → device_at new.now n ≡ device_at old.now n =
    λ n. ap (λ (m : Moment). device_at m n) c.in-Err.ensures.refused.now in
    record {
      kept = λ blocks was. (blocks, same c.args.name.now ∙ was, alike_itself blocks);
      recovered = λ blocks was. (blocks, same c.args.name.now ∙ was, recovery_itself blocks);
      no_database = λ goes blocks was none. same c.args.name.now ∙ was;
      absent = λ none. same c.args.name.now ∙ none;
      untouched = λ e. same c.args.name.now;
      crash = inl (unattached old new c.attach.ensures.time c.in-Err.ensures.refused);
      refused = subst (λ w. RefusesBy c.args.name.now old new w) (sym c.into.ensures)
          (unattached_by c.in-Err.stop c.args.name.now old new
          (λ e. let some = c.attach.ensures.exists (c.in-Err.is ∙ ap (λ s. Err s) e) in cc)
          (unattached old new c.attach.ensures.time c.in-Err.ensures.refused));
    }
