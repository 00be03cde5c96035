use Rattle.std.proofs.Common.{◌≡◌, ◌<◌, ◌∙◌, List, length, get_or, ap, subst, arith}
use Rattle.gx_access.specs.declared.access.Tested.{Tested}
use Rattle.gx_access.specs.Access.{tested}
use Rattle.gx_access.proofs.ViewSteps.{chosen_so_far, chosen_out}
use Rattle.gx_access.proofs.views.chosen_fields.Goals as goal

pub loop-i-preserved : goal.loop-i-preserved
loop-i-preserved c =
    let items = c.deref-tested-items.result.now in
    let all = tested c.args.fields.now c.args.slots.now in
    let same : items ≡ all =
    c.deref-tested-items.ensures.value ∙ c.all.view_is ∙ c.in_ok-all.ensures in
    let x = c.tested-item.result in
    chosen_so_far c.args.mask.now all c.loop-i.i x
    c.is_chosen.result c.loop-i.made.items c.push_tested.new.made.items _
    (subst (λ (ts : List Tested). c.loop-i.i < length ts) same c.loop-i-test.true)
    (subst (λ (ts : List Tested). x ≡ get_or ts c.loop-i.i x) same c.tested-item.is)
    c.is_chosen.ensures c.in_ok-push_tested.ensures c.loop-i.invariant

pub returns : goal.returns
returns c =
    let many = ap length
    (c.deref-tested-items.ensures.value ∙ c.all.view_is ∙ c.in_ok-all.ensures) in
    chosen_out c.args.mask.now (tested c.args.fields.now c.args.slots.now) c.loop-i.i
    c.loop-i.made.items _ (omega (arith, many, c.loop-i-test.false)) c.loop-i.invariant
