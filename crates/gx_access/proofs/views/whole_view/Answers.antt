use Rattle.std.proofs.Common.{◌≡◌, ◌∷◌, [], ◌++◌, ℕ, ◌+◌, ap, sym, ◌∙◌, arith, None}
use Rattle.gx_access.specs.Access.{all_slots}
use Rattle.gx_access.proofs.ViewSteps.{slots_more}
use Rattle.gx_access.proofs.views.whole_view.Goals as goal

pub loop-number-preserved : goal.loop-number-preserved
loop-number-preserved c =
    let none : c.loop-number.number ≡ 0 + c.loop-number.number = omega arith in
    c.in_ok-push.ensures.items
    ∙ ap (λ ss. ss ++ record { number = c.loop-number.number; code = None } ∷ []) c.loop-number.invariant
    ∙ ap (λ (n : ℕ). all_slots 0 c.loop-number.number ++ record { number = n; code = None } ∷ []) none
    ∙ sym (slots_more 0 c.loop-number.number)
