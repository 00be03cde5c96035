use Rattle.std.proofs.Common.{rules, ◌≡◌, List, length, sym, ap, subst, ◌∙◌, arith, get_or, Bool, true, false}
use Rattle.std.specs.Prelude.{is_none, not}
use Rattle.gx_codec.specs.declared.slots.Slot.{Slot}
use Rattle.gx_access.proofs.ViewSteps.{free_at, free_past}
use Rattle.gx_access.proofs.views.is_free.Goals as goal

-- the other way round
turned : (a b : Bool) → a ≡ not b → b ≡ not a
turned a true is = sym (ap not is)
turned a false is = sym (ap not is)

pub returns-then-number-len : goal.returns-then-number-len
returns-then-number-len c =
    let many = c.len.ensures in
    let slot = c.index.result.now in
    let at = subst (λ (ss : List Slot). slot ≡ get_or ss c.args.number slot) c.slots.view_is
    c.index.ensures in
    let count : c.len.result ≡ length c.args.slots.now = search rules in
    turned _ _ c.is_none.ensures ∙ ap (λ (s : Slot). is_none s.code) at
    ∙ sym (free_at c.args.number c.args.slots.now slot (omega (arith, count, c.if-number-len.true)))

pub returns-else-number-len : goal.returns-else-number-len
returns-else-number-len c =
    let many : c.len.result ≡ length c.args.slots.now = search rules in
    sym (free_past c.args.number c.args.slots.now (omega (arith, many, c.if-number-len.false)))
