use Rattle.std.proofs.Common.{rules, ◌≡◌, length, sym, ap, ◌∙◌, arith, get_or}
use Rattle.std.specs.Prelude.{slice_set}
use Rattle.gx_encode.specs.Forms.{changed}
use Rattle.gx_access.specs.Access.{code_slot}
use Rattle.gx_access.proofs.ViewSteps.{changed_at, changed_past}
use Rattle.gx_access.proofs.views.with_code.Goals as goal

pub returns-then-number-len : goal.returns-then-number-len
returns-then-number-len c =
    let items = c.slots.inside.0.items in
    let i = c.args.number in
    let slot : c.code_slot.result ≡ code_slot c.args.code (get_or items i c.index.result.now) =
    c.code_slot.ensures ∙ ap (code_slot c.args.code) c.index.ensures in
    ap (slice_set items i) slot ∙ sym (changed_at i (code_slot c.args.code) items c.index.result.now)
    ∙ ap (changed i (code_slot c.args.code)) c.slots.view_is

pub returns-else-number-len : goal.returns-else-number-len
returns-else-number-len c =
    let many : c.len.result ≡ length c.args.slots = search rules in
    changed_past c.args.number (code_slot c.args.code) c.args.slots
    (omega (arith, many, c.if-number-len.false))
