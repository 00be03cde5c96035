use Rattle.std.proofs.Common.{ap}
use Rattle.gx_equation.specs.declared.heads.Linkset.TheVariants as linksets
use Rattle.gx_forms.specs.Forms.{link_form}
use Rattle.gx_forms.specs.Narrow.{narrow}
use Rattle.gx_typing.proofs.Onward.{array_goes_on, ring_goes_on, inverted_goes_on}
use Rattle.gx_typing.proofs.sides.link_typed.Goals as goal

pub returns-in_ok-form-in-Array : goal.returns-in_ok-form-in-Array
returns-in_ok-form-in-Array c =
    let e = array_goes_on c.args.number c.args.kinds.0 c.args.kinds.1 c.in_ok-form-in-Array.form
    c.args.side.now c.in-Array.members c.args.lines.now c.args.typing.now c.in-Array.is
    c.in_ok-form-in-Array.ensures.narrow in
    rw e (rw (c.behind.ensures) at c.term_typed.ensures)

pub returns-in_ok-forms-in-Ring : goal.returns-in_ok-forms-in-Ring
returns-in_ok-forms-in-Ring c =
    let e = ring_goes_on c.args.number c.args.kinds.0 c.args.kinds.1 c.args.side.now
    c.in-Ring.firsts c.in-Ring.nexts c.args.lines.now c.args.typing.now c.in-Ring.is in
    let f = c.both_typed.ensures (link_form linksets.Ring c.args.kinds.0 c.args.kinds.1)
    c.in_ok-forms-in-Ring.ensures.narrow.0 c.in_ok-forms-in-Ring.ensures.narrow.1 in
    rw e (rw (c.behind-in-Ring.ensures) at f)

pub returns-in_ok-forms-in-Inverted : goal.returns-in_ok-forms-in-Inverted
returns-in_ok-forms-in-Inverted c =
    let e = inverted_goes_on c.args.number c.args.kinds.0 c.args.kinds.1 c.args.side.now
    c.in-Inverted.pairs c.in-Inverted.owners c.args.lines.now c.args.typing.now c.in-Inverted.is
    in
    let f = c.both_typed-in-Inverted.ensures
    (link_form linksets.Inverted c.args.kinds.0 c.args.kinds.1)
    (ap narrow c.in_ok-forms-in-Inverted.ensures.0)
    (ap narrow c.in_ok-forms-in-Inverted.ensures.1) in
    rw e (rw (c.behind-in-Inverted.ensures) at f)
