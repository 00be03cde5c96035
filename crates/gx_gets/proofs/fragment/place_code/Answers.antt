use Rattle.std.proofs.Common.{sym, subst}
use Rattle.std.specs.Prelude.{IfSome}
use Rattle.gx_values.specs.declared.records.Field.{Field}
use Rattle.gx_values.specs.Values.{Fits, AreFit}
use Rattle.gx_gets.proofs.PlaceLemmas.{fit_set}
use Rattle.gx_gets.proofs.fragment.place_code.Goals as goal

pub returns-clause-fit : goal.returns-clause-fit
returns-clause-fit c = λ before.
    let one : Fits c.field_at-field.result.now.kind c.in-Some.value =
    subst (λ o. IfSome o (Fits c.field_at-field.result.now.kind)) c.in-Some.is
    c.in_ok-value.ensures.fits in
    subst (AreFit c.args.fields.now) (sym c.set_value.ensures.set)
    (fit_set c.args.fields.now c.args.out.now c.args.slot.number c.in-Some.value before
    c.requires.there
    (subst (λ (f : Field). Fits f.kind c.in-Some.value) c.field_at-field.ensures one))
