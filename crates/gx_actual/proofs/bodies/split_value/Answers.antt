use Rattle.std.proofs.Common.{◌≡◌, ◌≤◌, ◌++◌, length, subst, sym, arith}
use Rattle.std.specs.Prelude.{ℤ}
use Rattle.std.specs.Int.{w64}
use Rattle.std.specs.Int.RustNames.{FitsSigned}
use Rattle.std.proofs.Math.Facts.{to_z-of_z}
use Rattle.gx_values.specs.declared.values.Value.TheVariants as value
use Rattle.gx_actual.specs.Bodies.{field_bytes}
use Rattle.gx_actual.proofs.BodyLemmas.{int_split}
use Rattle.gx_actual.proofs.bodies.split_value.Goals as goal

pub returns-in_ok-front-in-Int-clause-whole : goal.returns-in_ok-front-in-Int-clause-whole
returns-in_ok-front-in-Int-clause-whole c =
    let parts = c.in_ok-front-in-Int.ensures.cases in
    let long : 8 ≤ length c.args.rest.now = omega (arith, parts.2) in
    let fits : FitsSigned w64 c.cast_signed-int.result =
    record { sfits = c.cast_signed-int.type_inv } in
    subst (λ (z : ℤ). c.args.rest.now ≡ field_bytes (value.Int z) ++ c.in_ok-front-in-Int.more.now)
    (sym (to_z-of_z {w = w64} fits))
    (int_split c.args.rest.now c.in_ok-front-in-Int.front.now c.in_ok-front-in-Int.more.now
    c.cast_signed-int.result c.from_be_bytes.result long parts.0 parts.1
    (λ i. (c.type_inv.rest i).fits) c.from_be_bytes.type_inv c.from_be_bytes.ensures fits
    c.cast_signed-int.ensures)
