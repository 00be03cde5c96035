use Rattle.std.proofs.Common.{◌++◌, ◌≡◌, ◌∙◌, Option, true, false, IfSome, IsSome, rules, refl, sym, subst}
use Rattle.gx_values.specs.declared.values.Value.{Value}
use Rattle.gx_values.specs.Values.{Fits}
use Rattle.gx_values.specs.Borrowed.{value_of}
use Rattle.gx_values.proofs.WrittenLemmas.{next_fit, next_rest, none_there, too_long}
use Rattle.gx_actual.specs.Bodies.{field_bytes}
use Rattle.gx_actual.specs.BodyLaws.{bodies_prefix_free}
use Rattle.gx_actual.proofs.BodyLemmas.{item_short}
use Rattle.gx_actual.proofs.bodies.read_body.Goals as goal

pub split_value-requires : goal.split_value-requires
split_value-requires c =
    item_short c.args.fields.now c.field-item.result c.loop-field.field-index c.requires
    c.loop-field-test.true c.field-item.is

pub returns-in_default : goal.returns-in_default
returns-in_default c = λ vs fit e.
    none_there field_bytes c.args.fields.now c.args.fields.now c.loop-field.values.items vs
    c.args.body.now c.loop-field.rest.now c.field-item.result c.loop-field.field-index
    (bodies_prefix_free c.args.fields.now c.requires) refl c.loop-field.invariant.so_far
    c.loop-field.invariant.is c.loop-field-test.true c.field-item.is c.in_default.ensures.found
    fit e

pub returns-in_default-2 : goal.returns-in_default-2
returns-in_default-2 c = λ vs fit e.
    let misfit : Fits c.field-item.result.kind (value_of c.in-Some.front) → ⊥ = λ fits.
    let some : false ≡ true = subst IsSome c.in_default-2.is (c.in_ok-value.ensures.fits.1 fits) in
    cc in
    none_there field_bytes c.args.fields.now c.args.fields.now c.loop-field.values.items vs
    c.args.body.now c.loop-field.rest.now c.field-item.result c.loop-field.field-index
    (bodies_prefix_free c.args.fields.now c.requires) refl c.loop-field.invariant.so_far
    c.loop-field.invariant.is c.loop-field-test.true c.field-item.is
    (λ v more fits front. misfit
    (subst (Fits c.field-item.result.kind) (sym (c.in-Some.ensures.found v more fits front).0)
    fits)) fit e

pub loop-field-preserved : goal.loop-field-preserved
loop-field-preserved c =
    let v = c.in-Some-2.value in
    let same : v ≡ value_of c.in-Some.front =
    subst (λ (o : Option Value). IfSome o (λ copy. copy ≡ value_of c.in-Some.front))
    c.in-Some-2.is c.in_ok-value.ensures.same in
    let found : IsSome c.in_ok-value.field-0 = subst IsSome (sym c.in-Some-2.is) refl in
    let fits : Fits c.field-item.result.kind v =
    subst (Fits c.field-item.result.kind) (sym same) (c.in_ok-value.ensures.fits.0 found) in
    let front : c.loop-field.rest.now ≡ field_bytes v ++ c.in-Some.more.now =
    c.in-Some.ensures.whole ∙ (λ i. field_bytes (sym same i) ++ c.in-Some.more.now) in
    record {
      so_far = next_fit c.args.fields.now c.args.fields.now c.loop-field.values.items _ v
          c.field-item.result c.loop-field.field-index
          refl c.loop-field.invariant.so_far c.loop-field-test.true c.field-item.is fits
          c.in_ok-push.ensures.items;
      is = next_rest field_bytes c.args.body.now c.loop-field.rest.now c.in-Some.more.now
          c.loop-field.values.items _ v c.loop-field.invariant.is front c.in_ok-push.ensures.items;
    }

pub returns-else-is_empty : goal.returns-else-is_empty
returns-else-is_empty c = λ vs fit e.
    too_long field_bytes c.args.fields.now c.args.fields.now c.loop-field.values.items vs
    c.args.body.now c.loop-field.rest.now c.loop-field.field-index
    (bodies_prefix_free c.args.fields.now c.requires) refl c.loop-field.invariant.so_far
    c.loop-field.invariant.is c.loop-field-test.false (search rules) fit e
