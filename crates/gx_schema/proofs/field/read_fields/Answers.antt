use Rattle.std.proofs.Common.{◌∷◌, [], sym, arith, length-append}
use Rattle.std.proofs.lemmas.Result.{err_from_is_err_and}
use Rattle.gx_schema.proofs.LoopSteps.{fields_go_on, fields_end, field_fails, more_fails}
use Rattle.gx_schema.proofs.field.read_fields.Goals as goal

pub returns-in_err-field : goal.returns-in_err-field
returns-in_err-field c =
    let p = err_from_is_err_and c.from_residual.result c.from_residual.ensures.1 in
    rw (p.1, p.2) (field_fails c.loop-fields.fields c.loop-fields.rest.now _ _ (omega arith)
    (sym c.in_err-field.ensures.exact) c.loop-fields.invariant.1)

pub returns-in_err-more : goal.returns-in_err-more
returns-in_err-more c =
    let p = err_from_is_err_and c.from_residual-in_err-more.result
    c.from_residual-in_err-more.ensures.1 in
    rw (p.1, p.2) (more_fails c.loop-fields.fields c.loop-fields.rest.now _ _ _ _ (omega arith)
    (sym c.in_ok-field.ensures.exact) (sym c.in_err-more.ensures) c.loop-fields.invariant.1)

pub returns-then-not-more : goal.returns-then-not-more
returns-then-not-more c =
    let more = rw c.if-not-more.true at (sym c.in_ok-more.ensures) in
    rw c.in_ok-add.ensures (fields_end c.loop-fields.fields c.loop-fields.rest.now
    c.in_ok-field.field c.in_ok-field.after.now _ _ (omega arith)
    (sym c.in_ok-field.ensures.exact) more c.loop-fields.invariant.1)

pub loop-fields-preserved : goal.loop-fields-preserved
loop-fields-preserved c =
    let more = rw c.if-not-more.false at (sym c.in_ok-more.ensures) in
    rw c.in_ok-add.ensures (
      omega (
        arith,
        c.in_ok-field.ensures.room,
        length-append c.loop-fields.fields (c.in_ok-field.field ∷ []),
      ),
      fields_go_on c.loop-fields.fields c.loop-fields.rest.now c.in_ok-field.field
          c.in_ok-field.after.now _ _ (omega arith) (sym c.in_ok-field.ensures.exact) more
          c.loop-fields.invariant.1,
    )
