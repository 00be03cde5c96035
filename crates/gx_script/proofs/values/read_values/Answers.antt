use Rattle.std.proofs.lemmas.Result.{err_from_is_err_and}
use Rattle.gx_commands.specs.Cutting.{words_in}
use Rattle.gx_script.proofs.LoopLaws.{values_go_on, value_fails, values_end}
use Rattle.gx_script.proofs.values.read_values.Goals as goal

pub returns-in_err-value : goal.returns-in_err-value
returns-in_err-value c =
    let p = err_from_is_err_and c.from_residual.result c.from_residual.ensures.1 in
    rw (p.1, p.2) (value_fails c.args.fields.now c.loop-field.field-index c.loop-field.values.items
    (words_in c.loop-field.rest.now) c.field-item.result c.in_err-value.field-0.0 _
    c.loop-field-test.true c.field-item.is c.in_err-value.ensures.exact c.loop-field.invariant)

pub loop-field-preserved : goal.loop-field-preserved
loop-field-preserved c =
    rw (c.push.ensures.items, c.in_ok-push.was)
    (values_go_on c.args.fields.now c.loop-field.field-index c.loop-field.values.items
    (words_in c.loop-field.rest.now) c.field-item.result c.in_ok-value.value
    (words_in c.in_ok-value.after.now) _ c.loop-field-test.true c.field-item.is
    c.in_ok-value.ensures.exact c.loop-field.invariant)

pub returns : goal.returns
returns c = values_end c.args.fields.now c.loop-field.field-index c.loop-field.values.items
    (words_in c.loop-field.rest.now) _ c.loop-field-test.false c.loop-field.invariant
