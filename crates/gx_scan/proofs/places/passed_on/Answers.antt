use Rattle.std.proofs.Common.{ap, subst}
use Rattle.gx_types.specs.Passing.{Passes}
use Rattle.gx_types.specs.Any.{any_rule}
use Rattle.gx_scan.proofs.PlaceLemmas.{is_index, index_passes, whole_passes, same_passes, wrapped_result, coded_result}
use Rattle.gx_scan.proofs.places.passed_on.Goals as goal

pub returns-in_ok-copy-in-Index : goal.returns-in_ok-copy-in-Index
returns-in_ok-copy-in-Index c =
    let a = c.args.above.now in
    let copy = c.in_ok-copy-in-Index in
    same_passes c.args.mapping.now a.layers a.codes copy.field-0.layers copy.field-0.codes
    c.in_ok-copy-in-Index.ensures.layers c.in_ok-copy-in-Index.ensures.codes
    (index_passes c.args.mapping.now a.layers a.codes (ap is_index c.in-Index.is))

pub returns-in-Encode : goal.returns-in-Encode
returns-in-Encode c =
    let a = c.args.above.now in
    coded_result c.args.mapping.now c.in-Encode.mapping a.layers a.codes c.field.result
    c.code.result c.with_code.result c.in-Encode.is c.field.ensures c.code.ensures
    c.with_code.ensures.outside c.with_code.ensures.layers c.with_code.ensures.codes

pub returns-in_ok-copy-in-Whole : goal.returns-in_ok-copy-in-Whole
returns-in_ok-copy-in-Whole c =
    let a = c.args.above.now in
    let copy = c.in_ok-copy-in-Whole in
    same_passes c.args.mapping.now a.layers a.codes copy.field-0.layers copy.field-0.codes
    c.in_ok-copy-in-Whole.ensures.layers c.in_ok-copy-in-Whole.ensures.codes
    (whole_passes c.args.mapping.now a.layers a.codes
    (subst (Passes (any_rule c.args.mapping.now)) c.in-Whole.is c.passing.ensures))

pub returns-in-Wrapped : goal.returns-in-Wrapped
returns-in-Wrapped c =
    let a = c.args.above.now in
    wrapped_result c.args.mapping.now a.layers a.codes c.with_layer.result
    (subst (Passes (any_rule c.args.mapping.now)) c.in-Wrapped.is c.passing.ensures)
    c.with_layer.ensures.layers c.with_layer.ensures.codes
