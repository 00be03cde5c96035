use Rattle.std.proofs.Common.{◌∙◌, ap}
use Rattle.gx_encode.specs.Forms.{changed, coded_field}
use Rattle.gx_encode.proofs.GatherLemmas.{changed_field}
use Rattle.gx_encode.proofs.make.coded_form.Goals as goal

pub returns : goal.returns
returns c =
    let form = c.args.form.now in
    let keys = c.in_ok-copy.ensures in
    let coded = c.coded_field-coded.ensures ∙ ap (coded_field c.args.code) c.field_at.ensures in
    let fields = c.in_ok-with_field.ensures
    ∙ (λ i. changed c.args.field (λ old. coded i) form.fields)
    ∙ changed_field c.args.field c.args.code form.fields in
    λ i. record { keys = keys i; fields = fields i }
