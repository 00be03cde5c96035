use Rattle.std.proofs.Common.{◌≡◌, ℕ, List, length, ap, ◌∙◌}
use Rattle.gx_values.specs.declared.records.Field.{Field}
use Rattle.gx_values.specs.declared.records.Form.{Form}
use Rattle.gx_split.specs.Groups.{marks}
use Rattle.gx_split.specs.SegmentRules.{segment_rule}
use Rattle.gx_forms.specs.Fields.{has_name}
use Rattle.gx_types.specs.HeadRules.{numbers_in}
use Rattle.gx_types.proofs.HeadLaws.{marked}
use Rattle.gx_types.proofs.mappings.segment_of.Goals as goal

pub returns : goal.returns
returns c =
    let fields = c.args.form.now.fields in
    let names = c.args.names.now in
    let read : c.deref.result.now ≡ fields = c.deref.ensures.value
    ∙ ap (λ (f : Form). f.fields) c.form.view_is in
    let numbers = c.deref-2.ensures.value ∙ c.in_ok-numbers.ensures
    ∙ ap (λ (fs : List Field). numbers_in fs names) read in
    let mask = c.in_ok-segment.ensures.mask
    ∙ ap (λ (ns : List ℕ). marks ns 0 (length fields)) numbers
    ∙ marked (λ f. has_name names f.name) fields in
    let form = c.in_ok-segment.ensures.form in
    (tt, λ i. segment_rule (form i) (mask i))
