use Rattle.tests_layers.proofs.LayerLemmas.{field_layer}
use Rattle.tests_layers.proofs.partition.records_go_by_their_data.Goals as goal

pub partition-requires : goal.partition-requires
partition-requires g c =
    let form = c.in_ok-form in
    let bounds = c.in_ok-vec in
    field_layer form.form bounds.field-0.items _ _ form.ensures.keys form.ensures.fields
    bounds.ensures.items
