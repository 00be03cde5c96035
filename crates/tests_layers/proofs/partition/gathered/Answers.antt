use Rattle.std.proofs.Common.{◌∷◌, [], ◌∙◌, ap}
use Rattle.gx_values.specs.declared.records.Rec.{Rec}
use Rattle.tests_layers.proofs.LayerLemmas.{part_of_key}
use Rattle.tests_layers.proofs.partition.gathered.Goals as goal

pub gather-requires : goal.gather-requires
gather-requires c =
    let m = c.args.layer.now in
    let copied = c.in_ok-rec.ensures in
    let same = c.in_ok-key.ensures ∙ ap (λ (x : Rec). x.key) copied in
    let parts = c.in_ok-parts.ensures ∙ (λ i. record { child = c.args.child; rec = copied i } ∷ [])
    in
    part_of_key m.form m.at m.bounds c.in_ok-key.key c.args.child c.args.rec.now
    c.in_ok-parts.parts
    c.requires.child c.requires.of_form same parts
