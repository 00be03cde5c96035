use Rattle.std.proofs.Common.{◌∙◌, ap}
use Rattle.gx_encode.specs.Forms.{changed}
use Rattle.gx_encode.proofs.GatherLemmas.{changed_set}
use Rattle.gx_encode.proofs.make.with_field.Goals as goal

pub returns : goal.returns
returns c =
    changed_set c.args.number c.args.field c.made.inside.0.items
    ∙ ap (changed c.args.number (λ old. c.args.field)) (c.made.view_is ∙ c.in_ok-made.ensures)
