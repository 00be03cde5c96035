use Rattle.std.proofs.Common.{◌∙◌, ◌++◌, ◌∷◌, []}
use Rattle.gx_scan.proofs.records.record_of.Goals as goal

pub returns : goal.returns
returns c =
    let copied = c.in_ok-copy.ensures in
    let keys = c.in_ok-push.ensures.items
    ∙ (λ j. c.in_ok-keys.ensures.items j ++ copied j ∷ []) in
    λ j. record { key = keys j; fields = c.args.values }
