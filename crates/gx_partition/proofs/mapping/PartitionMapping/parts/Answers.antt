use Rattle.std.proofs.Common.{◌≡◌, ◌∷◌, [], subst}
use Rattle.std.specs.Prelude.{IfOk}
use Rattle.gx_mapping.specs.declared.parts.Part.{Part}
use Rattle.gx_partition.proofs.mapping.PartitionMapping.parts.Goals as goal

pub returns : goal.returns
returns c =
    let copied = c.in_ok-rec.ensures in
    subst (λ (p : Part). IfOk c.one.result (λ parts. parts ≡ p ∷ []))
    (λ i. record { child = c.child_for-child.ensures i; rec = copied i }) c.one.ensures
