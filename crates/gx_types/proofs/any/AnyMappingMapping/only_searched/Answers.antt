use Rattle.std.proofs.Common.{ℕ, subst, sym}
use Rattle.std.specs.Prelude.{IfNone}
use Rattle.gx_mapping.specs.Searched.{IsAlone}
use Rattle.gx_types.specs.declared.any.AnyMapping.{AnyMapping}
use Rattle.gx_types.specs.Any.{any_rule}
use Rattle.gx_types.proofs.any.AnyMappingMapping.only_searched.Goals as goal

pub returns-in-Partition-clause-none : goal.returns-in-Partition-clause-none
returns-in-Partition-clause-none c =
    subst
    (λ (x : AnyMapping). IfNone c.only_searched-in-Partition.result
    ((d : ℕ) → IsAlone (any_rule x) c.args.span.now d → ⊥))
    (sym c.in-Partition.is) c.only_searched-in-Partition.ensures.none
