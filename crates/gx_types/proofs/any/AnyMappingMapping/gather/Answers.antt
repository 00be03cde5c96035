use Rattle.std.proofs.Common.{subst}
use Rattle.gx_mapping.specs.Rule.{AreOfKey}
use Rattle.gx_types.specs.declared.any.AnyMapping.{AnyMapping}
use Rattle.gx_types.specs.Any.{any_rule}
use Rattle.gx_types.proofs.any.AnyMappingMapping.gather.Goals as goal

pub gather-requires-in-Segment : goal.gather-requires-in-Segment
gather-requires-in-Segment c =
    subst (λ (m : AnyMapping). AreOfKey (any_rule m) c.args.key.now c.args.parts.now)
    c.in-Segment.is c.requires
