use Rattle.std.proofs.Common.{subst, [], ◌∷◌}
use Rattle.gx_mapping.specs.Rule.{AreOfKey}
use Rattle.gx_types.specs.declared.any.AnyMapping.{AnyMapping}
use Rattle.gx_types.specs.Any.{any_rule}
use Rattle.gx_types.proofs.any.AnyMappingMapping.gather_one.Goals as goal

pub gather_one-requires-in-Segment : goal.gather_one-requires-in-Segment
gather_one-requires-in-Segment c =
    subst (λ (m : AnyMapping). AreOfKey (any_rule m) c.args.part.rec.key (c.args.part ∷ []))
    c.in-Segment.is c.requires
