use Rattle.std.proofs.Common.{subst, sym, [], ◌∷◌, Some}
use Rattle.gx_mapping.specs.Rule.{AreOfKey, IsGathered}
use Rattle.gx_types.specs.declared.any.AnyMapping.{AnyMapping}
use Rattle.gx_types.specs.Any.{any_rule}
use Rattle.gx_types.proofs.any.AnyMappingMapping.is_own_part.Goals as goal

pub is_own_part-requires-in-Segment : goal.is_own_part-requires-in-Segment
is_own_part-requires-in-Segment c =
    subst (λ (m : AnyMapping). AreOfKey (any_rule m) c.args.rec.now.key
    (record { child = c.args.child; rec = c.args.rec.now } ∷ [])) c.in-Segment.is c.requires

pub returns-in-Actual : goal.returns-in-Actual
returns-in-Actual c = λ own.
    subst (λ (m : AnyMapping). IsGathered (any_rule m) c.args.rec.now.key
    (record { child = c.args.child; rec = c.args.rec.now } ∷ []) (Some c.args.rec.now))
    (sym c.in-Actual.is) (c.is_own_part.ensures own)
