use Rattle.std.proofs.Common.{refl, sym, subst}
use Rattle.gx_partition.specs.Places.{value_at}
use Rattle.gx_partition.specs.Bounds.{child_of}
use Rattle.gx_partition.specs.Rules.{at_of, bounds_of}
use Rattle.gx_types.specs.declared.any.AnyMapping.{AnyMapping}
use Rattle.gx_types.specs.Any.{any_rule}
use Rattle.gx_types.specs.Passing.{PassesWhole}
use Rattle.gx_types.proofs.any.AnyMapping.passing.Goals as goal

pub returns-in-Partition : goal.returns-in-Partition
returns-in-Partition c =
    let m = c.in-Partition.field-0 in
    subst (λ (x : AnyMapping). PassesWhole (any_rule x)) (sym c.in-Partition.is) (record {
      form = λ child. refl;
      one = λ r. (child_of (bounds_of m) (value_at (at_of m) r), refl);
    })
