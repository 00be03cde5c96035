use Rattle.std.proofs.Common.{rules, of_calls, ◌≡◌, ◌∙◌, sym, subst, true, false, List}
use Rattle.std.specs.List.Sorted.{IsPartitionedBy, IsPartitionPoint}
use Rattle.std.specs.Prelude.{Some}
use Rattle.std.proofs.lemmas.Fn.{always_returns_same}
use Rattle.gx_values.specs.declared.values.Value.{Value}
use Rattle.gx_partition.specs.Bounds.{ends_before}
use Rattle.gx_partition.proofs.ranges.first_from.Goals as goal

pub returns-clause-point : goal.returns-clause-point
returns-clause-point c =
    let lo = c.args.lo.now in
    let items : c.deref.result.now ≡ c.args.bounds.now = c.deref.ensures.value ∙ c.bounds.view_is in
    let parted = subst (IsPartitionedBy (λ bound. ends_before (Some bound) lo))
    (sym items) c.requires.parted in
    let point = c.partition_point.ensures.partitioned (λ bound. ends_before (Some bound) lo)
    (always_returns_same _ _ _ (λ a r f k. search (rules, of_calls))) parted in
    subst (λ (bs : List Value). IsPartitionPoint (λ bound. ends_before (Some bound) lo ≡ true)
    (λ bound. ends_before (Some bound) lo ≡ false) bs c.partition_point.result) items point
