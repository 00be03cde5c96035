use Rattle.std.proofs.Common.{rules, of_calls, ap, sym, subst, ◌∙◌, ◌≡◌, List, length}
use Rattle.std.specs.List.{filter}
use Rattle.std.specs.List.Sorted.{IsStrictlySortedBy}
use Rattle.std.specs.Ordering.{is_le}
use Rattle.std.proofs.lemmas.Fn.{always_returns_same}
use Rattle.gx_values.specs.declared.values.Value.{Value}
use Rattle.gx_values.specs.Values.{value_cmp}
use Rattle.gx_partition.proofs.PlaceLemmas.{count_is, parted}
use Rattle.gx_partition.proofs.ranges.child_of.Goals as goal

pub returns : goal.returns
returns c =
    let items : c.deref.result.now ≡ c.args.bounds.now = c.deref.ensures.value ∙ c.bounds.view_is in
    let ascending = subst (IsStrictlySortedBy value_cmp) (sym items) c.requires.ascending in
    let point = c.partition_point.ensures.partitioned
    (λ bound. is_le (value_cmp bound c.args.value.now))
    (always_returns_same _ _ _ (λ a r f k. search (rules, of_calls)))
    (parted c.deref.result.now c.args.value.now ascending) in
    sym (count_is (λ bound. is_le (value_cmp bound c.args.value.now)) c.deref.result.now
    c.partition_point.result c.partition_point.ensures.bound point)
    ∙ ap (λ (l : List Value). length (filter (λ bound. is_le (value_cmp bound c.args.value.now)) l))
    items
