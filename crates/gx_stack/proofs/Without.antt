-- The records without one of them.
use Rattle.std.proofs.Common.{◌≢◌, not, Some, None, List, sym, ap, ◌∙◌}
use Rattle.std.proofs.lemmas.Bool.{true≢false, not-true}
use Rattle.std.specs.Ordering.{eq_by_cmp}
use Rattle.gx_values.specs.declared.records.Rec.{Rec}
use Rattle.gx_values.specs.Values.{values_cmp}
use Rattle.gx_mapping.specs.Rule.{In}
use Rattle.gx_stack.specs.Internal.{has_key_of, changed}
use Rattle.gx_gather.proofs.Lists.{in_filter, filter_in}
use Rattle.gx_gather.proofs.Orders.{values_itself, values_other}

pub from_without : (R : List Rec) (o r : Rec) → In r (changed R (Some o) None)
    → In r R × (r.key ≢ o.key)
from_without R o r h =
    let f = in_filter (λ q. not (has_key_of o q)) r R h in (
      f.0,
      λ e. true≢false (sym (values_itself o.key)
          ∙ ap (λ k. eq_by_cmp values_cmp k o.key) (sym e) ∙ not-true _ f.1),
    )

pub to_without : (R : List Rec) (o r : Rec) → In r R → r.key ≢ o.key
    → In r (changed R (Some o) None)
to_without R o r h other =
    filter_in (λ q. not (has_key_of o q)) r R h (ap not (values_other r.key o.key other))
