use Rattle.std.proofs.Common.{◌≡◌, rules}
use Rattle.std.specs.Ordering.{is_lt}
use Rattle.std.proofs.lemmas.Fn.{always_returns_same}
use Rattle.std.proofs.lemmas.List.Sorted.{ranks_by}
use Rattle.gx_mapping.specs.declared.parts.Part.{Part}
use Rattle.gx_gather.specs.Gather.{gather_cmp}
use Rattle.gx_gather.proofs.Orders.{gather_total}
use Rattle.gx_gather.proofs.order.sort_parts.Goals as goal

pub returns-clause-in_order : goal.returns-clause-in_order
returns-clause-in_order c =
    c.in_ok-sort_by.ensures.sorted (λ (a b : Part). is_lt (gather_cmp c.args.width a b))
    (ranks_by (gather_total c.args.width) (λ (p : Part). p))
    (always_returns_same _ (λ a r. is_lt r ≡ is_lt (gather_cmp c.args.width a.0.now a.1.0.now)) _
    (λ a r q k. search rules))
