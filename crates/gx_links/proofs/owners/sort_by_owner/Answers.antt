use Rattle.std.proofs.Common.{◌≡◌, rules}
use Rattle.std.specs.Ordering.{is_lt}
use Rattle.std.proofs.lemmas.Fn.{always_returns_same}
use Rattle.std.proofs.lemmas.List.Sorted.{ranks_by}
use Rattle.gx_values.specs.declared.values.Value.{Value}
use Rattle.gx_links.specs.Owners.{owner_cmp}
use Rattle.gx_links.proofs.OwnerLemmas.{owner_total}
use Rattle.gx_links.proofs.owners.sort_by_owner.Goals as goal

pub returns-clause-in_order : goal.returns-clause-in_order
returns-clause-in_order c =
    c.in_ok-sort_by.ensures.sorted (λ (a b : Value × Value). is_lt (owner_cmp a b))
    (ranks_by owner_total (λ (p : Value × Value). p))
    (always_returns_same _ (λ a r. is_lt r ≡ is_lt (owner_cmp a.0.now a.1.0.now)) _
    (λ a r q k. search rules))
