use Rattle.std.proofs.Common.{◌≡◌, rules}
use Rattle.std.specs.Ordering.{is_lt}
use Rattle.std.proofs.lemmas.Fn.{always_returns_same}
use Rattle.std.proofs.lemmas.List.Sorted.{ranks_by}
use Rattle.gx_values.specs.declared.values.Value.{Value}
use Rattle.gx_links.specs.Owners.{member_cmp}
use Rattle.gx_links.proofs.OwnerLemmas.{member_total}
use Rattle.gx_lists.proofs.array_pairs.sort_by_member.Goals as goal

pub returns-clause-in_order : goal.returns-clause-in_order
returns-clause-in_order c =
    c.in_ok-sort_by.ensures.sorted (λ (a b : Value × Value). is_lt (member_cmp a b))
    (ranks_by member_total (λ (p : Value × Value). p))
    (always_returns_same _ (λ a r. is_lt r ≡ is_lt (member_cmp a.0.now a.1.0.now)) _
    (λ a r q k. search rules))
