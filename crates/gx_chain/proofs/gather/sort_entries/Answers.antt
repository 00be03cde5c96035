use Rattle.std.proofs.Common.{◌≡◌, rules}
use Rattle.std.specs.Ordering.{is_lt}
use Rattle.std.specs.Cmp.Lexicographic.{nat_list_cmp_total}
use Rattle.std.proofs.lemmas.Fn.{always_returns_same}
use Rattle.std.proofs.lemmas.List.Sorted.{ranks_by}
use Rattle.gx_ports.specs.declared.leaves.Entry.{Entry as LeafEntry}
use Rattle.gx_chain.specs.Collect.{entry_cmp}
use Rattle.gx_chain.proofs.gather.sort_entries.Goals as goal

pub returns-clause-in_order : goal.returns-clause-in_order
returns-clause-in_order c =
    c.in_ok-sort_by.ensures.sorted (λ (a b : LeafEntry). is_lt (entry_cmp a b))
    (ranks_by nat_list_cmp_total (λ (e : LeafEntry). e.key))
    (always_returns_same _ (λ a r. is_lt r ≡ is_lt (entry_cmp a.0.now a.1.0.now)) _
    (λ a r q k. search rules))
