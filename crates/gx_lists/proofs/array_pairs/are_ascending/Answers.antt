use Rattle.std.proofs.Common.{◌≡◌, rules}
use Rattle.std.specs.Ordering.{is_lt}
use Rattle.std.proofs.lemmas.Fn.{always_returns_same}
use Rattle.gx_values.specs.declared.values.Value.{Value}
use Rattle.gx_values.specs.Values.{value_cmp}
use Rattle.gx_values.proofs.OrderLemmas.{value_cmp_total}
use Rattle.gx_lists.proofs.OrderLemmas.{answer_yes, answer_no}
use Rattle.gx_lists.proofs.array_pairs.are_ascending.Goals as goal

pub returns-clause-yes : goal.returns-clause-yes
returns-clause-yes c = answer_yes value_cmp_total c.args.members.now c.is_sorted_by.result
    (c.is_sorted_by.ensures.cases (λ (a b : Value). is_lt (value_cmp a b))
    (always_returns_same _ (λ a r. r ≡ is_lt (value_cmp a.0.now a.1.0.now)) _
    (λ a r q k. search rules)))

pub returns-clause-no : goal.returns-clause-no
returns-clause-no c = answer_no value_cmp c.args.members.now c.is_sorted_by.result
    (c.is_sorted_by.ensures.cases (λ (a b : Value). is_lt (value_cmp a b))
    (always_returns_same _ (λ a r. r ≡ is_lt (value_cmp a.0.now a.1.0.now)) _
    (λ a r q k. search rules)))
