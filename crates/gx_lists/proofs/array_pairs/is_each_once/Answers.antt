use Rattle.std.proofs.Common.{◌≡◌, rules}
use Rattle.std.specs.Ordering.{is_lt}
use Rattle.std.proofs.lemmas.Fn.{always_returns_same}
use Rattle.gx_values.specs.declared.values.Value.{Value}
use Rattle.gx_links.specs.Owners.{member_cmp}
use Rattle.gx_links.proofs.OwnerLemmas.{member_total}
use Rattle.gx_lists.proofs.OrderLemmas.{answer_yes, answer_no}
use Rattle.gx_lists.proofs.array_pairs.is_each_once.Goals as goal

pub returns-clause-yes : goal.returns-clause-yes
returns-clause-yes c = answer_yes member_total c.args.pairs.now c.is_sorted_by.result
    (c.is_sorted_by.ensures.cases (λ (a b : Value × Value). is_lt (member_cmp a b))
    (always_returns_same _ (λ a r. r ≡ is_lt (member_cmp a.0.now a.1.0.now)) _
    (λ a r q k. search rules)))

pub returns-clause-no : goal.returns-clause-no
returns-clause-no c = answer_no member_cmp c.args.pairs.now c.is_sorted_by.result
    (c.is_sorted_by.ensures.cases (λ (a b : Value × Value). is_lt (member_cmp a b))
    (always_returns_same _ (λ a r. r ≡ is_lt (member_cmp a.0.now a.1.0.now)) _
    (λ a r q k. search rules)))
