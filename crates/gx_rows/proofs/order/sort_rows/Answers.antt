use Rattle.std.proofs.Common.{◌≡◌, rules}
use Rattle.std.specs.Ordering.{is_lt}
use Rattle.std.specs.Prelude.{filter}
use Rattle.std.specs.FinMap as fin
use Rattle.std.proofs.lemmas.Fn.{always_returns_same}
use Rattle.std.proofs.lemmas.List.Sorted.{ranks_by, IsPermutation-trans}
use Rattle.gx_model.specs.States.{Row}
use Rattle.gx_model.specs.Found.{row_cmp}
use Rattle.gx_model.proofs.ListedLemmas.{row_cmp_total, is_listed}
use Rattle.gx_rows.proofs.order.sort_rows.Goals as goal

pub returns-clause-in_order : goal.returns-clause-in_order
returns-clause-in_order c =
    c.in_ok-sort_by.ensures.sorted (λ (a b : Row). is_lt (row_cmp c.args.order a b))
    (ranks_by (row_cmp_total c.args.order) (λ (r : Row). r))
    (always_returns_same _ (λ a r. is_lt r ≡ is_lt (row_cmp c.args.order a.0.now a.1.0.now)) _
    (λ a r q k. search rules))

pub returns-clause-listed : goal.returns-clause-listed
returns-clause-listed c f test is =
    let up = c.in_ok-sort_by.ensures.sorted (λ (a b : Row). is_lt (row_cmp c.args.order a b))
    (ranks_by (row_cmp_total c.args.order) (λ (r : Row). r))
    (always_returns_same _ (λ a r. is_lt r ≡ is_lt (row_cmp c.args.order a.0.now a.1.0.now)) _
    (λ a r q k. search rules)) in
    is_listed f test c.args.order c.sort_by.new.self.items
    (IsPermutation-trans (filter test (fin.entries f)) _ c.sort_by.new.self.items is
    c.sort_by.ensures.permutation) up
