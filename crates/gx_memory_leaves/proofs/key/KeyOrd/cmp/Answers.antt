use Rattle.std.proofs.Common.{sym, ◌∙◌}
use Rattle.std.specs.Ordering.{nat_cmp}
use Rattle.std.specs.Cmp.Lexicographic.{slice_cmp}
use Rattle.gx_memory_leaves.proofs.FrontLemmas.{by_fronts}
use Rattle.gx_memory_leaves.proofs.key.KeyOrd.cmp.Goals as goal

pub returns-then-is_ne : goal.returns-then-is_ne
returns-then-is_ne c = by_fronts c.args.self.now c.args.other.now _ (c.compare_bytes-order.ensures
    ∙ (λ i. slice_cmp nat_cmp (c.front.ensures i) (c.front-2.ensures i))) (sym c.is_ne.ensures
    ∙ c.if-is_ne.true)
