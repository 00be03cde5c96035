use Rattle.std.proofs.Common.{[], sym, ap, ◌∙◌, refl, arith}
use Rattle.std.proofs.lemmas.Bool.Decides.{Decides-eqb}
use Rattle.std.proofs.lemmas.Slice.Eq.{slice_eq-Decides}
use Rattle.std.specs.Ordering.{is_le}
use Rattle.gx_order.proofs.BelowLemmas.{cmp, below_is_less, not_below_is_le}
use Rattle.gx_slots.proofs.SpotLemmas.{passed_less, passed_stop, sought_none}
use Rattle.gx_slots.proofs.seeking.begin.Goals as goal

pub returns-then-is_below : goal.returns-then-is_below
returns-then-is_below c entry is end =
    passed_less c.args.key.now [] entry _ _ (sought_none c.args.key.now) (omega arith) refl end end
    refl
    (ap (λ k. cmp k c.args.key.now) is
    ∙ below_is_less c.args.found.now c.args.key.now c.is_below.result c.is_below.ensures
    c.if-is_below.true)

pub returns : goal.returns
returns c entry is end =
    passed_stop c.args.key.now [] entry _ _ (sought_none c.args.key.now) (omega arith) refl refl end
    (ap (λ k. is_le (cmp c.args.key.now k)) is
    ∙ not_below_is_le c.args.found.now c.args.key.now c.is_below.result c.is_below.ensures
    c.if-is_below.false)
    (let same = slice_eq-Decides Decides-eqb _ _ _ c.eq.ensures in
    (λ there. is ∙ same.0 there, λ key. same.1 (sym is ∙ key)))
