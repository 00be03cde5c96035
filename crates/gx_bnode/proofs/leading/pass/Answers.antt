use Rattle.std.proofs.Common.{◌≡◌, ◌+◌, true, sym, subst, arith}
use Rattle.gx_order.proofs.BelowLemmas.{cmp, below_is_less, not_below_is_le}
use Rattle.std.specs.Ordering.{is_le}
use Rattle.std.specs.declared.cmp.Ordering.TheVariants.{Less}
use Rattle.gx_bnode.proofs.ForkLemmas.{way_stops, way_found, way_goes}
use Rattle.gx_bnode.proofs.leading.pass.Goals as goal
use Rattle.gx_bnode.proofs.leading.pass.Goals.{then-way-place-via-then-way-place, then-way-place-via-else-way-place+then-is_below}

pub returns-then-way-place : goal.returns-then-way-place
returns-then-way-place c first branches branch size is child ascending way =
    let key = c.args.key.now in
    elim c.then-way-place.branch [
      | then-way-place-via-then-way-place w ↦
          way_found first branches branch key c.args.way.place c.args.way.child ascending way
          (let below = w.if-way-place.true in omega (arith, below, size))
      | then-way-place-via-else-way-place+then-is_below w ↦
          way_stops first branches branch key c.args.way.place c.args.way.child way
          (subst (λ s. cmp key s ≡ Less) (sym is)
          (below_is_less key c.args.separator.now w.is_below.result w.is_below.ensures
          w.if-is_below.true))
    ]

pub returns : goal.returns
returns c first branches branch size is child ascending way =
    let key = c.args.key.now in
    way_goes first branches branch key c.args.way.place c.args.way.child (c.args.place + 1)
    c.args.right way (let over = c.if-way-place.false in omega (arith, over, size))
    (subst (λ s. is_le (cmp s key) ≡ true) (sym is)
    (not_below_is_le key c.args.separator.now c.is_below.result c.is_below.ensures
    c.if-is_below.false))
    (omega (arith, size)) (sym child)
