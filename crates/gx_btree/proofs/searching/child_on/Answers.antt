use Rattle.std.proofs.Common.{Some, drop, refl, sym, ap, ◌∙◌, arith}
use Rattle.gx_bnode.specs.Branches.{lent}
use Rattle.gx_btree.proofs.WayLemmas.{way_starts, way_cut, way_found, way_more, way_ended}
use Rattle.gx_btree.proofs.searching.child_on.Goals as goal

pub loop-init : goal.loop-init
loop-init c = (
  refl,
  way_starts c.args.page.now c.page_body-rest.result.now c.args.key.now c.args.bound.now
      c.page_number-child.result
      c.page_body-rest.ensures c.page_number-child.ensures,
)

pub returns-in_err-separator : goal.returns-in_err-separator
returns-in_err-separator c inner =
    absurd (way_cut c.args.page.now
    (drop 8 c.args.page.now) c.args.key.now c.args.bound.now c.loop.counter c.loop.child
    c.loop.rest.now
    c.record_count-end.result c.loop.invariant.1 c.record_count-end.ensures c.loop-test.true
    c.in_err-separator.ensures inner)

pub returns-then-is_below : goal.returns-then-is_below
returns-then-is_below c inner =
    let found = c.in_ok-separator.ensures in
    let way =
    way_found c.args.page.now (drop 8 c.args.page.now) c.args.key.now c.args.bound.now
    c.loop.counter c.loop.child
    c.loop.rest.now c.record_count-end.result c.loop.invariant.1 c.record_count-end.ensures
    (lent (c.in_ok-separator.separator, c.in_ok-separator.right))
    c.in_ok-separator.behind.now c.loop-test.true found.0 found.1 inner
    (sym c.is_below.ensures ∙ c.if-is_below.true) in
    (way.0, ap Some c.from_slice.ensures ∙ way.1)

pub loop-preserved : goal.loop-preserved
loop-preserved c =
    let found = c.in_ok-separator.ensures in (
      c.loop.invariant.0,
      λ inner. way_more c.args.page.now (drop 8 c.args.page.now) c.args.key.now c.args.bound.now
          c.loop.counter c.loop.child
          c.loop.rest.now c.record_count-end.result c.loop.invariant.1 c.record_count-end.ensures
          (lent (c.in_ok-separator.separator, c.in_ok-separator.right))
          c.in_ok-separator.behind.now
          c.loop-test.true found.0 found.1 inner (sym c.is_below.ensures ∙ c.if-is_below.false),
    )

pub returns : goal.returns
returns c inner =
    let way =
    way_ended c.args.page.now (drop 8 c.args.page.now) c.args.key.now c.args.bound.now
    c.loop.counter c.loop.child
    c.loop.rest.now c.record_count-end.result c.loop.invariant.1 c.record_count-end.ensures
    (let over = c.loop-test.false in omega (arith, over)) inner in
    (way.0, c.loop.invariant.0 ∙ way.1)
