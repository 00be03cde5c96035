use Rattle.std.proofs.lemmas.Result.{err_from_is_err_and}
use Rattle.gx_equation.proofs.Loops.{items_go_on, items_end, item_fails}
use Rattle.gx_equation.proofs.Shorter.{bound_shorter}
use Rattle.gx_equation.specs.Heads.{a_bound}
use Rattle.gx_equation.proofs.arguments.read_bounds.Goals as goal

pub returns-in_err-bound : goal.returns-in_err-bound
returns-in_err-bound c =
    let p = err_from_is_err_and c.from_residual-in_err-bound.result
    c.from_residual-in_err-bound.ensures.1 in
    let i = c.loop-bounds.invariant in
    rw (p.1, p.2) (item_fails a_bound i.0 c.loop-bounds.bounds.items c.loop-bounds.rest.now _ _ i.1
    c.in_err-bound.ensures i.2)

pub returns-in-None : goal.returns-in-None
returns-in-None c =
    let i = c.loop-bounds.invariant in
    let e = rw c.in-None.is at c.in_ok-bound.ensures in
    items_end a_bound i.0 c.loop-bounds.bounds.items c.loop-bounds.rest.now _ _ i.1 e i.2

pub loop-bounds-smaller : goal.loop-bounds-smaller
loop-bounds-smaller c = bound_shorter c.loop-bounds.rest.now _ c.in_ok-bound.ensures

pub loop-bounds-preserved : goal.loop-bounds-preserved
loop-bounds-preserved c =
    let i = c.loop-bounds.invariant in
    let e = rw c.in-Some.is at c.in_ok-bound.ensures in
    rw c.in_ok-push-in-Some.ensures.items
    (items_go_on a_bound i.0 c.loop-bounds.bounds.items c.loop-bounds.rest.now _ _ _ i.1
    (bound_shorter c.loop-bounds.rest.now _ e) e i.2)
