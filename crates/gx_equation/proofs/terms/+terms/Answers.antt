use Rattle.std.proofs.Common.{◌∷◌, [], sym}
use Rattle.std.proofs.lemmas.List.{map-append}
use Rattle.std.proofs.lemmas.Result.{err_from_is_err_and}
use Rattle.gx_equation.proofs.Loops.{kids_go_on, kids_end, kid_fails, more_fails, smaller, head_fails, term_goes_on}
use Rattle.gx_equation.specs.Seen.{tree_of}
use Rattle.gx_equation.proofs.terms.+terms.Goals as goal

pub read_kids-returns-in_err-kid : goal.read_kids-returns-in_err-kid
read_kids-returns-in_err-kid t c =
    let p = err_from_is_err_and c.from_residual.result c.from_residual.ensures.1 in
    let i = c.loop-kids.invariant in
    rw (p.1, p.2) (kid_fails c.args.levels i.0 _ _ c.loop-kids.rest.now _ _ i.1 c.in_err-kid.ensures
    i.2)

pub read_kids-returns-in_err-more : goal.read_kids-returns-in_err-more
read_kids-returns-in_err-more t c =
    let p = err_from_is_err_and c.from_residual-in_err-more.result
    c.from_residual-in_err-more.ensures.1 in
    let i = c.loop-kids.invariant in
    rw (p.1, p.2) (more_fails c.args.levels i.0 _ _ c.loop-kids.rest.now _ _ _ _ _ i.1
    c.in_ok-kid.ensures (sym c.in_err-more.ensures) i.2)

pub read_kids-returns-then-not-more : goal.read_kids-returns-then-not-more
read_kids-returns-then-not-more t c =
    let i = c.loop-kids.invariant in
    let m = rw c.if-not-more.true at (sym c.in_ok-more.ensures) in
    rw (
      c.in_ok-push.ensures.items,
      map-append tree_of c.loop-kids.kids.items
          (c.in_ok-kid.kid ∷ []),
    ) (kids_end c.args.levels i.0 _ _ c.loop-kids.rest.now _ _ _ _ _ i.1
    c.in_ok-kid.ensures m i.2)

pub read_kids-loop-kids-smaller : goal.read_kids-loop-kids-smaller
read_kids-loop-kids-smaller t c =
    smaller c.args.levels _ c.loop-kids.rest.now _ _ _ _ c.in_ok-kid.ensures
    (sym c.in_ok-more.ensures)

pub read_kids-loop-kids-preserved : goal.read_kids-loop-kids-preserved
read_kids-loop-kids-preserved t c =
    let i = c.loop-kids.invariant in
    let m = rw c.if-not-more.false at (sym c.in_ok-more.ensures) in
    rw (
      c.in_ok-push.ensures.items,
      map-append tree_of c.loop-kids.kids.items
          (c.in_ok-kid.kid ∷ []),
    ) (kids_go_on c.args.levels i.0 _ _ c.loop-kids.rest.now _ _ _ _ _ i.1
    c.in_ok-kid.ensures m i.2)

pub read_term-returns-in_err-head : goal.read_term-returns-in_err-head
read_term-returns-in_err-head t c =
    let p = err_from_is_err_and c.from_residual.result c.from_residual.ensures.1 in
    rw (p.1, p.2) (head_fails c.args.levels _ c.args.bytes.now _ c.in_err-head.ensures.exact)

pub read_term-returns : goal.read_term-returns
read_term-returns t c =
    rw (term_goes_on c.args.levels c.args.places.now.items c.args.bytes.now _ _
    c.in_ok-head.ensures.levels c.in_ok-head.ensures.exact)
    (rw c.in_ok-push_place.ensures at c.read_term_behind.ensures)
