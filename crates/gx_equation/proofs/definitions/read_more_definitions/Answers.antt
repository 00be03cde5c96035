use Rattle.std.proofs.Common.{◌∷◌, [], sym}
use Rattle.std.proofs.lemmas.List.{map-append}
use Rattle.std.proofs.lemmas.Result.{err_from_is_err_and}
use Rattle.gx_equation.proofs.Loops.{definition_smaller, go_on, ends, start_fails, definition_fails}
use Rattle.gx_equation.specs.Seen.{definition_of}
use Rattle.gx_equation.proofs.definitions.read_more_definitions.Goals as goal

pub returns-in_err-start : goal.returns-in_err-start
returns-in_err-start c =
    let p = err_from_is_err_and c.from_residual-in_err-start.result
    c.from_residual-in_err-start.ensures.1 in
    let i = c.loop-definitions.invariant in
    rw (p.1, p.2) (start_fails i.0 _ _ c.loop-definitions.rest.now _ _ i.1
    (sym c.in_err-start.ensures.exact) i.2)

pub returns-in_default : goal.returns-in_default
returns-in_default c =
    let i = c.loop-definitions.invariant in
    let s = rw c.in_default.is at (sym c.in_ok-start.ensures.exact) in
    ends i.0 _ _ c.loop-definitions.rest.now _ _ i.1 s i.2

pub returns-in_err-definition : goal.returns-in_err-definition
returns-in_err-definition c =
    let p = err_from_is_err_and c.from_residual-in_err-definition.result
    c.from_residual-in_err-definition.ensures.1 in
    let i = c.loop-definitions.invariant in
    let s = rw c.in-Some.is at (sym c.in_ok-start.ensures.exact) in
    rw (p.1, p.2) (definition_fails i.0 _ _ c.loop-definitions.rest.now _ _ _ _ i.1 s
    (rw c.in_ok-push_place.ensures at c.in_err-definition.ensures) i.2)

pub loop-definitions-smaller : goal.loop-definitions-smaller
loop-definitions-smaller c =
    let s = rw c.in-Some.is at (sym c.in_ok-start.ensures.exact) in
    definition_smaller c.loop-definitions.rest.now _ _ c.loop-definitions.places.items _ s
    (rw c.in_ok-push_place.ensures at c.in_ok-definition.ensures)

pub loop-definitions-preserved : goal.loop-definitions-preserved
loop-definitions-preserved c =
    let i = c.loop-definitions.invariant in
    let s = rw c.in-Some.is at (sym c.in_ok-start.ensures.exact) in
    rw (
      c.in_ok-push-2.ensures.items,
      map-append definition_of c.loop-definitions.definitions.items
          (c.in_ok-definition.definition ∷ []),
    )
    (go_on i.0 _ _ c.loop-definitions.rest.now _ _ _ _ _ _ i.1 s
    (rw c.in_ok-push_place.ensures at c.in_ok-definition.ensures) i.2)
