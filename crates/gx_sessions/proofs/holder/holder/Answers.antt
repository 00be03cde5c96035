use Rattle.std.proofs.Common.{◌≡◌, ◌∙◌, sym, ap, subst, None, find, is_some, arith, inl, inr}
use Rattle.std.proofs.lemmas.Bool.{cases_lt}
use Rattle.gx_sharing.specs.Sharing.{sessions, is_barred}
use Rattle.gx_sessions.specs.Places.{item_at}
use Rattle.gx_sessions.proofs.HolderLemmas.{held_there, held_nowhere, none_is}
use Rattle.gx_sessions.proofs.StandingLemmas.{wanting_plain}
use Rattle.gx_sessions.proofs.holder.holder.Goals as goal

pub returns-then-is_some-clause-wanting : goal.returns-then-is_some-clause-wanting
returns-then-is_some-clause-wanting c = λ some.
    wanting_plain c.args.schema.now c.args.command.now
    (item_at c.args.schema.now c.loop-place.place)
    (λ none. c.holder_at-found.ensures.wanting some (c.lock_at.ensures ∙ none))

pub returns-then-is_some-clause-least : goal.returns-then-is_some-clause-least
returns-then-is_some-clause-least c = λ p are.
    let schema = c.args.schema.now in
    let n = c.args.session in
    let place = c.loop-place.place in
    let found = c.holder_at-found.ensures.least p c.args.command.now are c.lock_at.ensures in
    found ∙ held_there schema p n c.args.command.now place
    (omega (arith, c.loop-place-test.true, c.places-place-end.ensures))
    (c.loop-place.invariant p are)
    (ap is_some (sym found) ∙ sym c.is_some.ensures ∙ c.if-is_some.true)

pub loop-place-preserved : goal.loop-place-preserved
loop-place-preserved c = λ p are i lt.
    let schema = c.args.schema.now in
    let n = c.args.session in
    let place = c.loop-place.place in
    let here : find (is_barred schema p n c.args.command.now (item_at schema place)) sessions
    ≡ None =
    sym (c.holder_at-found.ensures.least p c.args.command.now are c.lock_at.ensures)
    ∙ none_is c.holder_at-found.result (sym c.is_some.ensures ∙ c.if-is_some.false) in
    elim (cases_lt i place) [
      | inl before ↦ c.loop-place.invariant p are i before
      | inr after ↦ subst (λ j. find (is_barred schema p n c.args.command.now (item_at schema j))
          sessions ≡ None) (let e : place ≡ i = omega (arith, lt, after) in e) here
    ]

pub returns-clause-least : goal.returns-clause-least
returns-clause-least c = λ p are.
    held_nowhere c.args.schema.now p c.args.session c.args.command.now c.loop-place.place
    (omega (arith, c.loop-place-test.false, c.places-place-end.ensures))
    (c.loop-place.invariant p are)
