use Rattle.std.proofs.Common.{rules, ◌≡◌, ◌<◌, ℕ, length, Some, None, Option, sym, subst}
use Rattle.gx_values.specs.declared.values.Value.{Value}
use Rattle.gx_values.specs.Keys.{bytes_of}
use Rattle.gx_values.specs.Written.{IsRead}
use Rattle.gx_lists.specs.Arrays.{IsFrontWidth}
use Rattle.gx_lists.proofs.PieceLemmas.{AreCutSoFar, no_front, no_value, one_cut}
use Rattle.gx_lists.proofs.pieces.cut_members.Goals as goal

pub returns-in_default-clause-no : goal.returns-in_default-clause-no
returns-in_default-clause-no c = λ e.
    let rest = c.loop-rest.rest.now in
    let some : 0 < length rest = search rules in
    let none : ◌≡◌ {A = Option ℕ} c.front_width.result None = search rules in
    no_front c.args.kind c.args.bytes.now c.args.out.now c.loop-rest.out-inside.0.items rest
    c.loop-rest.invariant some
    (subst (λ o. IsFrontWidth c.args.kind rest o) none c.front_width.ensures)

pub returns-in_default-2-clause-no : goal.returns-in_default-2-clause-no
returns-in_default-2-clause-no c = λ e.
    let rest = c.loop-rest.rest.now in
    let width = c.in-Some.width in
    let some : 0 < length rest = search rules in
    let front : IsFrontWidth c.args.kind rest (Some width) =
    subst (λ o. IsFrontWidth c.args.kind rest o) c.in-Some.is
    c.front_width.ensures in
    let none : ◌≡◌ {A = Option Value} c.in_ok-value.field-0 None = search rules in
    let read = subst (λ o. IsRead bytes_of c.args.kind c.front.result.now o) none
    c.in_ok-value.ensures in
    no_value c.args.kind c.args.bytes.now c.args.out.now c.loop-rest.out-inside.0.items rest width
    c.loop-rest.invariant some front
    (subst (λ l. IsRead bytes_of c.args.kind l None) c.front.ensures read)

pub loop-rest-preserved : goal.loop-rest-preserved
loop-rest-preserved c =
    let rest = c.loop-rest.rest.now in
    let width = c.in-Some.width in
    let some : 0 < length rest = search rules in
    let front : IsFrontWidth c.args.kind rest (Some width) =
    subst (λ o. IsFrontWidth c.args.kind rest o) c.in-Some.is
    c.front_width.ensures in
    let there : ◌≡◌ {A = Option Value} c.in_ok-value.field-0 (Some c.in-Some-2.value) =
    search rules in
    let read = subst (λ o. IsRead bytes_of c.args.kind c.front.result.now o) there
    c.in_ok-value.ensures in
    subst (λ l. AreCutSoFar c.args.kind c.args.bytes.now c.args.out.now c.push.new.self.items l)
    (sym c.behind-rest.ensures)
    (one_cut c.args.kind c.args.bytes.now c.args.out.now c.loop-rest.out-inside.0.items
    c.push.new.self.items rest width c.in-Some-2.value
    c.loop-rest.invariant some front
    (subst (λ l. IsRead bytes_of c.args.kind l (Some c.in-Some-2.value)) c.front.ensures read)
    c.in_ok-push.ensures.items)
