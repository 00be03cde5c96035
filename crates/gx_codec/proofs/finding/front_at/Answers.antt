use Rattle.std.proofs.Common.{Bor, ◌≡◌, ℕ, ◌+◌, ◌<◌, ◌∙◌, List, length, get_or, Some, drop, sym, ap, subst, arith}
use Rattle.gx_values.specs.Values.{no_value}
use Rattle.gx_actual.specs.Bodies.{body_of}
use Rattle.gx_mapping.proofs.FieldLemmas.{fit_at, fit_length}
use Rattle.gx_codec.specs.Layouts.{laid, IsFront}
use Rattle.gx_codec.proofs.SlotLemmas.{short_there}
use Rattle.gx_codec.proofs.LayoutLemmas.{front_there, none_there}
use Rattle.gx_codec.proofs.finding.front_at.Goals.{in-Some+in_ok-more, in_default}
use Rattle.gx_codec.proofs.finding.front_at.Goals as goal

pub split_stored-requires : goal.split_stored-requires
split_stored-requires g c =
    short_there c.args.fields.now c.loop-at.at c.index-fields-at.result c.requires.short
    (omega (arith, c.loop-at-test.true, c.requires.there))

pub returns-in_err-more : goal.returns-in_err-more
returns-in_err-more g c = λ vs fit have same.
    let slots = g.L.Layout.slots c.args.layout.now in
    let fields = c.args.fields.now in
    let i = c.loop-at.at in
    let lt : i < length fields = omega (arith, c.loop-at-test.true, c.requires.there) in
    let at = front_there slots vs i c.loop-at.rest.now have
    (omega (arith, lt, fit_length fields vs fit)) (c.loop-at.invariant vs fit have same)
    c.in-Some.code (sym c.slot_of.ensures ∙ c.in-Some.is) in
    absurd (c.in_err-more.ensures (get_or vs i no_value)
    (body_of (laid slots (i + 1) (drop (i + 1) vs)))
    (fit_at i fields vs c.index-fields-at.result no_value fit lt) at.0 at.1)

pub loop-at-preserved : goal.loop-at-preserved
loop-at-preserved g c = λ vs fit have same.
    let slots = g.L.Layout.slots c.args.layout.now in
    let fields = c.args.fields.now in
    let i = c.loop-at.at in
    let lt : i < length fields = omega (arith, c.loop-at-test.true, c.requires.there) in
    let long : i < length vs = omega (arith, lt, fit_length fields vs fit) in
    let left = c.loop-at.invariant vs fit have same in
    elim c.match-slot_of.branch [
      | in-Some+in_ok-more w ↦ (
          let at = front_there slots vs i c.loop-at.rest.now have long left w.in-Some.code
          (sym c.slot_of.ensures ∙ w.in-Some.is) in
          ap (λ (b : Bor (List ℕ)). b.now) w.rest-is
          ∙ (w.in_ok-more.ensures (get_or vs i no_value)
          (body_of (laid slots (i + 1) (drop (i + 1) vs)))
          (fit_at i fields vs w.index-fields-at.result no_value fit lt) at.0 at.1).1)
      | in_default w ↦ (
          ap (λ (b : Bor (List ℕ)). b.now) w.rest-is
          ∙ none_there slots vs i c.loop-at.rest.now have long left
          (sym c.slot_of.ensures ∙ w.in_default.is))
    ]

pub split_stored-requires-2 : goal.split_stored-requires-2
split_stored-requires-2 g c =
    short_there c.args.fields.now c.args.index c.index-fields-index.result c.requires.short
    c.requires.there

pub returns-in_err-front : goal.returns-in_err-front
returns-in_err-front g c = λ vs fit have same.
    let slots = g.L.Layout.slots c.args.layout.now in
    let fields = c.args.fields.now in
    let i = c.args.index in
    let end : c.loop-at.at ≡ i = omega (arith, c.loop-at-test.false, c.loop-at.auto.at-end) in
    let at = front_there slots vs i c.loop-at.rest.now have
    (omega (arith, c.requires.there, fit_length fields vs fit))
    (c.loop-at.invariant vs fit have same ∙ ap (λ n. body_of (laid slots n (drop n vs))) end)
    c.in_ok-code.code (sym c.slot_of-2.ensures ∙ c.in_ok-code.was) in
    absurd (c.in_err-front.ensures (get_or vs i no_value)
    (body_of (laid slots (i + 1) (drop (i + 1) vs)))
    (fit_at i fields vs c.index-fields-index.result no_value fit c.requires.there) at.0 at.1)

pub returns : goal.returns
returns g c = λ vs fit have same.
    let slots = g.L.Layout.slots c.args.layout.now in
    let fields = c.args.fields.now in
    let i = c.args.index in
    let end : c.loop-at.at ≡ i = omega (arith, c.loop-at-test.false, c.loop-at.auto.at-end) in
    let slot = sym c.slot_of-2.ensures ∙ c.in_ok-code.was in
    let at = front_there slots vs i c.loop-at.rest.now have
    (omega (arith, c.requires.there, fit_length fields vs fit))
    (c.loop-at.invariant vs fit have same ∙ ap (λ n. body_of (laid slots n (drop n vs))) end)
    c.in_ok-code.code slot in
    subst (λ o. IsFront o (get_or vs i no_value) (Some c.in_ok-front.front)) (sym slot)
    (c.in_ok-front.ensures (get_or vs i no_value) (body_of (laid slots (i + 1) (drop (i + 1) vs)))
    (fit_at i fields vs c.index-fields-index.result no_value fit c.requires.there) at.0 at.1).0
