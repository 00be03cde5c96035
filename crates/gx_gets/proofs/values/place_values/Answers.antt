use Rattle.std.proofs.Common.{◌≡◌, ◌<◌, List, length, map, None, ◌+◌, sym, ap, subst, ◌∙◌, drop, take, get_or}
use Rattle.std.specs.Prelude.{slice_set, IfSome}
use Rattle.std.proofs.lemmas.Option.{same_Some}
use Rattle.std.proofs.lemmas.List.{take_more}
use Rattle.gx_values.specs.declared.records.Field.{Field}
use Rattle.gx_values.specs.Values.{Fits, AreFit, no_field, no_value}
use Rattle.gx_actual.specs.Bodies.{body_of, IsShort}
use Rattle.gx_codec.specs.declared.slots.Slot.{Slot}
use Rattle.gx_codec.specs.Slots.{pick}
use Rattle.gx_codec.proofs.SlotLemmas.{slot_there, storable_there, short_there, body_there}
use Rattle.gx_gets.specs.Restored.{restored}
use Rattle.gx_gets.proofs.PlaceLemmas.{restored_more, fit_set}
use Rattle.gx_gets.proofs.values.place_values.Goals as goal

abbrev none : Slot
none = record { number = 0; code = None }

pub field_at-field-requires : goal.field_at-field-requires
field_at-field-requires c = slot_there (length c.args.fields.now) c.args.slots.now
    c.loop-slot.slot-index none c.requires.slots c.loop-slot-test.true

pub split_stored-requires : goal.split_stored-requires
split_stored-requires c =
    let s = get_or c.args.slots.now c.loop-slot.slot-index none in
    subst (λ (f : Field). IsShort f.kind) (sym c.field_at-field.ensures)
    (short_there c.args.fields.now s.number no_field c.requires.short
    (slot_there (length c.args.fields.now) c.args.slots.now c.loop-slot.slot-index none
    c.requires.slots c.loop-slot-test.true))

pub returns-in_default-clause-placed : goal.returns-in_default-clause-placed
returns-in_default-clause-placed c = λ vs fit same.
    let i = c.loop-slot.slot-index in
    let slots = c.args.slots.now in
    let s = get_or slots i none in
    let v = get_or vs s.number no_value in
    let there = storable_there c.args.fields.now slots vs i none fit c.loop-slot-test.true in
    absurd (c.in_default.ensures v (body_of (map (pick vs) (drop (i + 1) slots)))
    (subst (λ (f : Field). Fits f.kind v) (sym c.field_at-field.ensures) there.0) there.1
    ((c.loop-slot.invariant.so_far vs fit same).0 ∙ body_there slots vs i none c.loop-slot-test.true))

pub set_value-requires : goal.set_value-requires
set_value-requires c =
    let below = slot_there (length c.args.fields.now) c.args.slots.now c.loop-slot.slot-index none
    c.requires.slots c.loop-slot-test.true in
    subst (λ n. (get_or c.args.slots.now c.loop-slot.slot-index none).number < n)
    (sym (c.loop-slot.invariant.long ∙ c.requires.long)) below

pub returns-in_default-2-clause-placed : goal.returns-in_default-2-clause-placed
returns-in_default-2-clause-placed c = λ vs fit same.
    let i = c.loop-slot.slot-index in
    let slots = c.args.slots.now in
    let s = get_or slots i none in
    let v = get_or vs s.number no_value in
    let there = storable_there c.args.fields.now slots vs i none fit c.loop-slot-test.true in
    let fits = subst (λ (f : Field). Fits f.kind v) (sym c.field_at-field.ensures) there.0 in
    let found = c.in-Some.ensures v (body_of (map (pick vs) (drop (i + 1) slots))) fits there.1
    ((c.loop-slot.invariant.so_far vs fit same).0 ∙ body_there slots vs i none c.loop-slot-test.true)
    in
    let read = c.in_ok-value.ensures.read v fits there.1 found.0 in
    let other = c.in_default-2.is in
    cc

pub loop-slot-preserved : goal.loop-slot-preserved
loop-slot-preserved c = record {
  long = c.set_value.ensures.same_length ∙ c.loop-slot.invariant.long;
  fit = λ before.
      let i = c.loop-slot.slot-index in
      let s = get_or c.args.slots.now i none in
      let below = slot_there (length c.args.fields.now) c.args.slots.now i none c.requires.slots
      c.loop-slot-test.true in
      let one : Fits c.field_at-field.result.now.kind c.in-Some-2.value =
      subst (λ o. IfSome o (Fits c.field_at-field.result.now.kind)) c.in-Some-2.is
      c.in_ok-value.ensures.fits in
      subst (AreFit c.args.fields.now) (sym c.set_value.ensures.set)
      (fit_set c.args.fields.now c.loop-slot.out s.number c.in-Some-2.value
      (c.loop-slot.invariant.fit before) below
      (subst (λ (f : Field). Fits f.kind c.in-Some-2.value) c.field_at-field.ensures one));
  so_far = λ vs fit same.
      let i = c.loop-slot.slot-index in
      let slots = c.args.slots.now in
      let s = get_or slots i none in
      let v = get_or vs s.number no_value in
      let ws = c.args.out.now in
      let there = storable_there c.args.fields.now slots vs i none fit c.loop-slot-test.true in
      let fits = subst (λ (f : Field). Fits f.kind v) (sym c.field_at-field.ensures) there.0 in
      let so_far = c.loop-slot.invariant.so_far vs fit same in
      let found = c.in-Some.ensures v (body_of (map (pick vs) (drop (i + 1) slots))) fits there.1
      (so_far.0 ∙ body_there slots vs i none c.loop-slot-test.true) in
      let read = c.in_ok-value.ensures.read v fits there.1 found.0 in
      let value_is : c.in-Some-2.value ≡ v =
      same_Some c.in-Some-2.value v (sym c.in-Some-2.is ∙ read) in (
        found.1,
        c.set_value.ensures.set ∙ (λ j. slice_set (so_far.1 j) s.number (value_is j))
            ∙ sym (restored_more (take i slots) s vs ws)
            ∙ ap (λ (l : List Slot). restored l vs ws) (sym (take_more slots i none c.loop-slot-test.true)),
      );
}
