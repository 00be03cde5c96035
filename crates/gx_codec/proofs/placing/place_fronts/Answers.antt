use Rattle.std.proofs.Common.{◌<◌, List, length, map, None, ◌+◌, sym, ap, subst, ◌∙◌, drop, take, get_or}
use Rattle.std.specs.Prelude.{slice_set}
use Rattle.std.proofs.lemmas.List.{take_more}
use Rattle.gx_values.specs.declared.records.Field.{Field}
use Rattle.gx_values.specs.Values.{Fits, no_field, no_value}
use Rattle.gx_values.specs.Borrowed.{value_of}
use Rattle.gx_actual.specs.Bodies.{body_of, IsShort}
use Rattle.gx_codec.specs.declared.slots.Slot.{Slot}
use Rattle.gx_codec.specs.Slots.{pick}
use Rattle.gx_codec.specs.Slots.{placed}
use Rattle.gx_codec.proofs.SlotLemmas.{slot_there, storable_there, short_there, body_there, placed_more}
use Rattle.gx_codec.proofs.placing.place_fronts.Goals as goal

abbrev none : Slot
none = record { number = 0; code = None }

pub field_at-field-requires : goal.field_at-field-requires
field_at-field-requires c = slot_there (length c.args.fields.now) c.args.slots.now
    c.loop-slot.slot-index none c.requires.slots c.loop-slot-test.true

pub split_stored-requires : goal.split_stored-requires
split_stored-requires c =
    let s = get_or c.args.slots.now c.loop-slot.slot-index none in
    subst (λ (f : Field). IsShort f.kind) (sym c.field_at-field.ensures)
    (short_there c.args.fields.now s.number no_field c.requires.short
    (slot_there (length c.args.fields.now) c.args.slots.now c.loop-slot.slot-index none
    c.requires.slots c.loop-slot-test.true))

pub returns-in_default-clause-placed : goal.returns-in_default-clause-placed
returns-in_default-clause-placed c = λ vs fit same.
    let i = c.loop-slot.slot-index in
    let slots = c.args.slots.now in
    let s = get_or slots i none in
    let v = get_or vs s.number no_value in
    let there = storable_there c.args.fields.now slots vs i none fit c.loop-slot-test.true in
    absurd (c.in_default.ensures v (body_of (map (pick vs) (drop (i + 1) slots)))
    (subst (λ (f : Field). Fits f.kind v) (sym c.field_at-field.ensures) there.0) there.1
    ((c.loop-slot.invariant.so_far vs fit same).0 ∙ body_there slots vs i none c.loop-slot-test.true))

pub set_front-requires : goal.set_front-requires
set_front-requires c =
    let below = slot_there (length c.args.fields.now) c.args.slots.now c.loop-slot.slot-index none
    c.requires.slots c.loop-slot-test.true in
    subst (λ n. (get_or c.args.slots.now c.loop-slot.slot-index none).number < n)
    (sym (c.loop-slot.invariant.long ∙ c.requires.long)) below

pub loop-slot-preserved : goal.loop-slot-preserved
loop-slot-preserved c = record {
  long = c.set_front.ensures.1 ∙ c.loop-slot.invariant.long;
  so_far = λ vs fit same.
      let i = c.loop-slot.slot-index in
      let slots = c.args.slots.now in
      let s = get_or slots i none in
      let v = get_or vs s.number no_value in
      let ws = map value_of c.args.out.now in
      let there = storable_there c.args.fields.now slots vs i none fit c.loop-slot-test.true in
      let so_far = c.loop-slot.invariant.so_far vs fit same in
      let found = c.in-Some.ensures v (body_of (map (pick vs) (drop (i + 1) slots)))
      (subst (λ (f : Field). Fits f.kind v) (sym c.field_at-field.ensures) there.0) there.1
      (so_far.0 ∙ body_there slots vs i none c.loop-slot-test.true) in (
        found.1,
        c.set_front.ensures.0 ∙ (λ j. slice_set (so_far.1 j) s.number (found.0 j))
            ∙ sym (placed_more (take i slots) s vs ws)
            ∙ ap (λ (l : List Slot). placed l vs ws) (sym (take_more slots i none c.loop-slot-test.true)),
      );
}
