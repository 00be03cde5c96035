-- Bodies by slots: which fields stand in a body, in its order, and by which codes.
use Rattle.std.specs.Prelude.{ℕ, ◌<◌, List, [], ◌∷◌, get_or, slice_set}
use Rattle.gx_values.specs.declared.values.Value.{Value}
use Rattle.gx_values.specs.declared.records.Field.{Field}
use Rattle.gx_values.specs.Values.{Fits, no_field, no_value}
use Rattle.gx_codec.specs.declared.slots.Slot.{Slot}
use Rattle.gx_codec.specs.Stored.{stored_value, HasCode}

-- the value of a slot, by its code
abbrev pub pick : List Value → Slot → Value
pick vs s = stored_value s.code (get_or vs s.number no_value)

-- each slot is one of the fields
abbrev pub AreSlots : ℕ → List Slot → Type 0
AreSlots n [] = Unit {0}
AreSlots n (s ∷ slots) = (s.number < n) × AreSlots n slots

-- the value of each slot fits its field and has its code
abbrev pub AreStorable : List Field → List Slot → List Value → Type 0
AreStorable fields [] vs = Unit {0}
AreStorable fields (s ∷ slots) vs =
    Fits (get_or fields s.number no_field).kind (get_or vs s.number no_value)
    × HasCode s.code (get_or vs s.number no_value) × AreStorable fields slots vs

-- the values of the slots, each at its number
abbrev pub placed : List Slot → List Value → List Value → List Value
placed [] vs ws = ws
placed (s ∷ slots) vs ws = placed slots vs (slice_set ws s.number (pick vs s))
