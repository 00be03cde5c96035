-- A fragment's body is read slot by slot.
use Rattle.std.proofs.Common.{[], ◌≡◌, ℕ, zero, suc, ◌+◌, ◌<◌, List, ◌∷◌, ◌++◌, length, drop, get_or, map, refl, ap, ◌∙◌, arith}
use Rattle.std.proofs.Math.Seq.{drop-cons}
use Rattle.std.specs.Prelude.{slice_set}
use Rattle.gx_values.specs.declared.values.Value.{Value}
use Rattle.gx_values.specs.declared.records.Field.{Field}
use Rattle.gx_values.specs.Values.{Fits, no_field, no_value}
use Rattle.gx_actual.specs.Bodies.{field_bytes, body_of, AreShort, IsShort}
use Rattle.gx_codec.specs.declared.slots.Slot.{Slot}
use Rattle.gx_codec.specs.Stored.{HasCode}
use Rattle.gx_codec.specs.Slots.{pick, placed, AreSlots, AreStorable}

-- one slot more is placed behind the others
pub placed_more : (slots : List Slot) (s : Slot) (vs ws : List Value)
    → placed (slots ++ s ∷ []) vs ws ≡ slice_set (placed slots vs ws) s.number (pick vs s)
placed_more [] s vs ws = refl
placed_more (t ∷ slots) s vs ws = placed_more slots s vs (slice_set ws t.number (pick vs t))

-- what is known of the slot with a number
pub slot_there : (n : ℕ) (slots : List Slot) (i : ℕ) (d : Slot) → AreSlots n slots → i < length slots
    → (get_or slots i d).number < n
slot_there n [] i d are below = absurd (omega arith)
slot_there n (s ∷ slots) zero d are below = are.0
slot_there n (s ∷ slots) (suc i) d are below = slot_there n slots i d are.1 (omega arith)

pub storable_there : (fields : List Field) (slots : List Slot) (vs : List Value) (i : ℕ) (d : Slot)
    → AreStorable fields slots vs → i < length slots
    → Fits (get_or fields (get_or slots i d).number no_field).kind
    (get_or vs (get_or slots i d).number no_value)
    × HasCode (get_or slots i d).code (get_or vs (get_or slots i d).number no_value)
storable_there fields [] vs i d are below = absurd (omega arith)
storable_there fields (s ∷ slots) vs zero d are below = (are.0, are.1)
storable_there fields (s ∷ slots) vs (suc i) d are below =
    storable_there fields slots vs i d are.2 (omega arith)

pub short_there : (fields : List Field) (i : ℕ) (d : Field) → AreShort fields → i < length fields
    → IsShort (get_or fields i d).kind
short_there [] i d are below = absurd (omega arith)
short_there (f ∷ fields) zero d are below = are.0
short_there (f ∷ fields) (suc i) d are below = short_there fields i d are.1 (omega arith)

-- the body from a slot on begins with its value
pub body_there : (slots : List Slot) (vs : List Value) (i : ℕ) (d : Slot) → i < length slots
    → body_of (map (pick vs) (drop i slots))
    ≡ field_bytes (pick vs (get_or slots i d)) ++ body_of (map (pick vs) (drop (i + 1) slots))
body_there slots vs i d below =
    let next : suc i ≡ i + 1 = omega arith in
    ap (λ (l : List Slot). body_of (map (pick vs) l)) (drop-cons slots i d below)
    ∙ ap (λ n. field_bytes (pick vs (get_or slots i d)) ++ body_of (map (pick vs) (drop n slots))) next
