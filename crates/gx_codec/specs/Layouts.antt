-- Bodies by a layout: which fields have their values in a body, in their order, and by which codes.
use Rattle.std.specs.Prelude.{◌≡◌, true, ℕ, suc, Bool, false, List, [], ◌∷◌, Option, Some, None, map, not, slice_index_or, IsSomeAnd, if◌then◌else◌}
use Rattle.gx_values.specs.declared.values.Code.{Code}
use Rattle.gx_values.specs.declared.values.Value.{Value}
use Rattle.gx_values.specs.declared.borrowed.ValueRef.{ValueRef}
use Rattle.gx_values.specs.Borrowed.{value_of}
use Rattle.gx_codec.specs.Stored.{code_at, stored_value, HasCode}

-- of each field, by its number, its slot
abbrev pub Slotting : Type 0
Slotting = ℕ → Option (Option Code)

-- all values as they are
abbrev pub plain_slot : Slotting
plain_slot n = Some None

-- all values, some by these codes
abbrev pub coded_slot : List (Option Code) → Slotting
coded_slot cs n = Some (code_at cs n)

-- those that are marked, as they are
abbrev pub marked_slot : List Bool → Slotting
marked_slot mask n = if slice_index_or mask n false then Some None else None

-- of each field, whether it is in the first group, or in the second
abbrev pub of_group : Bool → List Bool → List Bool
of_group true mask = mask
of_group false mask = map not mask

-- the value of a slot in front of the others
abbrev pub with_slot : Option (Option Code) → Value → List Value → List Value
with_slot None v others = others
with_slot (Some c) v others = stored_value c v ∷ others

-- the values in a body, of the fields from a number on
abbrev pub laid : Slotting → ℕ → List Value → List Value
laid slots n [] = []
laid slots n (v ∷ vs) = with_slot (slots n) v (laid slots (suc n) vs)

-- the value has the code of its slot
abbrev pub HasSlot : Option (Option Code) → Value → Type 0
HasSlot None v = Unit {0}
HasSlot (Some c) v = HasCode c v

abbrev pub HaveSlots : Slotting → ℕ → List Value → Type 0
HaveSlots slots n [] = Unit {0}
HaveSlots slots n (v ∷ vs) = HasSlot (slots n) v × HaveSlots slots (suc n) vs

-- what stands for a value, where the body has it
abbrev pub IsFront : Option (Option Code) → Value → Option ValueRef → Type 0
IsFront None v front = front ≡ None
IsFront (Some c) v front = IsSomeAnd front (λ f. value_of f ≡ stored_value c v)
