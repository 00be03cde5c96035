-- What is put of a fragment, and what a fragment must be for it.
use Rattle.std.specs.Prelude.{◌≡◌, ◌⊎◌, ℕ, List, [], ◌∷◌, map, get_or, slice_set, Some, if◌then◌else◌}
use Rattle.gx_values.specs.declared.values.Code.{Code}
use Rattle.gx_values.specs.declared.values.Value.{Value}
use Rattle.gx_values.specs.declared.records.Field.{Field}
use Rattle.gx_values.specs.declared.records.Rec.{Rec}
use Rattle.gx_values.specs.Values.{no_value}
use Rattle.gx_ports.specs.declared.leaves.Entry.{Entry}
use Rattle.gx_codec.specs.declared.slots.Slot.{Slot}
use Rattle.gx_codec.specs.Slots.{AreSlots, AreStorable}
use Rattle.gx_access.specs.declared.access.Fragment.{Fragment}
use Rattle.gx_access.specs.declared.access.View.{View}
use Rattle.gx_access.specs.Access.{fragment_entries, is_absent}
use Rattle.gx_access.specs.Held.{leaf_pair}

-- the values of the slots as the record has them, each at its number
abbrev pub restored : List Slot → List Value → List Value → List Value
restored [] vs ws = ws
restored (s ∷ slots) vs ws = restored slots vs (slice_set ws s.number (get_or vs s.number no_value))

-- no slot, or one with a code
abbrev pub IsBare : List Slot → Type 0
IsBare [] = Unit {0}
IsBare (s ∷ []) = (c : Code) × (s.code ≡ Some c)
IsBare (s ∷ t ∷ slots) = ⊥

-- its slots are fields of which there are so many; where no layer makes them one of bytes, there is
-- at most one, by its code
pub record IsReadable (count : ℕ) (x : View) : Type 0 where
  pub slots : AreSlots count x.slots
  pub bare : x.wraps ≡ 0 → IsBare x.slots

-- those of a fragment that has an entry of the record
abbrev pub put_fragment : Fragment → List Value → List Value → List Value
put_fragment f vs ws = if is_absent f.view.groups vs then ws else restored f.view.slots vs ws

-- the entries are those of the fragment of some record, or none
abbrev pub IsOfOne : List Field → Fragment → List Entry → Type 0
IsOfOne fields f es = (es ≡ []) ⊎ (r : Rec) × AreStorable fields f.view.slots r.fields
    × (es ≡ map leaf_pair (fragment_entries r f))
