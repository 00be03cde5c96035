-- What the children of a layer have of a record, and what follows of what is known of children.
use Rattle.std.specs.Prelude.{ℕ, Bool, zero, suc, not, List, [], ◌∷◌, map, length, nat_lt, slice_index_or, Option, Some, None, if◌then◌else◌}
use Rattle.gx_values.specs.declared.values.Code.{Code}
use Rattle.gx_values.specs.declared.records.Field.{Field}
use Rattle.gx_encode.specs.Forms.{changed}
use Rattle.gx_split.specs.Groups.{chosen}
use Rattle.gx_partition.specs.declared.place.Where.{Where}
use Rattle.gx_partition.specs.declared.place.Where.TheVariants.{Key, Rest}
use Rattle.gx_codec.specs.declared.slots.Slot.{Slot}
use Rattle.gx_access.specs.declared.access.View.{View}
use Rattle.gx_access.specs.declared.access.Chooser.{Chooser}
use Rattle.gx_access.specs.declared.access.Chooser.TheVariants.{OfKey, OfData}
use Rattle.gx_access.specs.Access.{flat, below_actual, code_slot, is_free, others_group}

-- only where the data fields stand alone
abbrev pub if_flat : {A : Type 0} → ℕ → Option A → Option A
if_flat zero o = o
if_flat (suc n) o = None

-- how many layers `actual` may stand above each other
abbrev pub most_wraps : ℕ
most_wraps = 65535

-- below one more
abbrev pub room_below : View → Option View
room_below x = if nat_lt x.wraps most_wraps then Some (below_actual x) else None

-- with a field by its code
abbrev pub coded_view : ℕ → Code → View → Option View
coded_view i c x =
    if_flat x.wraps (if is_free i x.slots
    then Some (flat (changed i (code_slot c) x.slots) x.groups) else None)

-- the two groups; the second is a group of its own
abbrev pub group_views : List Bool → List Field → View → Option (View × View)
group_views mask fields x =
    if_flat x.wraps (Some (
      flat (chosen mask x.slots) x.groups,
      flat (chosen (map not mask) x.slots)
          (others_group (map not mask) fields x.slots ∷ x.groups),
    ))

-- one field alone
abbrev pub column_view : Slot → View → View
column_view s x = flat (s ∷ []) x.groups

abbrev pub no_slot : Slot
no_slot = record { number = 0; code = None }

-- the field of a partition: one of the key anywhere, a data field only where they stand alone
abbrev pub chooser_of : Where → View → Option Chooser
chooser_of (Key i) x = Some (OfKey i)
chooser_of (Rest i) x =
    if_flat x.wraps (if nat_lt i (length x.slots)
    then Some (OfData (slice_index_or x.slots i no_slot)) else None)
