-- How the records of a tree are stored: which leaves have which of their data fields, and how.
use Rattle.std.specs.Prelude.{ℕ, zero, suc, Bool, true, false, ◌&&◌, ◌||◌, List, [], ◌∷◌, map, is_none, slice_index_or, Option, Some, None, if◌then◌else◌}
use Rattle.std.specs.List.{flat_map}
use Rattle.gx_values.specs.declared.values.Code.{Code}
use Rattle.gx_values.specs.declared.values.Value.{Value}
use Rattle.gx_values.specs.declared.records.Field.{Field}
use Rattle.gx_values.specs.declared.records.Rec.{Rec}
use Rattle.gx_values.specs.Values.{is_default, no_value}
use Rattle.gx_mapping.specs.Rule.{Rule, data_parts}
use Rattle.gx_actual.specs.Bodies.{body_of}
use Rattle.gx_split.specs.Groups.{chosen, defaults_of}
use Rattle.gx_partition.specs.Bounds.{child_of}
use Rattle.gx_divide.specs.Pieces.{pieces}
use Rattle.gx_divide.specs.Rules.{bytes_in, numbered}
use Rattle.gx_stack.specs.declared.entries.LeafEntry.{LeafEntry}
use Rattle.gx_stack.specs.Tree.{Tree, Kids, leaf, layer, no_kids, kid, entry_in}
use Rattle.gx_codec.specs.declared.slots.Slot.{Slot}
use Rattle.gx_access.specs.declared.access.Tested.{Tested}
use Rattle.gx_access.specs.declared.access.View.{View}
use Rattle.gx_access.specs.declared.access.Fragment.{Fragment}
use Rattle.gx_access.specs.declared.access.Chooser.{Chooser}
use Rattle.gx_access.specs.declared.access.Chooser.TheVariants.{OfKey, OfData}
use Rattle.gx_codec.specs.Stored.{wrapped}
use Rattle.gx_codec.specs.Slots.{pick}

-- ---- what a node has of a record

abbrev pub picked : List Value → List Slot → List Value
picked vs slots = map (pick vs) slots

-- the record as the node has it
abbrev pub seen : View → Rec → Rec
seen x r = wrapped x.wraps (record { key = r.key; fields = picked r.fields x.slots })

-- each field of the group has its default
abbrev pub all_default : List Tested → List Value → Bool
all_default [] vs = true
all_default (t ∷ g) vs = is_default t.field (pick vs t.slot) && all_default g vs

-- the record has no part in one of the groups
abbrev pub is_absent : List (List Tested) → List Value → Bool
is_absent [] vs = false
is_absent (g ∷ groups) vs = all_default g vs || is_absent groups vs

-- the fields of a node and their slots
abbrev pub tested : List Field → List Slot → List Tested
tested [] slots = []
tested (f ∷ fields) [] = []
tested (f ∷ fields) (s ∷ slots) = record { slot = s; field = f } ∷ tested fields slots

-- ---- fragments

-- the entry in a leaf, or those of the pieces
abbrev pub leaf_entries : ℕ → Option ℕ → Rec → List LeafEntry
leaf_entries n None r = entry_in n r ∷ []
leaf_entries n (Some size) r =
    map (λ p. entry_in n p.rec) (numbered r.key 0 (pieces size (bytes_in r.fields)))

abbrev pub fragment_entries : Rec → Fragment → List LeafEntry
fragment_entries r f =
    if is_absent f.view.groups r.fields then [] else leaf_entries f.leaf f.piece (seen f.view r)

abbrev pub fragments_entries : List Fragment → Rec → List LeafEntry
fragments_entries fs r = flat_map (fragment_entries r) fs

-- the bytes of the fields where each is its default, one after the other
abbrev pub defaults_body : List Field → List Slot → List ℕ
defaults_body fields slots = body_of (picked (defaults_of fields) slots)

-- those of a view that is in some group
abbrev pub defaults_in : List Field → List Slot → List (List Tested) → Option (List ℕ)
defaults_in fields slots [] = None
defaults_in fields slots (g ∷ groups) = Some (defaults_body fields slots)

-- the fragment of a view of a file with these fields
abbrev pub fragment_of : List Field → ℕ → Option ℕ → View → Fragment
fragment_of fields n piece x = record {
  leaf = n;
  piece = piece;
  view = x;
  defaults = defaults_in fields x.slots x.groups;
}

-- ---- alternatives

abbrev pub chooser_value : Chooser → Rec → Value
chooser_value (OfKey i) r = slice_index_or r.key i no_value
chooser_value (OfData s) r = pick r.fields s

mutual
  -- the fragments of each record, or a choice by a field's value
  pub data Choice : Type 0 where
    Only : List Fragment → Choice
    By : Chooser → List Value → Choices → Choice

  pub data Choices : Type 0 where
    no_choices : Choices
    choice : Choice → Choices → Choices

abbrev mutual
  pub fragments_of : Choice → Rec → List Fragment
  fragments_of (Only fs) r = fs
  fragments_of (By at bounds cs) r = fragments_at cs (child_of bounds (chooser_value at r)) r

  pub fragments_at : Choices → ℕ → Rec → List Fragment
  fragments_at no_choices c r = []
  fragments_at (choice ch cs) zero r = fragments_of ch r
  fragments_at (choice ch cs) (suc c) r = fragments_at cs c r

-- ---- the data entries of a record

-- the leaf entries that records are gathered from
abbrev mutual
  pub data_entries : {M : Type 0} (rule : M → Rule) → Tree M → Rec → List LeafEntry
  data_entries rule (leaf n form) r = entry_in n r ∷ []
  data_entries rule (layer m ks) r =
      flat_map (λ p. kid_data rule ks p.child p.rec) (data_parts (rule m) r)

  pub kid_data : {M : Type 0} (rule : M → Rule) → Kids M → ℕ → Rec → List LeafEntry
  kid_data rule no_kids c r = []
  kid_data rule (kid t ks) zero r = data_entries rule t r
  kid_data rule (kid t ks) (suc c) r = kid_data rule ks c r

-- ---- whole records

-- the slots of so many fields, from number i on, none with a code
abbrev pub all_slots : ℕ → ℕ → List Slot
all_slots i zero = []
all_slots i (suc n) = record { number = i; code = None } ∷ all_slots (suc i) n

abbrev pub whole_view : ℕ → View
whole_view n = record { wraps = 0; slots = all_slots 0 n; groups = [] }

-- ---- views of children

abbrev pub flat : List Slot → List (List Tested) → View
flat slots groups = record { wraps = 0; slots = slots; groups = groups }

abbrev pub below_actual : View → View
below_actual x = record { wraps = suc x.wraps; slots = x.slots; groups = x.groups }

abbrev pub code_slot : Code → Slot → Slot
code_slot c s = record { number = s.number; code = Some c }

-- the field has no code yet
abbrev pub is_free : ℕ → List Slot → Bool
is_free i [] = true
is_free zero (s ∷ slots) = is_none s.code
is_free (suc i) (s ∷ slots) = is_free i slots

abbrev pub others_group : List Bool → List Field → List Slot → List Tested
others_group mask fields slots = chosen mask (tested fields slots)
